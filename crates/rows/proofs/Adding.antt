-- Running sums, row by row.
--   none_before         nothing lies before the first row
--   sum_suc, sum_after  the sum at the next row is that at a row and what lies between
-- Assumes nothing.
use Rattle.std.proofs.Common.{◌≡◌, ℕ, zero, suc, ◌+◌, ◌<◌, List, [], ◌∷◌, length, get_or, add-one, arith}
use Rattle.rows.specs.Sums.{sum_from, sum_before}

module _ {R : Type 0} (between : R → R → ℕ) where
  pub none_before : (rows : List R) → sum_before between rows 0 ≡ 0
  none_before [] = omega arith
  none_before (r ∷ rest) = omega arith

  from_suc : (r : R) (rest : List R) (i : ℕ) (d : R) → suc i < length (r ∷ rest) →
      sum_from between r rest (suc i) ≡
      sum_from between r rest i + between (get_or (r ∷ rest) i d) (get_or (r ∷ rest) (suc i) d)
  from_suc r [] i d l = absurd (omega arith)
  from_suc r (s ∷ rest) zero d l = omega arith
  from_suc r (s ∷ rest) (suc i) d l = omega (arith, from_suc s rest i d (omega arith))

  pub sum_suc : (rows : List R) (i : ℕ) (d : R) → suc i < length rows →
      sum_before between rows (suc i) ≡ sum_before between rows i + between (get_or rows i d) (get_or rows (suc i) d)
  sum_suc [] i d l = absurd (omega arith)
  sum_suc (r ∷ rest) i d l = from_suc r rest i d l

  pub sum_after : (rows : List R) (i : ℕ) (d : R) → i + 1 < length rows →
      sum_before between rows (i + 1) ≡ sum_before between rows i + between (get_or rows i d) (get_or rows (i + 1) d)
  sum_after rows i d l = rw add-one (sum_suc rows i d (omega arith))

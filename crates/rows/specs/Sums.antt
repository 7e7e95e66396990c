-- Running sums over rows: what lies between a row and the next, added up.
--   sum_from    from a row to the i-th after it
--   sum_before  from the first row of a table to row i
-- Assumes nothing.
use Rattle.std.specs.Prelude.{ℕ, zero, suc, ◌+◌, List, [], ◌∷◌}

module _ {R : Type 0} (between : R → R → ℕ) where
  abbrev pub sum_from : R → List R → ℕ → ℕ
  sum_from r rest zero = 0
  sum_from r [] (suc i) = 0
  sum_from r (s ∷ rest) (suc i) = between r s + sum_from s rest i

  abbrev pub sum_before : List R → ℕ → ℕ
  sum_before [] i = 0
  sum_before (r ∷ rest) i = sum_from r rest i

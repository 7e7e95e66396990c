-- How many rows of a table have begun.
--   Climbs   no row begins before the one before it
--   begun    how many rows have begun at x
--   Begun    the last of the first r rows has begun at x, and the row after them has not
-- Assumes nothing.
use Rattle.std.specs.Prelude.{◌≡◌, ℕ, ◌+◌, ◌<◌, ◌≤◌, List, [], ◌∷◌, length, filter, nat_le, slice_index_or}

module _ {R : Type 0} (begins : R → ℕ) where
  abbrev pub Climbs : List R → Type 0
  Climbs [] = Unit {0}
  Climbs (r ∷ []) = Unit {0}
  Climbs (r ∷ s ∷ rest) = (begins r ≤ begins s) × Climbs (s ∷ rest)

  abbrev pub begun : List R → ℕ → ℕ
  begun rows x = length (filter (λ r. nat_le (begins r) x) rows)

pub record Begun {R : Type 0} (begins : R → ℕ) (rows : List R) (x r : ℕ) : Type 0 where
  pub inside : r ≤ length rows
  pub last : (i : ℕ) (d : R) → i + 1 ≡ r → begins (slice_index_or rows i d) ≤ x
  pub next : (d : R) → r < length rows → x < begins (slice_index_or rows r d)

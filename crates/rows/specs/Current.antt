-- The row that is current somewhere, by rows that begin in order.
--   current_from  the last row, of one and those after it, that has begun at x
--   current       the same of a whole table; `none` where there is no row
--   Rises         each row begins after the one before it
-- Assumes nothing.
use Rattle.std.specs.Prelude.{ℕ, ◌<◌, cond, List, [], ◌∷◌, nat_lt}

module _ {R : Type 0} (begins : R → ℕ) where
  abbrev pub current_from : R → List R → ℕ → R
  current_from r [] x = r
  current_from r (s ∷ rest) x = cond (nat_lt x (begins s)) r (current_from s rest x)

  abbrev pub current : R → List R → ℕ → R
  current none [] x = none
  current none (r ∷ rest) x = current_from r rest x

  abbrev pub Rises : List R → Type 0
  Rises [] = Unit {0}
  Rises (r ∷ []) = Unit {0}
  Rises (r ∷ s ∷ rest) = (begins r < begins s) × Rises (s ∷ rest)

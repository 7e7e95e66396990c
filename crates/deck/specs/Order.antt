-- The order of a book as an operator reads it.
--   WrittenBefore    a cue's written form is earlier, part by part from the left, or the same with a lower number
--   InWrittenOrder   each cue stands before all that follow it
-- Assumes nothing.
use Rattle.std.specs.Prelude.{◌≡◌, ℕ, ◌<◌, ◌⊎◌, List, [], ◌∷◌}
use Rattle.std.specs.List.{AllByRecursion}
use Rattle.forms.specs.Pairing.{Earlier}
use Rattle.book.specs.declared.cue.Cue.{Cue}

module _ {V : Type 0} (parts : V → List ℕ) where
  abbrev pub WrittenBefore : Cue V → Cue V → Type 0
  WrittenBefore x y = Earlier (parts x.at) (parts y.at) ⊎ ((x.at ≡ y.at) × (x.number < y.number))

  abbrev pub InWrittenOrder : List (Cue V) → Type 0
  InWrittenOrder [] = Unit {0}
  InWrittenOrder (x ∷ xs) = AllByRecursion (WrittenBefore x) xs × InWrittenOrder xs

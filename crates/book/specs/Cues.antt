-- The order of the book, and what entering and striking a cue leave.
--   earlier   one cue stands before another: by position, then by number
--   entered   a list of cues with one more, before the first that it is not after
--   struck    a list of cues without the first of a number
--   numbered  whether a cue has a number
--   has       whether a list of cues has one of a number
--   Rising    each cue stands before all that follow it
--   Splits    the first r cues have a position below p, and the others have none
-- Assumes nothing.
use Rattle.std.specs.Prelude.{◌≡◌, ℕ, ◌<◌, ◌≤◌, Bool, true, false, cond, ◌&&◌, ◌||◌, List, [], ◌∷◌, length, ◌==◌, nat_lt, slice_index_or}
use Rattle.book.specs.declared.cue.Cue.{Cue}

abbrev pub earlier : {V : Type 0} → Cue V → Cue V → Bool
earlier a b = nat_lt a.position b.position || (a.position == b.position && nat_lt a.number b.number)

abbrev pub entered : {V : Type 0} → Cue V → List (Cue V) → List (Cue V)
entered c [] = c ∷ []
entered c (x ∷ xs) = cond (earlier x c) (x ∷ entered c xs) (c ∷ x ∷ xs)

abbrev pub numbered : {V : Type 0} → ℕ → Cue V → Bool
numbered n x = x.number == n

abbrev pub has : {V : Type 0} → ℕ → List (Cue V) → Bool
has n [] = false
has n (x ∷ xs) = numbered n x || has n xs

abbrev pub struck : {V : Type 0} → ℕ → List (Cue V) → List (Cue V)
struck n [] = []
struck n (x ∷ xs) = cond (numbered n x) xs (x ∷ struck n xs)

-- every cue of the list comes after c
abbrev pub AfterAll : {V : Type 0} → Cue V → List (Cue V) → Type 0
AfterAll c [] = Unit {0}
AfterAll c (x ∷ xs) = (earlier c x ≡ true) × AfterAll c xs

abbrev pub Rising : {V : Type 0} → List (Cue V) → Type 0
Rising [] = Unit {0}
Rising (x ∷ xs) = AfterAll x xs × Rising xs

pub record Splits (V : Type 0) (cs : List (Cue V)) (p r : ℕ) : Type 0 where
  pub inside : r ≤ length cs
  pub below : (k : ℕ) (d : Cue V) → k < r → (slice_index_or cs k d).position < p
  pub above : (k : ℕ) (d : Cue V) → r ≤ k → k < length cs → p ≤ (slice_index_or cs k d).position

-- What a written form is: a pairing of its valid values with the numbers below its count, in order.
--   Pairing     each valid value has one number below the count, and each such number one value
--   Earlier     one value stands before another, part by part from the left
--   InOrder     the order of values is that of their numbers
--   read_as     what reading a value answers
--   written_as  what writing a number answers
-- Assumes nothing.
use Rattle.std.specs.Prelude.{◌≡◌, ℕ, ◌<◌, if◌then◌else◌, ◌⊎◌, List, [], ◌∷◌, Some, Ok, Err, Option, Result, nat_lt}
use Rattle.std.specs.Option.{ok_or}
use Rattle.refusal.specs.declared.Refusal.{Refusal}
use Rattle.refusal.specs.declared.Refusal.TheVariants.{NotWritten, NotBelowCount}

pub record Pairing (V : Type 0) (count : ℕ) (number : V → Option ℕ) (value : ℕ → V) : Type 0 where
  pub below : (v : V) (n : ℕ) → number v ≡ Some n → n < count
  pub forth : (v : V) (n : ℕ) → number v ≡ Some n → value n ≡ v
  pub back : (n : ℕ) → n < count → number (value n) ≡ Some n

abbrev pub Earlier : List ℕ → List ℕ → Type 0
Earlier [] ys = ⊥
Earlier (x ∷ xs) [] = ⊥
Earlier (x ∷ xs) (y ∷ ys) = (x < y) ⊎ ((x ≡ y) × Earlier xs ys)

pub record InOrder (V : Type 0) (number : V → Option ℕ) (parts : V → List ℕ) : Type 0 where
  pub earlier : (v w : V) (m n : ℕ) → number v ≡ Some m → number w ≡ Some n → m < n → Earlier (parts v) (parts w)
  pub lower : (v w : V) (m n : ℕ) → number v ≡ Some m → number w ≡ Some n → Earlier (parts v) (parts w) → m < n

abbrev pub read_as : Option ℕ → Result ℕ Refusal
read_as o = ok_or o NotWritten

abbrev pub written_as : {V : Type 0} → ℕ → (ℕ → V) → ℕ → Result V Refusal
written_as count value n = if nat_lt n count then Ok (value n) else Err NotBelowCount

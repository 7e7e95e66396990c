-- What a list of calls says, read from the calls alone. Lists have the newest call first.
--   head       where the head is                    stands     the written form at which a number stands, where it is in
--   crosses    whether a play would cross the sample on which a number stands
--   crossed    how many numbers a play would cross  numbers_in how many numbers are in
--   added      how many lines the plays have added  refusal    why a call is refused, if it is
--   accepted   the accepted calls among all         crossings  how often plays crossed a sample while a number stood there
-- All but `accepted` read accepted calls only. Assumes nothing.
use Rattle.std.specs.Option.{option_and_then}
use Rattle.std.specs.Prelude.{ℕ, ◌+◌, ◌-◌, ◌^◌, Bool, false, cond, not, ◌&&◌, ◌||◌, List, [], ◌∷◌, is_some, Some, None, Option, ◌==◌, nat_eq, nat_le, nat_lt}
use Rattle.refusal.specs.declared.Refusal.{Refusal}
use Rattle.refusal.specs.declared.Refusal.TheVariants.{NoPosition, NotWritten, CueOutOfRange, CueAlreadyIn, NoFreePlace, CueNotIn, HeadPastEnd, NoFreeLines}
use Rattle.timebase.specs.Meaning.{tally}
use Rattle.history.specs.declared.call.Call.{Call}
use Rattle.history.specs.declared.call.Call.TheVariants.{Add, Strike, Seek, Play}
use Rattle.history.specs.World.{World, sample_of}

abbrev pub head : {V : Type 0} → List (Call V) → ℕ
head [] = 0
head (Add n v ∷ a) = head a
head (Strike n ∷ a) = head a
head (Seek h ∷ a) = h
head (Play n ∷ a) = head a + n

abbrev pub stands : {V : Type 0} → ℕ → List (Call V) → Option V
stands c [] = None
stands c (Add n v ∷ a) = cond (n == c) (Some v) (stands c a)
stands c (Strike n ∷ a) = cond (n == c) None (stands c a)
stands c (Seek h ∷ a) = stands c a
stands c (Play n ∷ a) = stands c a

-- a play of n at the head h crosses the sample s
abbrev pub in_block : ℕ → ℕ → ℕ → Bool
in_block h n s = nat_le h s && nat_lt s (h + n)

abbrev pub holds_of : {A : Type 0} → Option A → (A → Bool) → Bool
holds_of None test = false
holds_of (Some x) test = test x

-- cue numbers are below a million (shut, since a count up to it must not be computed)
unfoldable pub numbers : ℕ
numbers = 1000000

abbrev pub numbers_in : {V : Type 0} → List (Call V) → ℕ
numbers_in a = tally (λ c. is_some (stands c a)) numbers

-- the checks of a call in their order, each with what it refuses
abbrev pub first : List (Bool × Refusal) → Option Refusal
first [] = None
first (check ∷ checks) = cond check.0 (Some check.1) (first checks)

abbrev pub out_of_range : ℕ → Bool
out_of_range n = nat_lt n 1 || nat_lt 999999 n

-- the sample after the last: the head goes no further
abbrev pub end : ℕ
end = 2 ^ 36

module _ {V L : Type 0} (w : World V L) where
  abbrev pub stands_on : ℕ → List (Call V) → Option ℕ
  stands_on c a = option_and_then (sample_of w) (stands c a)

  abbrev pub crosses : List (Call V) → ℕ → ℕ → Bool
  crosses a n c = holds_of (stands_on c a) (in_block (head a) n)

  abbrev pub crossed : List (Call V) → ℕ → ℕ
  crossed a n = tally (crosses a n) numbers

  abbrev pub added : List (Call V) → ℕ
  added [] = 0
  added (Add n v ∷ a) = added a
  added (Strike n ∷ a) = added a
  added (Seek h ∷ a) = added a
  added (Play n ∷ a) = added a + crossed a n

  abbrev pub refusal : List (Call V) → Call V → Option Refusal
  refusal a (Add n v) =
      first ((out_of_range n, CueOutOfRange) ∷ (is_some (stands n a), CueAlreadyIn) ∷ (not (is_some (w.number v)), NotWritten)
      ∷ (not (is_some (sample_of w v)), NoPosition) ∷ (nat_le w.places (numbers_in a), NoFreePlace) ∷ [])
  refusal a (Strike n) = first ((out_of_range n, CueOutOfRange) ∷ (not (is_some (stands n a)), CueNotIn) ∷ [])
  refusal a (Seek h) = first ((nat_lt end h, HeadPastEnd) ∷ [])
  refusal a (Play n) = first ((nat_lt end (head a + n), HeadPastEnd) ∷ (nat_lt (w.lines - added a) (crossed a n), NoFreeLines) ∷ [])

  abbrev pub with_call : Option Refusal → Call V → List (Call V) → List (Call V)
  with_call None call a = call ∷ a
  with_call (Some e) call a = a

  abbrev pub accepted : List (Call V) → List (Call V)
  accepted [] = []
  accepted (call ∷ calls) = with_call (refusal (accepted calls) call) call (accepted calls)

  -- accepted plays that crossed the sample s while the number c stood there
  abbrev pub crossings : ℕ → ℕ → List (Call V) → ℕ
  crossings c s [] = 0
  crossings c s (Add n v ∷ a) = crossings c s a
  crossings c s (Strike n ∷ a) = crossings c s a
  crossings c s (Seek h ∷ a) = crossings c s a
  crossings c s (Play n ∷ a) = crossings c s a + cond (in_block (head a) n s && holds_of (stands_on c a) (λ t. nat_eq t s)) 1 0

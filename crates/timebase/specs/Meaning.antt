-- What a timebase means, and what its two questions are answered by.
--   Meaning      a length and a rule: the rule gives each position below the length a sample
--   last_sample  the last sample there is, 2^36 - 1
--   Sound        what every meaning keeps: it is short enough, its samples exist, and its rule never falls
--   placed       the answer to "which sample has this position?"
--   Least        the answer to "from which position on is this sample reached?"
--   Agree        the two answers never part
--   tally        how many numbers below a bound pass a test
--   located      the same answer as a number: how many positions lie before sample s
-- Assumes nothing.
use Rattle.std.specs.Prelude.{ℕ, zero, suc, ◌+◌, ◌^◌, ◌<◌, ◌≤◌, Bool, if◌then◌else◌, Ok, Err, Result, nat_lt}
use Rattle.refusal.specs.declared.Refusal.{Refusal}
use Rattle.refusal.specs.declared.Refusal.TheVariants.{NoPosition}

pub record Meaning : Type 0 where
  pub len : ℕ
  pub rule : ℕ → ℕ

abbrev pub last_sample : ℕ
last_sample = 68719476735

pub record Sound (m : Meaning) : Type 0 where
  pub short : m.len ≤ 2 ^ 36
  pub within : (p : ℕ) → p < m.len → m.rule p ≤ last_sample
  pub never_falls : (p q : ℕ) → p ≤ q → q < m.len → m.rule p ≤ m.rule q

abbrev pub placed : Meaning → ℕ → Result ℕ Refusal
placed m p = if nat_lt p m.len then Ok (m.rule p) else Err NoPosition

-- r is the least position whose sample is at least s, or the length where no position has one
pub record Least (m : Meaning) (s r : ℕ) : Type 0 where
  pub inside : r ≤ m.len
  pub reaches : r < m.len → s ≤ m.rule r
  pub before : (p : ℕ) → p < r → m.rule p < s

-- locate(s) = r stands at or before p exactly where s is at or before place(p)
abbrev pub Agree : Meaning → ℕ → ℕ → Type 0
Agree m s r = (p : ℕ) → p < m.len → (r ≤ p → s ≤ m.rule p) × (s ≤ m.rule p → r ≤ p)

abbrev pub tally : (ℕ → Bool) → ℕ → ℕ
tally test zero = 0
tally test (suc n) = tally test n + (if test n then 1 else 0)

abbrev pub located : Meaning → ℕ → ℕ
located m s = tally (λ p. nat_lt (m.rule p) s) m.len

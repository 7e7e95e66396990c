-- The layers: what each makes of the timebase below it.
--   Pair             back s is the least argument at which g is at least s
--   Ahead            g is never below its argument
--   on_samples       the meaning of a layer that changes samples by g: it ends where a result passes the last sample
--   checked          what such a layer makes of the lower timebase's sample: refused where the result passes the last sample
--   on_positions     the meaning of a layer that changes positions by g: it ends where a result reaches the lower length
--   delay_refusal, varispeed_refusal, start_refusal
--                    what making a layer is refused by
--   shifted, shifted_back
--                    a shift by n: x + n, and back
--   delayed, slid    delay by k: a shift of samples
--   scaled, reached  varispeed, in the timebase crate: s × a ÷ b rounded up, and back
--   started, begun   start at m: a shift of positions
--   pulled, pulled_back
--                    2:3 pull-down: 5 × p ÷ 2 rounded down, and back
-- Assumes nothing.
use Rattle.std.specs.Prelude.{ℕ, ◌+◌, ◌-◌, ◌*◌, ◌/◌, ◌^◌, ◌≤◌, Bool, if◌then◌else◌, Some, None, Ok, Err, Option, Result, nat_le, nat_lt}
use Rattle.refusal.specs.declared.Refusal.{Refusal}
use Rattle.refusal.specs.declared.Refusal.TheVariants.{BadMaking, NoPosition}
use Rattle.timebase.specs.Meaning.{Meaning, last_sample, tally}
use Rattle.timebase.specs.Scale.{in_range}

pub record Pair (g back : ℕ → ℕ) : Type 0 where
  pub reaches : (s t : ℕ) → s ≤ g t → back s ≤ t
  pub reached : (s t : ℕ) → back s ≤ t → s ≤ g t

abbrev pub Ahead : (ℕ → ℕ) → Type 0
Ahead g = (p : ℕ) → p ≤ g p

abbrev pub on_samples : (ℕ → ℕ) → Meaning → Meaning
on_samples g m =
    record { len = tally (λ p. nat_le (g (m.rule p)) last_sample) m.len; rule = λ p. g (m.rule p) }

abbrev pub checked : (ℕ → ℕ) → Result ℕ Refusal → Result ℕ Refusal
checked g (Ok s) = if nat_le (g s) last_sample then Ok (g s) else Err NoPosition
checked g (Err e) = Err e

-- no position past the lower length is counted, since g p is at least p
abbrev pub on_positions : (ℕ → ℕ) → Meaning → Meaning
on_positions g m =
    record { len = tally (λ p. nat_lt (g p) m.len) m.len; rule = λ p. m.rule (g p) }

abbrev pub shifted : ℕ → ℕ → ℕ
shifted n x = x + n

abbrev pub shifted_back : ℕ → ℕ → ℕ
shifted_back n x = x - n

abbrev pub delayed : ℕ → ℕ → ℕ
delayed = shifted

abbrev pub slid : ℕ → ℕ → ℕ
slid = shifted_back

abbrev pub started : ℕ → ℕ → ℕ
started = shifted

abbrev pub begun : ℕ → ℕ → ℕ
begun = shifted_back

abbrev pub pulled : ℕ → ℕ
pulled p = 5 * p / 2

abbrev pub pulled_back : ℕ → ℕ
pulled_back p = (2 * p + 4) / 5

-- a layer's numbers have to be in range
abbrev pub made_if : Bool → Option Refusal
made_if fits = if fits then None else Some BadMaking

abbrev pub delay_refusal : ℕ → Option Refusal
delay_refusal k = made_if (nat_le k last_sample)

abbrev pub varispeed_refusal : ℕ → ℕ → Option Refusal
varispeed_refusal a b = made_if (in_range a b (2 ^ 20))

abbrev pub start_refusal : ℕ → Option Refusal
start_refusal m = made_if (nat_le m (2 ^ 36))

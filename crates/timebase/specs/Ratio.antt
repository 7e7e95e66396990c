-- The ratio base: position p falls on p × n ÷ d rounded up.
--   ratio_meaning    the meaning of a ratio base of length f
--   ratio_refusal    what making one is refused by: a number out of range, or a last position past the last sample
--   counter_refusal  the same of a frame counter, r samples a second at a frame rate: n is r × seconds, d is frames
-- Assumes nothing.
use Rattle.std.specs.Prelude.{ℕ, ◌-◌, ◌*◌, ◌^◌, if◌then◌else◌, ◌&&◌, Some, None, Option, nat_le, nat_lt}
use Rattle.refusal.specs.declared.Refusal.{Refusal}
use Rattle.refusal.specs.declared.Refusal.TheVariants.{BadMaking, RatioTooLong}
use Rattle.timebase.specs.declared.rates.FrameRate.{FrameRate}
use Rattle.timebase.specs.Rates.{frames_of, seconds_of}
use Rattle.timebase.specs.Meaning.{Meaning, last_sample}
use Rattle.timebase.specs.Scale.{scaled, in_range}

abbrev pub ratio_meaning : ℕ → ℕ → ℕ → Meaning
ratio_meaning n d f = record { len = f; rule = scaled n d }

-- n and d are to be from 1 to 2^27, and f at most 2^24
abbrev pub ratio_refusal : ℕ → ℕ → ℕ → Option Refusal
ratio_refusal n d f =
    if in_range n d (2 ^ 27) && nat_le f (2 ^ 24)
    then (if nat_lt 0 f && nat_lt last_sample (scaled n d (f - 1)) then Some RatioTooLong else None)
    else Some BadMaking

abbrev pub counter_refusal : FrameRate → ℕ → ℕ → Option Refusal
counter_refusal rate r f = ratio_refusal (r * seconds_of rate) (frames_of rate) f

-- What a table of taps means as a timebase.
--   taps_meaning  position p falls on entry p, and there are as many positions as entries
-- Assumes nothing.
use Rattle.std.specs.Prelude.{ℕ, List, length, slice_index}
use Rattle.timebase.specs.Meaning.{Meaning}

abbrev pub taps_meaning : List ℕ → Meaning
taps_meaning samples = record { len = length samples; rule = λ p. slice_index samples p }

-- The rules of a table of taps, as tests on its samples.
--   short        there are at most 4,096
--   follows      a sample may stand after another: it is no lower, and not past the last sample
--   never_falls  each sample may stand after the one before it, the first after a given one
-- Assumes nothing.
use Rattle.std.specs.Prelude.{ℕ, Bool, true, ◌&&◌, List, length, nat_le}
use Rattle.timebase.specs.Meaning.{last_sample}
use Rattle.rows.specs.Chains.{chained}

abbrev pub short : List ℕ → Bool
short samples = nat_le (length samples) 4096

abbrev pub follows : ℕ → ℕ → Bool
follows before next = nat_le before next && nat_le next last_sample

abbrev pub never_falls : ℕ → List ℕ → Bool
never_falls before samples = chained follows (λ _. true) before samples

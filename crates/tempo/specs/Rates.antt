-- The sample rates that a tempo map may have, each as a fraction in lowest terms.
--   known_rate  the rate is one of the four
--   samples_at  the samples that fall in as many microseconds as micros_at says
--   micros_at   the microseconds in which they fall
-- Assumes nothing.
use Rattle.std.specs.Prelude.{ℕ, Bool, cond, ◌||◌, ◌==◌}

abbrev pub known_rate : ℕ → Bool
known_rate rate = rate == 44100 || rate == 48000 || rate == 88200 || rate == 96000

abbrev pub samples_at : ℕ → ℕ
samples_at rate = cond (rate == 44100) 441 (cond (rate == 48000) 6 (cond (rate == 88200) 441 12))

abbrev pub micros_at : ℕ → ℕ
micros_at rate = cond (rate == 44100) 10000 (cond (rate == 48000) 125 (cond (rate == 88200) 5000 125))

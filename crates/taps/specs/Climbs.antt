-- What samples that never fall keep, and that their meaning is sound.
--   next_climbs  the first is no lower than the one before and exists, and the rest never fall from it on
--   at_least     no sample is lower than the one before the first
--   climbs_le    a later sample is no lower
--   exists_at    every sample exists
--   taps_sound   so a table of them is a timebase
-- Assumes nothing.
use Rattle.std.specs.Prelude.{◌≡◌, ℕ, zero, suc, ◌<◌, ◌≤◌, true, List, [], ◌∷◌, length, slice_index}
use Rattle.std.proofs.Common.{not-suc-le-zero, le_of_suc-le-suc, arith}
use Rattle.std.proofs.lemmas.Bool.{and_parts}
use Rattle.std.proofs.lemmas.Bool.Decides.{nat_tests}
use Rattle.timebase.specs.Meaning.{Sound, last_sample}
use Rattle.taps.specs.Rules.{short, follows, never_falls}
use Rattle.taps.specs.Tables.{taps_meaning}

record Next (before s : ℕ) (rest : List ℕ) : Type 0 where
  pub low : before ≤ s
  pub there : s ≤ last_sample
  pub on : never_falls s rest ≡ true

next_climbs : (before s : ℕ) (rest : List ℕ) → never_falls before (s ∷ rest) ≡ true → Next before s rest
next_climbs before s rest h =
    let parts = and_parts (follows before s) (never_falls s rest) h in
    let first : follows before s ≡ true = parts.0 in
    record { low = grind (arith, nat_tests); there = grind (arith, nat_tests); on = parts.1 }

at_least : (before : ℕ) (samples : List ℕ) → never_falls before samples ≡ true →
    (k : ℕ) → k < length samples → before ≤ slice_index samples k
at_least before [] c k h = absurd (not-suc-le-zero h)
at_least before (s ∷ rest) c zero h = (next_climbs before s rest c).low
at_least before (s ∷ rest) c (suc k) h =
    let n = next_climbs before s rest c in
    omega (arith, n.low, at_least s rest n.on k (le_of_suc-le-suc h))

pub climbs_le : (before : ℕ) (samples : List ℕ) → never_falls before samples ≡ true →
    (j k : ℕ) → j ≤ k → k < length samples → slice_index samples j ≤ slice_index samples k
climbs_le before [] c j k le h = absurd (not-suc-le-zero h)
climbs_le before (s ∷ rest) c zero zero le h = omega arith
climbs_le before (s ∷ rest) c zero (suc k) le h =
    at_least s rest (next_climbs before s rest c).on k (le_of_suc-le-suc h)
climbs_le before (s ∷ rest) c (suc j) zero le h = absurd (not-suc-le-zero le)
climbs_le before (s ∷ rest) c (suc j) (suc k) le h =
    climbs_le s rest (next_climbs before s rest c).on j k (le_of_suc-le-suc le) (le_of_suc-le-suc h)

pub exists_at : (before : ℕ) (samples : List ℕ) → never_falls before samples ≡ true →
    (k : ℕ) → k < length samples → slice_index samples k ≤ last_sample
exists_at before [] c k h = absurd (not-suc-le-zero h)
exists_at before (s ∷ rest) c zero h = (next_climbs before s rest c).there
exists_at before (s ∷ rest) c (suc k) h = exists_at s rest (next_climbs before s rest c).on k (le_of_suc-le-suc h)

pub taps_sound : (samples : List ℕ) → short samples ≡ true → never_falls 0 samples ≡ true → Sound (taps_meaning samples)
taps_sound samples few c =
    let most : length samples ≤ 4096 = grind (arith, nat_tests) in
    record { short = omega arith; within = exists_at 0 samples c; never_falls = climbs_le 0 samples c }

-- The ratio base keeps the law of a timebase.
--   ratio_within  where the last position has a sample, all have
--   ratio_sound   its meaning is sound
--   ratio_least   the least argument that reaches, cut at the length, is what locate answers
--   ratio_agrees  and it agrees with place
-- Assumes nothing.
use Rattle.std.specs.Prelude.{ℕ, ◌-◌, ◌^◌, ◌<◌, ◌≤◌, min}
use Rattle.std.proofs.Common.{arith}
use Rattle.timebase.specs.Meaning.{Sound, Least, Agree, last_sample}
use Rattle.timebase.specs.Scale.{scaled, reached}
use Rattle.timebase.specs.Ratio.{ratio_meaning}
use Rattle.timebase.specs.Locates.{least_from, least_capped, least_agrees}
use Rattle.timebase.specs.Scales.{scaled_reached, scaled_rises}

abbrev pub Within : ℕ → ℕ → ℕ → Type 0
Within n d f = (p : ℕ) → p < f → scaled n d p ≤ last_sample

pub ratio_within : (n d f : ℕ) → 0 < n → 0 < d → (0 < f → scaled n d (f - 1) ≤ last_sample) → Within n d f
ratio_within n d f hn hd last p h =
    let up = scaled_rises n d p (f - 1) hn hd (omega arith) in
    let end = last (omega arith) in
    omega arith

pub ratio_sound : (n d f : ℕ) → 0 < n → 0 < d → f ≤ 2 ^ 24 → Within n d f → Sound (ratio_meaning n d f)
ratio_sound n d f hn hd short within =
    record {
      short = omega arith;
      within = within;
      never_falls = λ p q h _. scaled_rises n d p q hn hd h;
    }

pub ratio_least : (n d f s : ℕ) → 0 < n → 0 < d → f ≤ 2 ^ 24 → Within n d f →
    Least (ratio_meaning n d f) s (min (reached n d (min s (2 ^ 36))) f)
ratio_least n d f s hn hd short within =
    let t = min s (2 ^ 36) in
    let m = ratio_meaning n d f in
    least_capped m (ratio_sound n d f hn hd short within) s _
    (least_from m t (min (reached n d t) f) (omega arith)
    (λ p h. let both = scaled_reached n d t p hn hd in
    (λ k. both.1 (omega arith), λ k. let e = both.0 k in omega arith)))

pub ratio_agrees : (n d f s : ℕ) → 0 < n → 0 < d → f ≤ 2 ^ 24 → Within n d f →
    Agree (ratio_meaning n d f) s (min (reached n d (min s (2 ^ 36))) f)
ratio_agrees n d f s hn hd short within =
    least_agrees (ratio_meaning n d f) (ratio_sound n d f hn hd short within) s _ (ratio_least n d f s hn hd short within)

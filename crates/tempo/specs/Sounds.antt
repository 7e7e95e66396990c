-- A tempo map keeps the law of a timebase, and its ticks add up.
--   span_some, span_small  what the rate's microseconds come to in a sum
--   tempo_sound            its meaning is sound
--   tempo_least            the tick that parts those that reach, cut at the length, is what locate answers
--   adds_up                the law of tempo
-- Assumes nothing.
use Rattle.std.proofs.Common.{inl, inr, mul-le-mul, div-le_self, arith}
use Rattle.std.specs.Prelude.{ℕ, ◌+◌, ◌-◌, ◌*◌, ◌/◌, ◌^◌, ◌<◌, ◌≤◌, min, ◌==◌}
use Rattle.std.proofs.lemmas.Bool.{cases_Bool, cond-true, cond-false}
use Rattle.timebase.specs.Meaning.{Sound, Least}
use Rattle.timebase.specs.Locates.{least_from}
use Rattle.timebase.specs.Scales.{scaled_reached, scaled_rises}
use Rattle.tempo.specs.Maps.{rows_of, map_micros, samples_of, sum_reaching, tempo_meaning, AddsUp}
use Rattle.tempo.specs.Lies.{Parted}
use Rattle.tempo.specs.declared.map.TempoMap.{TempoMap}
use Rattle.tempo.specs.Whole.{micros_start, micros_follow}
use Rattle.tempo.specs.Rising.{micros_not_fall}
use Rattle.tempo.specs.Scaling.{day_product, day_fits}
use Rattle.tempo.specs.Held.{kept_of, rated_of, some_held, placed_in, in_day}

pub span_some : (m : TempoMap) → 1 ≤ m.division * m.rate.micros
span_some m = omega (arith, mul-le-mul (kept_of m).low (rated_of m).lasts)

pub span_small : (m : TempoMap) → m.division * m.rate.micros ≤ 327670000
span_small m = omega (arith, mul-le-mul (kept_of m).high (rated_of m).short)

pub up_small : (m : TempoMap) (x : ℕ) → x ≤ m.division * 86400000000 →
    x * m.rate.samples ≤ 8294400000 * (m.division * m.rate.micros)
up_small m x h = day_product m.division m.rate.samples m.rate.micros x h (rated_of m).slow

pub reach_small : (m : TempoMap) (t : ℕ) → t ≤ 8294400000 → t * (m.division * m.rate.micros) ≤ 8294400000 * 327670000
reach_small m t h = mul-le-mul h (span_small m)

-- nothing within a day falls past the latest sample
pub up_bound : (m : TempoMap) (x : ℕ) → x ≤ m.division * 86400000000 → samples_of m x ≤ 8294400000
up_bound m x h =
    day_fits m.division m.rate.samples m.rate.micros x
    (kept_of m).low (rated_of m).lasts h (rated_of m).slow

not_late : (m : TempoMap) (p : ℕ) → p < m.last + 1 → samples_of m (map_micros m p) ≤ 8294400000
not_late m p h = up_bound m (map_micros m p) (in_day m p (omega arith))

pub tempo_sound : (m : TempoMap) → Sound (tempo_meaning m)
tempo_sound m =
    let d = m.division * m.rate.micros in
    record {
      short = omega (arith, (placed_in m 0 (some_held m)).short);
      within = λ p h. omega (arith, not_late m p h);
      never_falls = λ p q h _. scaled_rises m.rate.samples d (map_micros m p) (map_micros m q)
          (rated_of m).some (span_some m) (micros_not_fall (rows_of m) m.last p q (kept_of m).all h);
    }

pub reach_fits : (m : TempoMap) (s : ℕ) → sum_reaching m (min s 8294400001) ≤ 2 ^ 62
reach_fits m s =
    let t = min s 8294400001 in
    let less = div-le_self ((t - 1) * (m.division * m.rate.micros)) m.rate.samples in
    let product = reach_small m (t - 1) (omega arith) in
    elim (cases_Bool (t == 0)) [
      | inl e ↦ omega (arith, cond-true _ 0 ((t - 1) * (m.division * m.rate.micros) / m.rate.samples + 1) e)
      | inr e ↦ omega (arith, cond-false _ 0 ((t - 1) * (m.division * m.rate.micros) / m.rate.samples + 1) e)
    ]

least_below : (m : TempoMap) (s r : ℕ) → Parted (map_micros m) (sum_reaching m s) r →
    Least (tempo_meaning m) s (min r (m.last + 1))
least_below m s r parted =
    let n = m.rate.samples in
    let d = m.division * m.rate.micros in
    least_from (tempo_meaning m) s (min r (m.last + 1)) (omega arith)
    (λ p h. let both = scaled_reached n d s (map_micros m p) (rated_of m).some (span_some m) in
    let ticks = parted p in
    (λ le. both.1 (ticks.0 (omega arith)), λ le. omega (arith, ticks.1 (both.0 le))))

pub tempo_least : (m : TempoMap) (s r : ℕ) → Parted (map_micros m) (sum_reaching m (min s 8294400001)) r →
    Least (tempo_meaning m) s (min r (m.last + 1))
tempo_least m s r parted =
    let t = min s 8294400001 in
    let least : Least (tempo_meaning m) t (min r (m.last + 1)) = least_below m t r parted in
    record {
      inside = least.inside;
      reaches = λ h. omega (arith, least.reaches h, not_late m (min r (m.last + 1)) h);
      before = λ p h. omega (arith, least.before p h);
    }

pub adds_up : (m : TempoMap) → AddsUp m
adds_up m =
    record {
      starts = micros_start (rows_of m) m.last (kept_of m).all;
      follows = λ p. micros_follow (rows_of m) m.last p (kept_of m).all;
      rated = (rated_of m).is;
    }

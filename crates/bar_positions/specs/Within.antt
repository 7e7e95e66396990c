-- The bar in which a tick lies, and the ticks of its beats.
--   Lies          tick n lies in bar p + 1: the bar has begun, and the next has not
--   reached_lies  a tick lies in the bar that is read off the bars begun
--   lies_reached  and in no other
--   Beats         a bar's beats have ticks, and are as many as its meter says
--   reached       what finding the bar of a tick gives
-- Assumes nothing.
use Rattle.std.specs.Prelude.{◌≡◌, ℕ, ◌+◌, ◌-◌, ◌*◌, ◌<◌, ◌≤◌, true, List, refl}
use Rattle.std.proofs.Common.{ap, inl, inr, arith}
use Rattle.std.proofs.lemmas.Nat.{mul-le}
use Rattle.std.proofs.lemmas.Bool.{cases_lt}
use Rattle.meter.specs.Rules.{beat_of, kept}
use Rattle.meter.specs.BarLines.{bar_start, bars_begun, FirstAt}
use Rattle.meter.specs.declared.row.MeterRow.{MeterRow}
use Rattle.meter.specs.Found.{lines_start, lines_rise, lines_follow}
use Rattle.rows.proofs.Strict.{rises_over}
use Rattle.meter.specs.Lines.{counted_first, first_counted}
use Rattle.meter.specs.Meters.{Metered, metered, beat_some}
use Rattle.bar_positions.specs.BarPositions.{meter_of, bar_reached, position_count}
use Rattle.bar_positions.specs.Reached.{Reached}

pub record Lies (d : ℕ) (rows : List MeterRow) (p n : ℕ) : Type 0 where
  pub begun : bar_start d rows p ≤ n
  pub not_next : n < bar_start d rows (p + 1)

pub line_le : (d : ℕ) (rows : List MeterRow) (p q : ℕ) → kept d rows ≡ true → p ≤ q
    → bar_start d rows p ≤ bar_start d rows q
line_le d rows p q k h =
    let f : ℕ → ℕ = bar_start d rows in
    elim (cases_lt p q) [
      | inl lt ↦ omega (arith, rises_over f (λ b. lines_rise d rows b k) p q lt)
      | inr ge ↦ let e : p ≡ q = omega arith in omega (arith, ap f e)
    ]

-- tick 0 is a bar line, so a bar has begun at every tick
pub some_begun : (d : ℕ) (rows : List MeterRow) (n : ℕ) → kept d rows ≡ true → 1 ≤ bars_begun d rows (n + 1)
some_begun d rows n k =
    let f : ℕ → ℕ = bar_start d rows in
    let r : ℕ = bars_begun d rows (n + 1) in
    let first : FirstAt f (n + 1) r = counted_first f (λ p. lines_rise d rows p k) (n + 1) in
    let none : r ≡ 0 → 1 ≤ r = λ e. absurd (omega (arith, first.reaches, ap f e, lines_start d rows k)) in
    elim (cases_lt 0 r) [ inl lt ↦ lt | inr z ↦ none (omega arith) ]

pub reached_lies : (d : ℕ) (rows : List MeterRow) (n : ℕ) → kept d rows ≡ true → Lies d rows (bar_reached d rows n) n
reached_lies d rows n k =
    let f : ℕ → ℕ = bar_start d rows in
    let r : ℕ = bars_begun d rows (n + 1) in
    let first : FirstAt f (n + 1) r = counted_first f (λ p. lines_rise d rows p k) (n + 1) in
    let next : r - 1 + 1 ≡ r = omega (arith, some_begun d rows n k) in
    record {
      begun = omega (arith, first.before (r - 1) (omega arith));
      not_next = omega (arith, first.reaches, ap f next);
    }

pub lies_reached : (d : ℕ) (rows : List MeterRow) (p n : ℕ) → kept d rows ≡ true → Lies d rows p n
    → bar_reached d rows n ≡ p
lies_reached d rows p n k l =
    let f : ℕ → ℕ = bar_start d rows in
    let first : FirstAt f (n + 1) (p + 1) =
    record {
      reaches = omega (arith, l.not_next);
      before = λ q h. omega (arith, line_le d rows q p k (omega arith), l.begun);
    } in
    omega (arith, first_counted f (λ b. lines_rise d rows b k) (n + 1) (p + 1) first)

pub record Beats (d : ℕ) (rows : List MeterRow) (p : ℕ) : Type 0 where
  pub some : 1 ≤ beat_of d (meter_of d rows p)
  pub few : (meter_of d rows p).nn ≤ 64
  pub whole : bar_start d rows (p + 1) ≡ bar_start d rows p + (meter_of d rows p).nn * beat_of d (meter_of d rows p)

pub beats : (d : ℕ) (rows : List MeterRow) (p : ℕ) → kept d rows ≡ true → Beats d rows p
beats d rows p k =
    let m : Metered d rows (bar_start d rows p) = metered d rows (bar_start d rows p) k in
    record {
      some = beat_some d rows (bar_start d rows p) k;
      few = m.range.few_beats;
      whole = lines_follow d rows p k;
    }

pub reached : (d : ℕ) (rows : List MeterRow) (n : ℕ) → kept d rows ≡ true → n < position_count d rows
    → Reached d rows n (bar_reached d rows n)
reached d rows n k h =
    let p : ℕ = bar_reached d rows n in
    let beat : ℕ = beat_of d (meter_of d rows p) in
    let l : Lies d rows p n = reached_lies d rows n k in
    let b : Beats d rows p = beats d rows p k in
    let same : beat ≤ beat = omega arith in
    let long = mul-le (meter_of d rows p).nn beat 64 beat b.few same in
    record {
      is = refl;
      few = elim (cases_lt p 65535) [
        | inl lt ↦ lt
        | inr ge ↦ absurd (omega (arith, l.begun, line_le d rows 65535 p k ge))
      ];
      begun = l.begun;
      within = omega (arith, l.begun, l.not_next, b.whole, long);
    }

-- Bar positions pair with the ticks before the bar after the last, in order.
-- Assumes nothing.
use Rattle.std.specs.Prelude.{◌≡◌, ℕ, ◌+◌, ◌-◌, ◌*◌, ◌/◌, ◌%◌, ◌<◌, ◌≤◌, true, List, Some, refl}
use Rattle.std.proofs.Common.{ap, subst, ◌∙◌, arith}
use Rattle.std.proofs.lemmas.Nat.{div-add-mod', div-mul-add, mod-mul-add, div_below, mod_below}
use Rattle.meter.specs.Rules.{beat_of, kept}
use Rattle.meter.specs.BarLines.{bar_start}
use Rattle.meter.specs.declared.row.MeterRow.{MeterRow}
use Rattle.forms.specs.Pairing.{Pairing, InOrder}
use Rattle.bar_positions.specs.BarPositions.{meter_of, bar_reached, position_number, position_count, written_in, position_of, position_parts}
use Rattle.bar_positions.specs.declared.position.BarPosition.{BarPosition}
use Rattle.bar_positions.specs.Within.{Lies, line_le, reached_lies, lies_reached, Beats, beats, reached}
use Rattle.bar_positions.specs.Standing.{Stands, stands, numbered, stands_lies}
use Rattle.bar_positions.specs.Ordering.{position_lower, position_earlier}

pub position_below : (d : ℕ) (rows : List MeterRow) → kept d rows ≡ true → (v : BarPosition) (n : ℕ)
    → position_number d rows v ≡ Some n → n < position_count d rows
position_below d rows k v n e =
    let s = stands d rows v n e in
    let last : v.bar - 1 + 1 ≤ 65535 = omega (arith, s.some_bar, s.few_bars) in
    omega (arith, (stands_lies d rows v n k s).not_next, line_le d rows (v.bar - 1 + 1) 65535 k last)

written_is : (p beat rest : ℕ) (v : BarPosition) → p + 1 ≡ v.bar → rest / beat + 1 ≡ v.beat → rest % beat ≡ v.tick
    → written_in p beat rest ≡ v
written_is p beat rest v a b c = rw (a, b, c) refl

pub position_forth : (d : ℕ) (rows : List MeterRow) → kept d rows ≡ true → (v : BarPosition) (n : ℕ)
    → position_number d rows v ≡ Some n → position_of d rows n ≡ v
position_forth d rows k v n e =
    let s = stands d rows v n e in
    let p : ℕ = v.bar - 1 in
    let beat : ℕ = beat_of d (meter_of d rows p) in
    let rest : n - bar_start d rows p ≡ (v.beat - 1) * beat + v.tick = omega (arith, s.is) in
    let beats-are : (n - bar_start d rows p) / beat ≡ v.beat - 1
    = ap (λ x. x / beat) rest ∙ div-mul-add (v.beat - 1) beat v.tick s.tick< in
    let ticks-are : (n - bar_start d rows p) % beat ≡ v.tick
    = ap (λ x. x % beat) rest ∙ mod-mul-add (v.beat - 1) beat v.tick s.tick< in
    ap (λ q. written_in q (beat_of d (meter_of d rows q)) (n - bar_start d rows q))
    (lies_reached d rows p n k (stands_lies d rows v n k s))
    ∙ written_is p beat (n - bar_start d rows p) v (omega (arith, s.some_bar)) (omega (arith, s.some_beat)) ticks-are

-- what is written of a tick in bar p + 1 is a position of that bar, with that tick
pub written_stands : (d : ℕ) (rows : List MeterRow) (p n : ℕ) → kept d rows ≡ true → p < 65535 → Lies d rows p n
    → Stands d rows (written_in p (beat_of d (meter_of d rows p)) (n - bar_start d rows p)) n
written_stands d rows p n k few l =
    let beat : ℕ → ℕ = λ q. beat_of d (meter_of d rows q) in
    let rest : ℕ = n - bar_start d rows p in
    let same : p ≡ p + 1 - 1 = omega arith in
    let b : Beats d rows p = beats d rows p k in
    let beat< : rest / beat p < (meter_of d rows p).nn
    = div_below rest (beat p) (meter_of d rows p).nn b.some (omega (arith, l.begun, l.not_next, b.whole)) in
    let less : rest / beat p + 1 - 1 ≡ rest / beat p = omega arith in
    let is : bar_start d rows p + (rest / beat p + 1 - 1) * beat p + rest % beat p ≡ n
    = omega (arith, l.begun, div-add-mod' rest (beat p), ap (λ x. x * beat p) less) in
    record {
      some_bar = omega arith;
      few_bars = omega arith;
      some_beat = omega arith;
      few_beats = subst (λ q. rest / beat p + 1 ≤ (meter_of d rows q).nn) same (omega arith);
      tick< = subst (λ q. rest % beat p < beat q) same (mod_below rest (beat p) b.some);
      is = subst (λ q. bar_start d rows q + (rest / beat p + 1 - 1) * beat q + rest % beat p ≡ n) same is;
    }

pub position_back : (d : ℕ) (rows : List MeterRow) → kept d rows ≡ true → (n : ℕ) → n < position_count d rows
    → position_number d rows (position_of d rows n) ≡ Some n
position_back d rows k n h =
    let p : ℕ = bar_reached d rows n in
    let s = written_stands d rows p n k (reached d rows n k h).few (reached_lies d rows n k) in
    numbered d rows (position_of d rows n) n s

pub position_paired : (d : ℕ) (rows : List MeterRow) → kept d rows ≡ true
    → Pairing BarPosition (position_count d rows) (position_number d rows) (position_of d rows)
position_paired d rows k = record {
  below = position_below d rows k;
  forth = position_forth d rows k;
  back = position_back d rows k;
}

pub position_ordered : (d : ℕ) (rows : List MeterRow) → kept d rows ≡ true
    → InOrder BarPosition (position_number d rows) position_parts
position_ordered d rows k = record { earlier = position_earlier d rows k; lower = position_lower d rows k }

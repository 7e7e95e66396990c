-- A position that a table has: what its parts are, and the bar in which its tick lies.
--   Stands       a table has the position, and n is its tick
--   stands       what a position's having number n says
--   numbered     and back
--   stands_lies  the tick lies in the position's bar
-- Assumes nothing.
use Rattle.std.specs.Prelude.{◌≡◌, ℕ, ◌+◌, ◌-◌, ◌*◌, ◌<◌, ◌≤◌, Bool, true, false, cond, List, Some, None, refl}
use Rattle.std.proofs.Common.{mul_comm, arith}
use Rattle.std.proofs.lemmas.Nat.{mul-add-lt}
use Rattle.std.proofs.lemmas.Bool.Decides.{nat_tests}
use Rattle.meter.specs.Rules.{beat_of, kept}
use Rattle.meter.specs.BarLines.{bar_start}
use Rattle.meter.specs.declared.row.MeterRow.{MeterRow}
use Rattle.bar_positions.specs.BarPositions.{meter_of, valid, tick_in, position_number}
use Rattle.bar_positions.specs.declared.position.BarPosition.{BarPosition}
use Rattle.bar_positions.specs.Within.{Lies, beats}

pub record Stands (d : ℕ) (rows : List MeterRow) (v : BarPosition) (n : ℕ) : Type 0 where
  pub some_bar : 1 ≤ v.bar
  pub few_bars : v.bar ≤ 65535
  pub some_beat : 1 ≤ v.beat
  pub few_beats : v.beat ≤ (meter_of d rows (v.bar - 1)).nn
  pub tick< : v.tick < beat_of d (meter_of d rows (v.bar - 1))
  pub is : tick_in (bar_start d rows (v.bar - 1)) (beat_of d (meter_of d rows (v.bar - 1))) v ≡ n

some_from : (v : Bool) (x n : ℕ) → cond v (Some x) None ≡ Some n → (v ≡ true) × (x ≡ n)
some_from true x n e = (refl, (cc))
some_from false x n e = let z : ◌≡◌ {A = ℕ} 0 1 = cc in absurd (omega arith)

some_to : (v : Bool) (x n : ℕ) → v ≡ true → x ≡ n → cond v (Some x) None ≡ Some n
some_to v x n p e = rw (p, e) refl

pub stands : (d : ℕ) (rows : List MeterRow) (v : BarPosition) (n : ℕ) → position_number d rows v ≡ Some n
    → Stands d rows v n
stands d rows v n e =
    let p : ℕ = v.bar - 1 in
    let h = some_from (valid d rows v) (tick_in (bar_start d rows p) (beat_of d (meter_of d rows p)) v) n e in
    let has : valid d rows v ≡ true = h.0 in
    record {
      some_bar = grind (arith, nat_tests);
      few_bars = grind (arith, nat_tests);
      some_beat = grind (arith, nat_tests);
      few_beats = grind (arith, nat_tests);
      tick< = grind (arith, nat_tests);
      is = h.1;
    }

stands_valid : (d : ℕ) (rows : List MeterRow) (v : BarPosition) (n : ℕ) → Stands d rows v n → valid d rows v ≡ true
stands_valid d rows v n s = grind (arith, nat_tests)

pub numbered : (d : ℕ) (rows : List MeterRow) (v : BarPosition) (n : ℕ) → Stands d rows v n
    → position_number d rows v ≡ Some n
numbered d rows v n s =
    let p : ℕ = v.bar - 1 in
    let t : ℕ = tick_in (bar_start d rows p) (beat_of d (meter_of d rows p)) v in
    some_to (valid d rows v) t n (stands_valid d rows v n s) s.is

pub stands_lies : (d : ℕ) (rows : List MeterRow) (v : BarPosition) (n : ℕ) → kept d rows ≡ true → Stands d rows v n
    → Lies d rows (v.bar - 1) n
stands_lies d rows v n k s =
    let p : ℕ = v.bar - 1 in
    let nn : ℕ = (meter_of d rows p).nn in
    let beat : ℕ = beat_of d (meter_of d rows p) in
    let in-bar : (v.beat - 1) * beat + v.tick < beat * nn =
    mul-add-lt (v.beat - 1) beat v.tick nn (omega (arith, s.some_beat, s.few_beats)) s.tick< in
    record {
      begun = omega (arith, s.is);
      not_next = omega (arith, s.is, in-bar, mul_comm beat nn, (beats d rows p k).whole);
    }

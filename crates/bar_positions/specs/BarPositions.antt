-- Positions in ticks written as bar, beat and tick, by the division and the rows of a meter table.
--   last_bar         the last bar that a position can name
--   meter_of         the row whose meter is current where bar p + 1 begins
--   stands_in        beat and tick stand in a bar of so many beats of so many ticks
--   valid            a table has the position: its bar is one from 1 to the last, and beat and tick stand in it
--   tick_in          the tick of a beat and a tick of the bar that begins at tick `start`
--   position_number  the tick of a position, where it is valid
--   position_count   the tick at which the bar after the last would begin
--   bar_reached      the bar in which tick n lies, counted from 0: one less than the bars that begin at or before it
--   written_in       the position `rest` ticks into bar p + 1, a beat having `beat` ticks
--   position_of      the position of tick n
--   no_position      a position that no table has
--   position_parts   a position's parts, the weightiest first
-- Assumes nothing.
use Rattle.std.specs.Prelude.{ℕ, ◌+◌, ◌-◌, ◌*◌, ◌/◌, ◌%◌, Bool, cond, ◌&&◌, List, [], ◌∷◌, Some, None, Option, nat_le, nat_lt}
use Rattle.meter.specs.Rules.{beat_of}
use Rattle.meter.specs.BarLines.{bar_start, bars_begun, row_at}
use Rattle.meter.specs.declared.row.MeterRow.{MeterRow}
use Rattle.bar_positions.specs.declared.position.BarPosition.{BarPosition}

abbrev pub last_bar : ℕ
last_bar = 65535

abbrev pub meter_of : ℕ → List MeterRow → ℕ → MeterRow
meter_of division rows p = row_at rows (bar_start division rows p)

abbrev pub stands_in : ℕ → ℕ → BarPosition → Bool
stands_in beats beat v = nat_le 1 v.beat && nat_le v.beat beats && nat_lt v.tick beat

abbrev pub valid : ℕ → List MeterRow → BarPosition → Bool
valid division rows v =
    let r : MeterRow = meter_of division rows (v.bar - 1) in
    nat_le 1 v.bar && nat_le v.bar last_bar && stands_in r.nn (beat_of division r) v

abbrev pub tick_in : ℕ → ℕ → BarPosition → ℕ
tick_in start beat v = start + (v.beat - 1) * beat + v.tick

abbrev pub position_number : ℕ → List MeterRow → BarPosition → Option ℕ
position_number division rows v =
    cond (valid division rows v)
    (Some (tick_in (bar_start division rows (v.bar - 1)) (beat_of division (meter_of division rows (v.bar - 1))) v))
    None

abbrev pub position_count : ℕ → List MeterRow → ℕ
position_count division rows = bar_start division rows last_bar

abbrev pub bar_reached : ℕ → List MeterRow → ℕ → ℕ
bar_reached division rows n = bars_begun division rows (n + 1) - 1

abbrev pub written_in : ℕ → ℕ → ℕ → BarPosition
written_in p beat rest = record { bar = p + 1; beat = rest / beat + 1; tick = rest % beat }

abbrev pub position_of : ℕ → List MeterRow → ℕ → BarPosition
position_of division rows n =
    let p : ℕ = bar_reached division rows n in
    written_in p (beat_of division (meter_of division rows p)) (n - bar_start division rows p)

abbrev pub no_position : BarPosition
no_position = record { bar = 0; beat = 1; tick = 0 }

abbrev pub position_parts : BarPosition → List ℕ
position_parts v = v.bar ∷ (v.beat ∷ (v.tick ∷ []))

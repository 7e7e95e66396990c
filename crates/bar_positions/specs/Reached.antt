-- What finding the bar of a tick gives.
--   Reached   bar p + 1 is the one in which tick n lies: it is none after the last, it has begun,
--             and the tick lies no more beats into it than a meter can have
-- Assumes nothing.
use Rattle.std.specs.Prelude.{◌≡◌, ℕ, ◌-◌, ◌*◌, ◌<◌, ◌≤◌, List}
use Rattle.meter.specs.Rules.{beat_of}
use Rattle.meter.specs.BarLines.{bar_start}
use Rattle.meter.specs.declared.row.MeterRow.{MeterRow}
use Rattle.bar_positions.specs.BarPositions.{last_bar, meter_of, bar_reached}

pub record Reached (division : ℕ) (rows : List MeterRow) (n p : ℕ) : Type 0 where
  pub is : p ≡ bar_reached division rows n
  pub few : p < last_bar
  pub begun : bar_start division rows p ≤ n
  pub within : n - bar_start division rows p < 64 * beat_of division (meter_of division rows p)

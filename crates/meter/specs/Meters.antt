-- The meter that is current at a tick keeps a row's rules, so no bar is longer than the longest there can be.
--   Metered       what the rules say of the row that is current at tick t
--   metered       they say it of every lawful table
--   beat_some     a beat has a tick at least
--   lines_within  bar lines lie no further apart than 8,388,352 ticks: 64 beats of a whole note at division 32,767
-- Assumes nothing.
use Rattle.std.specs.Prelude.{◌≡◌, ℕ, zero, suc, ◌*◌, ◌^◌, ◌<◌, ◌≤◌, true, List, length}
use Rattle.std.proofs.Common.{ap, add-one, arith}
use Rattle.rows.proofs.Currents.{current_keeps}
use Rattle.meter.specs.Rules.{beat_of, bar_of, kept}
use Rattle.meter.specs.BarLines.{no_row, bar_start, tick_of, row_at}
use Rattle.meter.specs.declared.row.MeterRow.{MeterRow}
use Rattle.meter.specs.Ranges.{InRange, beat_pos, bar_below}
use Rattle.meter.specs.Whole.{Placed, placed_at}
use Rattle.meter.specs.Found.{some_rows, lines_start, lines_follow}

pub record Metered (d : ℕ) (rows : List MeterRow) (t : ℕ) : Type 0 where
  pub low : 1 ≤ d
  pub high : d ≤ 32767
  pub range : InRange d (row_at rows t)
  pub short : bar_of d (row_at rows t) ≤ 8388352

pub metered : (d : ℕ) (rows : List MeterRow) (t : ℕ) → kept d rows ≡ true → Metered d rows t
metered d rows t k =
    let some : 0 < length rows = some_rows d rows k in
    let first : Placed d rows 0 = placed_at d rows 0 k some in
    let range : InRange d (row_at rows t) =
    current_keeps tick_of (InRange d) no_row rows t no_row some (λ i l. (placed_at d rows i k l).range) in
    record {
      low = first.low;
      high = first.high;
      range = range;
      short = bar_below d (row_at rows t) first.high range.few_beats;
    }

pub beat_some : (d : ℕ) (rows : List MeterRow) (t : ℕ) → kept d rows ≡ true → 1 ≤ beat_of d (row_at rows t)
beat_some d rows t k =
    let m : Metered d rows t = metered d rows t k in
    beat_pos (4 * d) (2 ^ (row_at rows t).dd) (omega (arith, m.low)) m.range.whole

pub lines_within : (d : ℕ) (rows : List MeterRow) (p : ℕ) → kept d rows ≡ true → bar_start d rows p ≤ p * 8388352
lines_within d rows zero k = omega (arith, lines_start d rows k)
lines_within d rows (suc p) k =
    let m : Metered d rows (bar_start d rows p) = metered d rows (bar_start d rows p) k in
    omega (arith, lines_within d rows p k, lines_follow d rows p k, ap (bar_start d rows) (add-one p), m.short)

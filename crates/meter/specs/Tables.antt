-- What a meter table holds, and what making one answers.
--   rows_of   the rows that a table was made of
--   Making    the answer to making a table of these rows: the table of just them, or the refusal, by the rules
--   bar_tick  the tick at which bar p + 1 begins by a table
--   bars_to   the bars that begin before tick t by a table
--   Lines     the law of bar lines: they begin at tick 0, each lies a bar of its current meter after the one before,
--             and the bars begun before a tick are back of them
-- Assumes nothing.
use Rattle.std.specs.Prelude.{◌≡◌, ℕ, ◌+◌, ◌≤◌, true, false, List, Ok, Err, Result}
use Rattle.refusal.specs.declared.Refusal.{Refusal}
use Rattle.refusal.specs.declared.Refusal.TheVariants.{BadMaking}
use Rattle.meter.specs.Rules.{bar_of, kept}
use Rattle.meter.specs.BarLines.{bar_start, bars_begun, row_at}
use Rattle.meter.specs.Counted.{rows_in}
use Rattle.meter.specs.declared.row.MeterRow.{MeterRow}
use Rattle.meter.specs.declared.table.MeterTable.{MeterTable}

abbrev pub rows_of : MeterTable → List MeterRow
rows_of m = rows_in m.len m.rows

abbrev pub Making : ℕ → List MeterRow → Result MeterTable Refusal → Type 0
Making division rows (Ok m) = (kept division rows ≡ true) × (m.division ≡ division) × (rows_of m ≡ rows)
Making division rows (Err e) = (kept division rows ≡ false) × (e ≡ BadMaking)

abbrev pub bar_tick : MeterTable → ℕ → ℕ
bar_tick m p = bar_start m.division (rows_of m) p

abbrev pub bars_to : MeterTable → ℕ → ℕ
bars_to m t = bars_begun m.division (rows_of m) t

pub record Lines (m : MeterTable) : Type 0 where
  pub starts : bar_tick m 0 ≡ 0
  pub follows : (p : ℕ) → bar_tick m (p + 1) ≡ bar_tick m p + bar_of m.division (row_at (rows_of m) (bar_tick m p))
  pub parted : (p t : ℕ) → (t ≤ bar_tick m p → bars_to m t ≤ p) × (bars_to m t ≤ p → t ≤ bar_tick m p)

-- The row of a table in which a bar or a tick lies.
--   BarIn    bar p lies in row i: the row's bars have begun, and the next row's have not
--   TickIn   tick t lies in row i, alike; the row's meter is the one that is current there
-- Assumes nothing.
use Rattle.std.specs.Prelude.{◌≡◌, ℕ, ◌+◌, ◌<◌, ◌≤◌, slice_index_or}
use Rattle.meter.specs.BarLines.{row_at}
use Rattle.meter.specs.Counted.{no_counted}
use Rattle.meter.specs.Tables.{rows_of}
use Rattle.meter.specs.declared.table.MeterTable.{MeterTable}

pub record BarIn (m : MeterTable) (p i : ℕ) : Type 0 where
  pub there : i < m.len
  pub begun : (slice_index_or m.rows i no_counted).before ≤ p
  pub not_next : i + 1 < m.len → p < (slice_index_or m.rows (i + 1) no_counted).before

pub record TickIn (m : MeterTable) (t i : ℕ) : Type 0 where
  pub there : i < m.len
  pub begun : (slice_index_or m.rows i no_counted).row.tick ≤ t
  pub current : (slice_index_or m.rows i no_counted).row ≡ row_at (rows_of m) t
  pub not_next : i + 1 < m.len → t < (slice_index_or m.rows (i + 1) no_counted).row.tick

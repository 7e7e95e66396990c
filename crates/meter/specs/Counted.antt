-- The rows that a table keeps, each with the bars before it.
--   no_counted  stands where there is no row, as no_row does
--   rows_in     the rows themselves, of the first n
-- Assumes nothing.
use Rattle.std.specs.Prelude.{ℕ, List, map, take}
use Rattle.meter.specs.BarLines.{no_row}
use Rattle.meter.specs.declared.row.CountedRow.{CountedRow}
use Rattle.meter.specs.declared.row.MeterRow.{MeterRow}

abbrev pub no_counted : CountedRow
no_counted = record { row = no_row; before = 0 }

abbrev pub rows_in : ℕ → List CountedRow → List MeterRow
rows_in n held = map (λ c. c.row) (take n held)

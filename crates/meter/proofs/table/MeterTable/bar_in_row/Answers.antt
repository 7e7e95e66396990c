use Rattle.std.proofs.Common.{◌+◌, arith}
use Rattle.meter.specs.BarLines.{FirstAt}
use Rattle.meter.specs.Lines.{first_counted, table_rises}
use Rattle.meter.specs.Tables.{bar_tick}
use Rattle.meter.proofs.Held.{reached}
use Rattle.meter.proofs.table.MeterTable.bar_in_row.Goals as goal

pub overflow_add-result : goal.overflow_add-result
overflow_add-result c =
    let w = reached c.args.self.now c.args.i c.args.t c.div_ceil.result c.requires (cc) in
    omega (arith, w.1)

pub returns : goal.returns
returns c =
    let m = c.args.self.now in
    let w = reached m c.args.i c.args.t c.div_ceil.result c.requires (cc) in
    let first : FirstAt (bar_tick m) c.args.t (c.from.result + c.div_ceil.result) = rw c.from.ensures w.0 in
    record { value = first_counted (bar_tick m) (table_rises m) _ _ first; first = first }

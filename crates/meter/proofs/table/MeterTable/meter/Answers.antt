use Rattle.meter.proofs.Held.{row_facts}
use Rattle.meter.proofs.table.MeterTable.meter.Goals as goal

pub invariant_of-result : goal.invariant_of-result
invariant_of-result c =
    let f = row_facts c.args.self.now c.args.i c.requires in
    record { low = f.low; high = f.high; kept = f.ok }

use Rattle.meter.specs.Lines.{table_lines}
use Rattle.meter.proofs.Held.{bar_held}
use Rattle.meter.proofs.table.MeterTable.tick_in_row.Goals as goal

pub returns : goal.returns
returns c =
    record {
      value = cc (bar_held c.args.self.now c.args.i c.args.p c.requires.0);
      lines = table_lines c.args.self.now;
    }

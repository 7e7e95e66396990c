use Rattle.std.proofs.Common.{rules, arith}
use Rattle.rows.proofs.Beginning.{Last, last_begun}
use Rattle.rows.proofs.Cutting.{begun_from_clause}
use Rattle.meter.specs.Counted.{no_counted}
use Rattle.meter.proofs.Held.{held, some_held}
use Rattle.meter.proofs.Finding.{count_of, count_first, counts_rise, bar_in}
use Rattle.meter.proofs.table.MeterTable.row_of_bar.Goals as goal

last : (c : goal.After-partition_point) → Last count_of (held c.args.self.now) no_counted c.args.p c.partition_point.result
last c =
    let m = c.args.self.now in
    let point = c.partition_point.ensures in
    last_begun count_of (held m) no_counted c.args.p _ (omega (arith, some_held m, m.held)) (omega (arith, count_first m))
    (begun_from_clause count_of c.args.p (held m) _ point.bound point.partitioned (counts_rise m) (λ a b f k. search rules))

pub overflow_sub-result : goal.overflow_sub-result
overflow_sub-result c = (last c).some

pub returns : goal.returns
returns c = bar_in c.args.self.now c.args.p _ (last c)

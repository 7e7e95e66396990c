use Rattle.std.proofs.Common.{rules}
use Rattle.tempo.proofs.Answering.{tick_searched, row_read}
use Rattle.tempo.proofs.map.TempoMap.row_of_tick.Goals as goal

pub overflow_sub-begun : goal.overflow_sub-begun
overflow_sub-begun c =
    let point = c.partition_point-begun.ensures in
    (tick_searched c.args.self.now c.args.t _ _ _ _
    (c.deref.ensures.value, point.bound, point.partitioned, λ a r q k. search rules)).0

pub returns : goal.returns
returns c =
    let m = c.args.self.now in
    let point = c.partition_point-begun.ensures in
    let found = tick_searched m c.args.t _ _ _ _
    (c.deref.ensures.value, point.bound, point.partitioned, λ a r q k. search rules) in
    (_, found.1, row_read m _ c.index.result.now found.1.there c.index.ensures)

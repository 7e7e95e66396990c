use Rattle.std.proofs.Common.{◌≡◌, min, ap, ◌∙◌, arith}
use Rattle.meter.specs.Tables.{rows_of, bar_tick}
use Rattle.meter.specs.Meters.{lines_within}
use Rattle.bar_positions.proofs.position.BarPositions.start_of.Goals as goal

pub returns-clause-bound : goal.returns-clause-bound
returns-clause-bound c =
    let m = c.args.self.now.meter in
    let early : min c.args.p 68719476736 ≡ c.args.p = omega arith in
    let value : c.bar_tick.result ≡ bar_tick m c.args.p = c.bar_tick.ensures.value ∙ ap (bar_tick m) early in
    omega (arith, lines_within m.division (rows_of m) c.args.p m.lawful)

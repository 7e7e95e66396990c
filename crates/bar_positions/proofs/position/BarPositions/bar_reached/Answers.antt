use Rattle.std.proofs.Common.{◌≡◌, ◌-◌, sym, ap, subst, arith}
use Rattle.meter.specs.Tables.{rows_of}
use Rattle.meter.specs.Meters.{lines_within}
use Rattle.bar_positions.specs.BarPositions.{bar_reached}
use Rattle.bar_positions.specs.Reached.{Reached}
use Rattle.bar_positions.specs.Within.{some_begun, reached}
use Rattle.bar_positions.proofs.position.BarPositions.bar_reached.Goals as goal

pub bars_begun-requires : goal.bars_begun-requires
bars_begun-requires c =
    let m = c.args.self.now.meter in
    omega (arith, lines_within m.division (rows_of m) 65535 m.lawful)

pub overflow_sub-result : goal.overflow_sub-result
overflow_sub-result c =
    let m = c.args.self.now.meter in
    rw c.bars_begun.ensures (some_begun m.division (rows_of m) c.args.n m.lawful)

pub returns : goal.returns
returns c =
    let m = c.args.self.now.meter in
    let n = c.args.n in
    let is : c.bars_begun.result - 1 ≡ bar_reached m.division (rows_of m) n
    = ap (λ x. x - 1) c.bars_begun.ensures in
    subst (Reached m.division (rows_of m) n) (sym is) (reached m.division (rows_of m) n m.lawful c.requires)

use Rattle.std.proofs.Common.{◌+◌, sym, subst}
use Rattle.tempo.specs.Lies.{Parted}
use Rattle.tempo.specs.Maps.{map_micros}
use Rattle.tempo.proofs.Answering.{row_some, sum_value}
use Rattle.tempo.proofs.map.TempoMap.tick_reaching.Goals as goal

pub ticks_for-requires : goal.ticks_for-requires
ticks_for-requires c =
    let held = c.row_of_sum-held.ensures in
    row_some c.args.self.now held.0 c.row_of_sum-held.result held.1.there held.2

pub returns : goal.returns
returns c =
    let held = c.row_of_sum-held.ensures in
    let m = c.args.self.now in
    let x = c.args.x in
    let tick = sum_value m held.0 x c.row_of_sum-held.result c.ticks_for.result held.1 held.2 c.ticks_for.ensures in
    subst (λ n. Parted (map_micros m) x (n + c.ticks_for.result)) (sym c.from.ensures) tick

use Rattle.std.proofs.Common.{◌∙◌, arith}
use Rattle.layers.specs.Changes.{uncapped}
use Rattle.layers.specs.Positions.{positions_least, positions_agree}
use Rattle.layers.proofs.on_positions.OnPositionsTimebase.locate.Goals as goal

pub returns : goal.returns
returns g c =
    let t = c.args.self.now in
    let sound = g.met.T.Timebase.sound t.lower in
    let pair = g.met.G.Change.pair t.change in
    let ahead = g.met.G.AheadChange.ahead t.change in
    let below = c.locate.ensures.least in
    let is = c.back.ensures ∙ uncapped (g.G.Change.back t.change) (omega (arith, below.inside, sound.short)) in
    rw is (record { least = positions_least pair ahead sound below; agrees = positions_agree pair ahead sound below })

use Rattle.std.proofs.Common.{ap, ◌∙◌, arith}
use Rattle.timebase.specs.Meaning.{placed}
use Rattle.layers.specs.Changes.{uncapped}
use Rattle.layers.specs.Positions.{positions_placed, positions_far}
use Rattle.layers.proofs.on_positions.OnPositionsTimebase.place.Goals as goal

pub returns-then-p-gt-LAST_SAMPLE : goal.returns-then-p-gt-LAST_SAMPLE
returns-then-p-gt-LAST_SAMPLE g c =
    let t = c.args.self.now in
    let ahead = g.met.G.AheadChange.ahead t.change in
    positions_far (g.met.G.Change.pair t.change) ahead (g.met.T.Timebase.sound t.lower) c.args.p (omega arith)

pub returns : goal.returns
returns g c =
    let t = c.args.self.now in
    let m = g.T.Timebase.meaning t.lower in
    let ahead = g.met.G.AheadChange.ahead t.change in
    let up = c.up.ensures ∙ uncapped (g.G.Change.up t.change) (omega arith) in
    c.place.ensures ∙ (ap (placed m) up ∙ positions_placed (g.met.G.Change.pair t.change) ahead m c.args.p)

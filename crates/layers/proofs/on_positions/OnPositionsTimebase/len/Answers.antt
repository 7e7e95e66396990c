use Rattle.std.proofs.Common.{sym, ap, ◌∙◌, arith}
use Rattle.layers.specs.Changes.{uncapped}
use Rattle.layers.specs.Positions.{positions_length}
use Rattle.layers.proofs.on_positions.OnPositionsTimebase.len.Goals as goal

pub returns : goal.returns
returns g c =
    let t = c.args.self.now in
    let m = g.T.Timebase.meaning t.lower in
    let back = g.G.Change.back t.change in
    let short = (g.met.T.Timebase.sound t.lower).short in
    let is = c.back.ensures ∙ uncapped back (omega (arith, c.len.ensures, short)) in
    let length = positions_length (g.met.G.Change.pair t.change) (g.met.G.AheadChange.ahead t.change) m in
    is ∙ (ap back c.len.ensures ∙ sym length)

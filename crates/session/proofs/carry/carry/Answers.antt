use Rattle.std.proofs.Common.{arith}
use Rattle.std.proofs.lemmas.Grind.{common_steps}
use Rattle.timebase.specs.Locates.{least_located}
use Rattle.session.proofs.carry.carry.Goals as goal

pub returns-in-Locate : goal.returns-in-Locate
returns-in-Locate g c =
    let d = c.args.deck.now in
    let is = least_located (g.C.Timebase.meaning d.pile) (g.met.C.Timebase.sound d.pile) c.in-Locate.sample c.locate.result c.locate.ensures.least in
    grind (arith, common_steps)

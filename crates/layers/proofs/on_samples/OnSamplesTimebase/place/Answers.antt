use Rattle.std.proofs.Common.{arith}
use Rattle.std.proofs.lemmas.Grind.{common_steps}
use Rattle.layers.specs.Changes.{placed_within}
use Rattle.layers.specs.Samples.{samples_placed}
use Rattle.layers.proofs.on_samples.OnSamplesTimebase.place.Goals as goal

pub returns-in_err-place : goal.returns-in_err-place
returns-in_err-place g c =
    let t = c.args.self.now in
    let sound = g.met.T.Timebase.sound t.lower in
    grind (arith, common_steps, samples_placed (g.met.G.Change.pair t.change) sound c.args.p c.in_err-place.ensures)

pub returns-then-s-gt-LAST_SAMPLE : goal.returns-then-s-gt-LAST_SAMPLE
returns-then-s-gt-LAST_SAMPLE g c =
    let t = c.args.self.now in
    let sound = g.met.T.Timebase.sound t.lower in
    let below = c.in_ok-place.ensures in
    let within = placed_within _ sound c.args.p _ below in
    grind (arith, common_steps, within, samples_placed (g.met.G.Change.pair t.change) sound c.args.p below)

pub returns : goal.returns
returns g c =
    let t = c.args.self.now in
    let sound = g.met.T.Timebase.sound t.lower in
    let below = c.in_ok-place.ensures in
    let within = placed_within _ sound c.args.p _ below in
    grind (arith, common_steps, within, samples_placed (g.met.G.Change.pair t.change) sound c.args.p below)

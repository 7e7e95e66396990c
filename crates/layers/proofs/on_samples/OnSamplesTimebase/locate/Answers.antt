use Rattle.layers.specs.Samples.{samples_least, samples_agree}
use Rattle.layers.proofs.on_samples.OnSamplesTimebase.locate.Goals as goal

pub returns : goal.returns
returns g c =
    let t = c.args.self.now in
    let pair = g.met.G.Change.pair t.change in
    let sound = g.met.T.Timebase.sound t.lower in
    let below = rw c.back.ensures at c.locate.ensures.least in
    record { least = samples_least pair sound below; agrees = samples_agree pair sound below }

use Rattle.layers.specs.Samples.{samples_end}
use Rattle.layers.proofs.on_samples.OnSamplesTimebase.len.Goals as goal

pub returns : goal.returns
returns g c =
    let t = c.args.self.now in
    samples_end (g.met.G.Change.pair t.change) (g.met.T.Timebase.sound t.lower) c.locate.ensures.least

use Rattle.tempo.specs.Sounds.{adds_up}
use Rattle.tempo.proofs.map.TempoMap.tempo_at.Goals as goal

pub returns-clause-adds_up : goal.returns-clause-adds_up
returns-clause-adds_up c = adds_up c.args.self.now

use Rattle.std.proofs.Common.{arith}
use Rattle.taps.proofs.Reaching.{begun_least}
use Rattle.taps.proofs.finding.first_from.Goals as goal

pub returns : goal.returns
returns c = begun_least c.args.samples.now c.args.s _ c.requires (omega arith) c.lying_before.ensures

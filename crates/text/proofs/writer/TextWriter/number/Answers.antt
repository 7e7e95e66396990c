use Rattle.std.proofs.Common.{rules}
use Rattle.text.specs.Decimal.{digits}
use Rattle.text.proofs.writer.TextWriter.number.Goals as goal

pub returns : goal.returns
returns c = c.fill.ensures (digits c.args.n) (search rules)

use Rattle.std.proofs.Common.{◌∙◌, arith}
use Rattle.meter.proofs.Tried.{whole_kept}
use Rattle.meter.proofs.rules.Draft.keeps_rules.Goals as goal

pub returns : goal.returns
returns c =
    c.all_kept.ensures
    ∙ whole_kept c.args.self.now.division c.args.self.now.rows.now (omega arith) (omega arith) (omega arith)

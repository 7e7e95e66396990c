use Rattle.std.proofs.Common.{unwrap_or, ap, ◌∙◌, rules}
use Rattle.bar_positions.proofs.Spelt.{own_kept, settled}
use Rattle.bar_positions.proofs.position.BarPosition.spelt.Goals as goal

pub returns : goal.returns
returns c =
    let text = c.args.text.now in
    c.unwrap_or.ensures
    ∙ ap (unwrap_or c.filter.result) c.invalid.ensures.value
    ∙ own_kept text _ (λ v b said. search rules) c.parts_read.result c.filter.result c.filter.ensures
    ∙ settled text c.parts_read.result c.parts_read.ensures.own c.parts_read.ensures.held

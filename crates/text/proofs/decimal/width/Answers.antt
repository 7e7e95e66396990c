use Rattle.std.proofs.Common.{◌+◌, ap, ◌∙◌}
use Rattle.text.proofs.Figures.{width_is}
use Rattle.text.proofs.decimal.width.Goals as goal

pub returns-clause-value : goal.returns-clause-value
returns-clause-value c =
    ap (λ k. 1 + k) c.unwrap_or.ensures
    ∙ width_is c.args.n c.checked_ilog10.result c.ranges.n.fits c.checked_ilog10.ensures.none
    c.checked_ilog10.ensures.power_le c.checked_ilog10.ensures.next_power_gt

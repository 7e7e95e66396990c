use Rattle.std.proofs.Common.{sym, ◌∙◌}
use Rattle.written.proofs.Shows.{stands_past, stands_first, stands_edge, stands_before}
use Rattle.written.proofs.base.standing_at.Goals as goal

pub returns-then-s-gt-LAST_SAMPLE : goal.returns-then-s-gt-LAST_SAMPLE
returns-then-s-gt-LAST_SAMPLE g c =
    stands_past _ _ (g.met.T.Timebase.sound _) c.if-s-gt-LAST_SAMPLE.true

pub returns-in_err-before : goal.returns-in_err-before
returns-in_err-before g c =
    let next = c.locate-next in
    c.from_residual.ensures ∙ stands_first _ _ next.result (g.met.T.Timebase.sound _) next.ensures.least c.in_err-before.ensures

pub returns-then-next-len : goal.returns-then-next-len
returns-then-next-len g c =
    let next = c.locate-next in
    stands_edge _ _ next.result (g.met.T.Timebase.sound _) next.ensures.least (c.if-next-len.true ∙ c.len.ensures)

pub returns : goal.returns
returns g c =
    let next = c.locate-next in
    stands_before _ _ next.result _ (g.met.T.Timebase.sound _) next.ensures.least (λ e. c.if-next-len.false (e ∙ sym c.len.ensures)) c.in_ok-before.ensures

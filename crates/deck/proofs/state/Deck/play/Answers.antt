use Rattle.std.proofs.Common.{◌≡◌, ◌+◌, ◌-◌, ◌<◌, ◌≤◌, length, sym, subst, ◌∙◌, ap, Err}
use borrow.Author.Tests.{false-leb, true-leb}
use Rattle.std.specs.Option.{ok_or}
use Rattle.std.proofs.lemmas.Result.{err_from_is_err_and}
use Rattle.refusal.specs.declared.Refusal.TheVariants.{HeadPastEnd, NoFreeLines}
use Rattle.timebase.specs.Meaning.{Least}
use Rattle.book.specs.Held.{lines}
use Rattle.history.specs.declared.call.Call.TheVariants.{Play}
use Rattle.history.specs.Accepted.{end, accepted}
use Rattle.deck.specs.Runs.{world_of, lines_added}
use Rattle.deck.proofs.Plays.{play_past, refuses_full, accepts}
use Rattle.deck.proofs.Rows.{end_some, end_none}
use Rattle.deck.proofs.Steps.{refused, refused_as, taken}
use Rattle.deck.proofs.state.Deck.play.Goals as goal

pub returns-in_err-until-clause-run : goal.returns-in_err-until-clause-run
returns-in_err-until-clause-run g c =
    let d = c.args.self.now in
    let w = world_of g.C.Timebase.meaning g.F.WrittenForm.number g.L.Timebase.meaning g.L.WrittenTimebase.form d in
    let n = c.args.count in
    let past = end_none d.head n (sym c.in_err-until.ensures.ok_part ∙ c.block_end.ensures) in
    let left = err_from_is_err_and c.from_residual.result c.from_residual.ensures.1 in
    let why : left.0 ≡ HeadPastEnd = cc (left.2, c.in_err-until.ensures.value, ap (λ o. ok_or o HeadPastEnd) c.in_err-until.ensures.ok_part) in
    refused_as w d (Play n) lines_added HeadPastEnd c.from_residual.result (left.1 ∙ ap Err why)
    (λ calls had. play_past w (accepted w calls) n (subst (λ x. end < x + n) had.head_is past))

pub returns-then-not-has_lines-clause-run : goal.returns-then-not-has_lines-clause-run
returns-then-not-has_lines-clause-run g c =
    let d = c.args.self.now in
    let w = world_of g.C.Timebase.meaning g.F.WrittenForm.number g.L.Timebase.meaning g.L.WrittenTimebase.form d in
    let n = c.args.count in
    let r = c.row-row.ensures in
    let from = c.row-row.result.start in
    let to = c.row-row.result.end in
    let ends = end_some d.head n c.in_ok-until.until (sym c.in_ok-until.ensures.ok_part ∙ c.block_end.ensures) in
    let high : Least w.cues (d.head + n) r.high = subst (λ s. Least w.cues s r.high) ends.0 r.last in
    let full : w.lines - length (lines d.log) < to - from = subst (λ k. w.lines - length (lines d.log) < k) c.len-crossed.ensures.value (false-leb _ _ c.if-not-has_lines.ensures) in
    refused w d (Play n) lines_added NoFreeLines
    (λ calls had. refuses_full w (g.met.C.Timebase.sound d.pile) d n r.low r.high from to r.first high r.begins r.ends calls had ends.1 full)

pub returns-clause-run : goal.returns-clause-run
returns-clause-run g c =
    let d = c.args.self.now in
    let w = world_of g.C.Timebase.meaning g.F.WrittenForm.number g.L.Timebase.meaning g.L.WrittenTimebase.form d in
    let n = c.args.count in
    let r = c.row-row.ensures in
    let from = c.row-row.result.start in
    let to = c.row-row.result.end in
    let until = c.in_ok-until.until in
    let ends = end_some d.head n until (sym c.in_ok-until.ensures.ok_part ∙ c.block_end.ensures) in
    let high : Least w.cues (d.head + n) r.high = subst (λ s. Least w.cues s r.high) ends.0 r.last in
    let counted : c.len-crossed.result ≡ to - from = c.len-crossed.ensures.value in
    let free : to - from ≤ w.lines - length (lines d.log) = subst (λ k. k ≤ w.lines - length (lines d.log)) counted (true-leb _ _ c.if-not-has_lines.ensures) in
    let inside : until ≤ end = subst (λ s. s ≤ end) (sym ends.0) ends.1 in
    let kept = c.log_row.ensures.keeps in
    taken w d (Play n) lines_added _ _
    (λ calls had. accepts w (g.met.C.Timebase.sound d.pile) d n r.low r.high from to r.first high r.begins r.ends calls had lines_added
    c.log_row.new.self c.log_row.ensures until ends.0 inside free c.len-crossed.result counted)
    (record { piles = kept.piles; forms = kept.forms; frames = kept.frames; places = kept.places; lines = kept.lines })

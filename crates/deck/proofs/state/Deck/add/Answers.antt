use Rattle.std.proofs.Common.{Some, Err, sym, ap, ◌∙◌, ⊎_elim, refl}
use Rattle.std.proofs.lemmas.Result.{err_from_is_err_and}
use Rattle.refusal.specs.declared.Refusal.TheVariants.{CueAlreadyIn}
use Rattle.book.specs.Cues.{has}
use Rattle.history.specs.declared.call.Call.TheVariants.{Add}
use Rattle.history.specs.Accepted.{accepted}
use Rattle.history.proofs.Keeping.{kept_all}
use Rattle.deck.specs.Runs.{world_of, done}
use Rattle.deck.proofs.Edits.{added}
use Rattle.deck.proofs.Checks.{at_ok, at_err, add_in, add_bad, add_past}
use Rattle.deck.proofs.Steps.{refused, refused_as}
use Rattle.deck.proofs.state.Deck.add.Goals as goal

pub returns-then-has : goal.returns-then-has
returns-then-has g c =
    let d = c.args.self.now in
    let w = world_of g.C.Timebase.meaning g.F.WrittenForm.number g.L.Timebase.meaning g.L.WrittenTimebase.form d in
    let n = c.args.number in
    refused w d (Add n c.args.at) done CueAlreadyIn
    (λ calls had. add_in w (accepted w calls) (kept_all w calls) n c.args.at c.if-not-in_range.ensures (sym (c.if-has.ensures ∙ ap (has n) had.cues_are)))

pub returns-in_err-position : goal.returns-in_err-position
returns-in_err-position g c =
    let d = c.args.self.now in
    let w = world_of g.C.Timebase.meaning g.F.WrittenForm.number g.L.Timebase.meaning g.L.WrittenTimebase.form d in
    let n = c.args.number in
    let v = c.args.at in
    let left = err_from_is_err_and c.from_residual.result c.from_residual.ensures.1 in
    let why = at_err (w.number v) w.cues.len left.0 (ap Err left.2 ∙ c.in_err-position.ensures) in
    refused_as w d (Add n v) done left.0 c.from_residual.result left.1
    (λ calls had.
    let lacks = sym (c.if-has.ensures ∙ ap (has n) had.cues_are) in
    let k = kept_all w calls in
    ⊎_elim
    (λ bad. add_bad w (accepted w calls) k n v c.if-not-in_range.ensures lacks bad.0 ∙ ap Some (sym bad.1))
    (λ past. add_past w (accepted w calls) k n v past.0 past.1 c.if-not-in_range.ensures lacks past.2 ∙ ap Some (sym past.3))
    why)

pub returns : goal.returns
returns g c =
    let d = c.args.self.now in
    let w = world_of g.C.Timebase.meaning g.F.WrittenForm.number g.L.Timebase.meaning g.L.WrittenTimebase.form d in
    let at = at_ok (w.number c.args.at) w.cues.len c.in_ok-position.position c.in_ok-position.ensures in
    added w d _ c.args.number c.enter.result c.if-not-in_range.ensures refl refl (record { piles = refl; forms = refl; frames = refl; places = c.enter.ensures.room; lines = refl }) c.args.at c.in_ok-position.position at.0 at.1 refl (sym c.if-has.ensures) c.enter.ensures.value c.enter.ensures.after

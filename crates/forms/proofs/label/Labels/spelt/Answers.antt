use Rattle.std.proofs.Common.{refl, sym, rules}
use Rattle.forms.specs.declared.label.Label.{Label}
use Rattle.forms.proofs.Spelling.{Figured}
use Rattle.forms.proofs.Telling.{told_refused, told_marked}
use Rattle.forms.proofs.label.Labels.spelt.Goals as goal

-- a part that is no two figures
pub returns-in_err-part : goal.returns-in_err-part
returns-in_err-part c =
    rw c.from_residual.ensures (told_refused _ _ _ refl (λ l s. c.in_err-part.ensures l.hours s.parts.hours_are))

pub returns-in_err-part-2 : goal.returns-in_err-part-2
returns-in_err-part-2 c =
    rw c.from_residual-in_err-part-2.ensures
    (told_refused _ _ _ refl (λ l s. c.in_err-part-2.ensures l.minutes s.parts.minutes_are))

pub returns-in_err-part-3 : goal.returns-in_err-part-3
returns-in_err-part-3 c =
    rw c.from_residual-in_err-part-3.ensures
    (told_refused _ _ _ refl (λ l s. c.in_err-part-3.ensures l.seconds s.parts.seconds_are))

pub returns-in_err-part-4 : goal.returns-in_err-part-4
returns-in_err-part-4 c =
    rw c.from_residual-in_err-part-4.ensures
    (told_refused _ _ _ refl (λ l s. c.in_err-part-4.ensures l.frames s.parts.frames_are))

pub returns : goal.returns
returns c =
    let l : Label = record {
      hours = c.in_ok-part.field-0;
      minutes = c.in_ok-part-2.field-0;
      seconds = c.in_ok-part-3.field-0;
      frames = c.in_ok-part-4.field-0;
    } in
    let parts : Figured c.args.text.now l = record {
      hours_are = c.in_ok-part.ensures;
      minutes_are = c.in_ok-part-2.ensures;
      seconds_are = c.in_ok-part-3.ensures;
      frames_are = c.in_ok-part-4.ensures;
    } in
    rw c.then_some.ensures (told_marked c.args.self.now.format c.args.text.now l _ (sym c.separates.ensures) (search rules) parts)

-- What a text form's answers are where the values are labels.
--   label_had      a label has a number exactly where its format has it
--   room_answer    what is answered where the format has a label, by the room for its eleven bytes
--   label_printed  what printing a label into n bytes answers
--   label_left     what the bytes then hold
--   label_numbered a text's label has the number that the text writes, or none where it writes no label
-- Assumes nothing.
use Rattle.std.specs.Prelude.{◌≡◌, ℕ, Bool, true, false, if◌then◌else◌, ◌&&◌, List, ◌++◌, length, drop, is_some, Some, None, Ok, Err, Result, nat_le, nat_lt, refl}
use Rattle.std.specs.Option.{unwrap_or}
use Rattle.std.specs.Result.{result_ok}
use Rattle.std.proofs.Common.{ap, arith}
use Rattle.std.proofs.lemmas.Bool.Decides.{nat_tests}
use Rattle.refusal.specs.declared.Refusal.{Refusal}
use Rattle.refusal.specs.declared.Refusal.TheVariants.{ShortBuffer, NotWritten}
use Rattle.forms.specs.Labels.{valid, label_number, no_label}
use Rattle.forms.specs.LabelText.{label_text, parsed, label_written, text_number}
use Rattle.forms.specs.Texts.{print_text_answer, print_text_after}
use Rattle.forms.specs.declared.format.Format.{Format}
use Rattle.forms.specs.declared.label.Label.{Label}

some_where : (b : Bool) (n : ℕ) → is_some (if b then Some n else None) ≡ b
some_where true n = refl
some_where false n = refl

pub label_had : (f : Format) (l : Label) → is_some (label_number f l) ≡ valid f l
label_had f l = some_where (valid f l) _

-- what is answered where the format has the label, by the room for its eleven bytes
abbrev pub room_answer : ℕ → Result ℕ Refusal
room_answer n = if nat_lt n 11 then Err ShortBuffer else Ok 11

either_way : (n : ℕ) → (if nat_le 11 n then Ok 11 else Err ShortBuffer) ≡ room_answer n
either_way n = grind (arith, nat_tests)

pub label_printed : (f : Format) (l : Label) (n : ℕ) → print_text_answer (is_some (label_number f l)) (label_text f l) n
    ≡ (if valid f l then room_answer n else Err NotWritten)
label_printed f l n = rw (label_had f l) (ap (λ r. if valid f l then r else Err NotWritten) (either_way n))

pub label_left : (f : Format) (l : Label) (out : List ℕ) → print_text_after (is_some (label_number f l)) (label_text f l) out
    ≡ (if valid f l && nat_le 11 (length out) then label_text f l ++ drop 11 out else out)
label_left f l out = rw (label_had f l) refl

numbered_at : (f : Format) (r : Result Label Refusal)
    → label_number f (unwrap_or (result_ok r) no_label) ≡ elim r [ Ok l ↦ label_number f l | Err e ↦ None ]
numbered_at f (Ok l) = refl
numbered_at f (Err e) = refl

pub label_numbered : (f : Format) (text : List ℕ) → label_number f (label_written f text) ≡ text_number f text
label_numbered f text = numbered_at f (parsed f text)

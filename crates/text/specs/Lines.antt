-- A line of the log as text, by the number and the text of each value of a written form.
--   has_mark     the form has a line's label, if the line has one
--   mark_text    the text of a line's label, or a hyphen where it has none
--   line_text    cue, sample and label with one space between, ended by byte 10
--   MarkOffered  a call that writes a line's label, or the hyphen
--   LineOffered  a call that writes a line, whole or not at all
--   label_marked the mark of a line whose labels are timecode: its format has the label
-- Assumes nothing.
use Rattle.std.specs.Prelude.{◌≡◌, ℕ, Bool, true, List, [], ◌∷◌, ◌++◌, is_some, Some, None, Option, Result}
use Rattle.book.specs.declared.cue.Line.{Line}
use Rattle.forms.specs.declared.format.Format.{Format}
use Rattle.forms.specs.declared.label.Label.{Label}
use Rattle.forms.specs.Labels.{valid, label_number}
use Rattle.forms.specs.TextLaws.{label_had}
use Rattle.refusal.specs.declared.Refusal.{Refusal}
use Rattle.text.specs.declared.writer.TextWriter.{TextWriter}
use Rattle.text.specs.Decimal.{digits}
use Rattle.text.specs.Writer.{Offered}

abbrev pub has_mark : {V : Type 0} → (V → Option ℕ) → Option V → Bool
has_mark number None = true
has_mark number (Some v) = is_some (number v)

-- 45 is the hyphen
abbrev pub mark_text : {V : Type 0} → (V → List ℕ) → Option V → List ℕ
mark_text text None = 45 ∷ []
mark_text text (Some v) = text v

-- 32 is the space
abbrev pub line_text : {V : Type 0} → (V → List ℕ) → Line V → List ℕ
line_text text line =
    (digits line.cue ++ (32 ∷ [])) ++ ((digits line.sample ++ (32 ∷ [])) ++ (mark_text text line.label ++ (10 ∷ [])))

abbrev pub MarkOffered : {V : Type 0} → (V → Option ℕ) → (V → List ℕ) → Option V → TextWriter → TextWriter
    → Result (Unit {0}) Refusal → Type 0
MarkOffered number text mark from to r = Offered (has_mark number mark) (mark_text text mark) from to r

abbrev pub LineOffered : {V : Type 0} → (V → Option ℕ) → (V → List ℕ) → Line V → TextWriter → TextWriter
    → Result (Unit {0}) Refusal → Type 0
LineOffered number text line from to r = Offered (has_mark number line.label) (line_text text line) from to r

pub label_marked : (f : Format) (l : Label) → has_mark (label_number f) (Some l) ≡ valid f l
label_marked f l = label_had f l

-- Labels as text: eleven characters, two figures a part, with a separator between.
--   figures        a part's two figures, before what follows
--   label_text     the text of a label
--   TwoFigures     two characters are the figures of a part
--   ReadsPart      an answer to which part two characters write is right
--   separators     three characters are those that a format puts between the parts
--   part_at        the part that the figures at a place of a text write
--   figures_label  the label that the figures of a text write
--   parsed         what reading a text answers
--   kept           a label that a text spells, refused where the format has not the label
--   Writes         a text is that of a label that the format has
--   Parses         an answer is right: a label's own text gives that label, and no other text gives a label
--   Told           an answer is what reading a text answers, and right
--   label_written  the label that a text writes, or no_label
--   text_number    the number of the label that a text writes, where it writes one
-- Assumes nothing.
use Rattle.std.specs.Prelude.{◌≡◌, ℕ, ◌+◌, ◌-◌, ◌*◌, ◌/◌, ◌%◌, ◌<◌, Bool, true, if◌then◌else◌, ◌&&◌, List, [], ◌∷◌, Some, None, Ok, Err, Option, Result, ◌==◌, slice_index}
use Rattle.std.specs.Option.{unwrap_or}
use Rattle.std.specs.Result.{result_ok}
use Rattle.std.specs.Str.{bytes_eq}
use Rattle.refusal.specs.declared.Refusal.{Refusal}
use Rattle.refusal.specs.declared.Refusal.TheVariants.{NotWritten}
use Rattle.forms.specs.Formats.{values}
use Rattle.forms.specs.Labels.{valid, label_number, no_label}
use Rattle.forms.specs.declared.format.Format.{Format}
use Rattle.forms.specs.declared.label.Label.{Label}

-- 48 is the figure 0, and 58 a colon
abbrev pub figures : ℕ → List ℕ → List ℕ
figures n rest = (48 + n / 10) ∷ ((48 + n % 10) ∷ rest)

abbrev pub label_text : Format → Label → List ℕ
label_text f l =
    figures l.hours (58 ∷ figures l.minutes (58 ∷ figures l.seconds ((values f).separator ∷ figures l.frames [])))

pub record TwoFigures (tens ones n : ℕ) : Type 0 where
  pub bound : n < 100
  pub tens_is : tens ≡ 48 + n / 10
  pub ones_is : ones ≡ 48 + n % 10

abbrev pub ReadsPart : ℕ → ℕ → Option ℕ → Type 0
ReadsPart tens ones (Some n) = TwoFigures tens ones n
ReadsPart tens ones None = (n : ℕ) → TwoFigures tens ones n → ⊥

abbrev pub separators : Format → ℕ → ℕ → ℕ → Bool
separators f a b c = a == 58 && (b == 58 && c == (values f).separator)

abbrev pub part_at : List ℕ → ℕ → ℕ
part_at text i = 10 * (slice_index text i - 48) + (slice_index text (i + 1) - 48)

abbrev pub figures_label : List ℕ → Label
figures_label text = record {
  hours = part_at text 0;
  minutes = part_at text 3;
  seconds = part_at text 6;
  frames = part_at text 9;
}

abbrev pub parsed : Format → List ℕ → Result Label Refusal
parsed f text =
    let l = figures_label text in
    if valid f l && bytes_eq text (label_text f l) then Ok l else Err NotWritten

abbrev pub kept : Format → Option Label → Result Label Refusal
kept f (Some l) = if valid f l then Ok l else Err NotWritten
kept f None = Err NotWritten

pub record Writes (f : Format) (text : List ℕ) (l : Label) : Type 0 where
  pub has : valid f l ≡ true
  pub is : text ≡ label_text f l

pub record Parses (f : Format) (text : List ℕ) (r : Result Label Refusal) : Type 0 where
  pub own : (l : Label) → Writes f text l → r ≡ Ok l
  pub only : (l : Label) → r ≡ Ok l → Writes f text l

pub record Told (f : Format) (text : List ℕ) (r : Result Label Refusal) : Type 0 where
  pub value : r ≡ parsed f text
  pub cases : Parses f text r

abbrev pub label_written : Format → List ℕ → Label
label_written f text = unwrap_or (result_ok (parsed f text)) no_label

abbrev pub text_number : Format → List ℕ → Option ℕ
text_number f text = elim (parsed f text) [ Ok l ↦ label_number f l | Err e ↦ None ]

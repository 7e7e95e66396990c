-- Reading a label's text: a text that writes a label says so place by place, and then it is that label's alone.
--   Figured  the places of a text hold a label's figures
--   Spelt    the places of a text hold a label's figures and the separators
-- Assumes nothing.
use Rattle.std.proofs.Common.{◌≡◌, ℕ, ◌+◌, ◌-◌, ◌*◌, ◌<◌, Bool, true, false, if◌then◌else◌, ◌&&◌, List, length, get_or, Ok, Err, sym, refl, subst, arith}
use Rattle.std.specs.Str.{bytes_eq}
use Rattle.std.proofs.lemmas.Slice.Eq.{HasBytesAt, bytes_eq-Decides, text_from_reads}
use Rattle.std.proofs.lemmas.Bool.Decides.{nat_tests}
use Rattle.refusal.specs.declared.Refusal.TheVariants.{NotWritten}
use Rattle.forms.specs.Formats.{values}
use Rattle.forms.specs.Labels.{valid, in_range, left_out}
use Rattle.forms.specs.LabelText.{label_text, TwoFigures, separators, figures_label, parsed, Writes}
use Rattle.forms.specs.declared.format.Format.{Format}
use Rattle.forms.specs.declared.format.Format.TheVariants.{Film24, Pal25, Full30, Drop30}
use Rattle.forms.specs.declared.label.Label.{Label}
use Rattle.forms.specs.Nominal.{InRange, ranges}
use Rattle.forms.specs.Laws.{both_from}

pub record Figured (text : List ℕ) (l : Label) : Type 0 where
  pub hours_are : TwoFigures (get_or text 0 0) (get_or text 1 0) l.hours
  pub minutes_are : TwoFigures (get_or text 3 0) (get_or text 4 0) l.minutes
  pub seconds_are : TwoFigures (get_or text 6 0) (get_or text 7 0) l.seconds
  pub frames_are : TwoFigures (get_or text 9 0) (get_or text 10 0) l.frames

pub record Spelt (f : Format) (text : List ℕ) (l : Label) : Type 0 where
  pub has : valid f l ≡ true
  pub long : length text ≡ 11
  pub parts : Figured text l
  pub marks : separators f (get_or text 2 0) (get_or text 5 0) (get_or text 8 0) ≡ true

rate_below : (f : Format) → (values f).rate < 100
rate_below Film24 = omega arith
rate_below Pal25 = omega arith
rate_below Full30 = omega arith
rate_below Drop30 = omega arith

valid_range : (f : Format) (l : Label) → valid f l ≡ true → InRange (values f).rate l
valid_range f l e = ranges (values f).rate l (both_from (in_range (values f).rate l) ((values f).drops && left_out l) e).0

spelt_own : (f : Format) (l : Label) → valid f l ≡ true → Spelt f (label_text f l) l
spelt_own f l e =
    let h = valid_range f l e in
    let c< = rate_below f in
    let parts : Figured (label_text f l) l = record {
      hours_are = record { bound = omega arith; tens_is = refl; ones_is = refl };
      minutes_are = record { bound = omega arith; tens_is = refl; ones_is = refl };
      seconds_are = record { bound = omega arith; tens_is = refl; ones_is = refl };
      frames_are = record { bound = omega arith; tens_is = refl; ones_is = refl };
    } in
    record { has = e; long = refl; parts = parts; marks = grind (arith, nat_tests) }

pub spelt_from_writes : (f : Format) (text : List ℕ) (l : Label) → Writes f text l → Spelt f text l
spelt_from_writes f text l w = subst (λ t. Spelt f t l) (sym w.is) (spelt_own f l w.has)

marks_are : (f : Format) (a b c : ℕ) → separators f a b c ≡ true → (a ≡ 58) × (b ≡ 58) × (c ≡ (values f).separator)
marks_are f a b c e = (grind (arith, nat_tests), grind (arith, nat_tests), grind (arith, nat_tests))

pub writes_from_spelt : (f : Format) (text : List ℕ) (l : Label) → Spelt f text l → Writes f text l
writes_from_spelt f text l s =
    let m = marks_are f (get_or text 2 0) (get_or text 5 0) (get_or text 8 0) s.marks in
    let h = s.parts.hours_are in
    let n = s.parts.minutes_are in
    let z = s.parts.seconds_are in
    let k = s.parts.frames_are in
    let all : HasBytesAt text 0 (label_text f l)
    = (h.tens_is, (h.ones_is, (m.0, (n.tens_is, (n.ones_is, (m.1, (z.tens_is, (z.ones_is, (m.2, (k.tens_is, (k.ones_is, tt))))))))))) in
    record { has = s.has; is = text_from_reads text (label_text f l) s.long all }

pub part_is : (tens ones n : ℕ) → TwoFigures tens ones n → 10 * (tens - 48) + (ones - 48) ≡ n
part_is tens ones n h = omega arith

pub label_is : (text : List ℕ) (l : Label) → Figured text l → figures_label text ≡ l
label_is text l s =
    let a = part_is (get_or text 0 0) (get_or text 1 0) l.hours s.hours_are in
    let b = part_is (get_or text 3 0) (get_or text 4 0) l.minutes s.minutes_are in
    let c = part_is (get_or text 6 0) (get_or text 7 0) l.seconds s.seconds_are in
    let d = part_is (get_or text 9 0) (get_or text 10 0) l.frames s.frames_are in
    rw (a, b, c, d) refl

pub parsed_own : (f : Format) (text : List ℕ) (l : Label) → Writes f text l → parsed f text ≡ Ok l
parsed_own f text l w =
    let e = label_is text l (spelt_from_writes f text l w).parts in
    let same : bytes_eq text (label_text f l) ≡ true = (bytes_eq-Decides text (label_text f l)).1 w.is in
    let at-l : (if valid f l && bytes_eq text (label_text f l) then Ok l else Err NotWritten) ≡ Ok l = rw (w.has, same) refl in
    subst (λ g. (if valid f g && bytes_eq text (label_text f g) then Ok g else Err NotWritten) ≡ Ok l) (sym e) at-l

answer_from : (a b : Bool) (g l : Label) → (if a && b then Ok g else Err NotWritten) ≡ Ok l → (a ≡ true) × (b ≡ true) × (g ≡ l)
answer_from true true g l e = (refl, refl, (cc))
answer_from true false g l e = let z : ◌≡◌ {A = ℕ} 0 1 = cc in absurd (omega arith)
answer_from false b g l e = let z : ◌≡◌ {A = ℕ} 0 1 = cc in absurd (omega arith)

pub parsed_only : (f : Format) (text : List ℕ) (l : Label) → parsed f text ≡ Ok l → Writes f text l
parsed_only f text l e =
    let g : Label = figures_label text in
    let h = answer_from (valid f g) (bytes_eq text (label_text f g)) g l e in
    subst (λ k. Writes f text k) h.2 (record { has = h.0; is = (bytes_eq-Decides text (label_text f g)).0 h.1 })

none_from : (a b : Bool) (g : Label) → (a ≡ true → b ≡ true → ⊥) → (if a && b then Ok g else Err NotWritten) ≡ Err NotWritten
none_from true true g no_one = absurd (no_one refl refl)
none_from true false g no_one = refl
none_from false b g no_one = refl

pub parsed_none : (f : Format) (text : List ℕ) → ((l : Label) → Writes f text l → ⊥) → parsed f text ≡ Err NotWritten
parsed_none f text no_one =
    let g : Label = figures_label text in
    none_from (valid f g) (bytes_eq text (label_text f g)) g
    (λ a b. no_one g (record { has = a; is = (bytes_eq-Decides text (label_text f g)).0 b }))

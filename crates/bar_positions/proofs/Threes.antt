-- The text of a position: how long it is, and that it is one word.
--   text_length     the length of a text by those of its parts
--   text_short      the text of a position that the fields hold is short
--   text_word       and one word
--   alone           a text that is written first, with room for it, is all that a writer holds
-- Assumes nothing.
use Rattle.std.proofs.Common.{◌≡◌, ℕ, ◌+◌, ◌^◌, ◌<◌, ◌≤◌, true, List, ◌∷◌, ◌++◌, length, take, Ok, Result, ap, ◌∙◌, arith, length-append}
use Rattle.std.specs.List.{AllByRecursion}
use Rattle.std.proofs.lemmas.Fmt.{decimal_is_IsNumeral, length-decimal-le}
use Rattle.std.proofs.ByRecursion.{All-append, All-from_get_or}
use Rattle.std.proofs.lemmas.Str.Parse.{digit_at}
use Rattle.std.proofs.lemmas.Bool.{le-leb, cond-true}
use Rattle.refusal.specs.declared.Refusal.{Refusal}
use Rattle.forms.specs.Texts.{Visible, OneWord}
use Rattle.text.specs.declared.writer.TextWriter.{TextWriter}
use Rattle.text.specs.Decimal.{digits}
use Rattle.text.specs.Writer.{written, fits_after, Appends}
use Rattle.bar_positions.specs.Spellings.{position_text}
use Rattle.bar_positions.specs.declared.position.BarPosition.{BarPosition}

pub text_length : (v : BarPosition)
    → length (position_text v) ≡ length (digits v.bar) + length (digits v.beat) + length (digits v.tick) + 2
text_length v =
    let a = length-append (digits v.bar) (46 ∷ digits v.beat ++ (46 ∷ digits v.tick)) in
    let b = length-append (digits v.beat) (46 ∷ digits v.tick) in
    omega arith

pub text_short : (v : BarPosition) → v.bar < 65536 → v.beat < 256 → v.tick < 4294967296
    → length (position_text v) ≤ 20
text_short v bar beat tick =
    let a = length-decimal-le 5 v.bar (omega arith) (omega arith) (omega arith) in
    let b = length-decimal-le 3 v.beat (omega arith) (omega arith) (omega arith) in
    let c = length-decimal-le 10 v.tick (omega arith) (omega arith) (omega arith) in
    omega (arith, text_length v)

digits_visible : (n : ℕ) → n < 2 ^ 64 → AllByRecursion Visible (digits n)
digits_visible n small =
    let figures = (decimal_is_IsNumeral n small).0.1 in
    All-from_get_or Visible (digits n) 0 (λ i inside. let d = digit_at (digits n) i figures inside in omega arith)

pub text_word : (v : BarPosition) → v.bar < 65536 → v.beat < 256 → v.tick < 4294967296 → OneWord (position_text v)
text_word v bar beat tick =
    let stop : Visible 46 = omega arith in
    let last : AllByRecursion Visible (46 ∷ digits v.tick) = (stop, digits_visible v.tick (omega arith)) in
    let rest = All-append Visible (digits v.beat) (46 ∷ digits v.tick) (digits_visible v.beat (omega arith)) last in
    record {
      long = omega (arith, text_length v);
      visible = All-append Visible (digits v.bar) _ (digits_visible v.bar (omega arith)) (stop, rest);
    }

pub alone : (text : List ℕ) (a b : TextWriter) (r : Result (Unit {0}) Refusal) → a.len ≡ 0 → length text ≤ length a.out.now
    → Appends text a b r → (r ≡ Ok tt) × (written b ≡ text)
alone text a b r none fits h =
    let test : fits_after text a.len a.out.now ≡ true = le-leb _ _ (omega arith) in
    (h.said ∙ cond-true _ _ _ test, h.grown ∙ cond-true _ _ _ test ∙ ap (λ n. take n a.out.now ++ text) none)

-- Values in a text: what printing one into the lent part of a buffer does.
--   read_has       a form that reads a value has it
--   print_puts     printing a value that the form has puts its text at the start of the part
--   offered_taken  a text that is valid is appended
-- Assumes nothing.
use Rattle.std.proofs.Common.{◌≡◌, ℕ, Bool, true, false, cond, ◌&&◌, List, ◌++◌, length, drop, is_some, Some, None, Ok, Err, Option, Result, refl, ap, ◌∙◌, arith}
use Rattle.std.specs.Option.{ok_or}
use Rattle.std.proofs.lemmas.Bool.{cond-true, both_ways}
use Rattle.refusal.specs.declared.Refusal.{Refusal}
use Rattle.refusal.specs.declared.Refusal.TheVariants.{ShortBuffer}
use Rattle.forms.specs.Pairing.{read_as}
use Rattle.forms.specs.Texts.{print_text_answer, print_text_after}
use Rattle.text.specs.declared.writer.TextWriter.{TextWriter}
use Rattle.text.specs.Decimal.{fits_in}
use Rattle.text.specs.Writer.{Puts, Appends, Offered}

pub read_has : (o : Option ℕ) (n : ℕ) → Ok n ≡ read_as o → is_some o ≡ true
read_has (Some k) n e = refl
read_has None n e = let z : ◌≡◌ {A = ℕ} 0 1 = cc in absurd (omega arith)

either : (b : Bool) (n : ℕ) → ◌≡◌ {A = Result ℕ Refusal} (cond b (Ok n) (Err ShortBuffer)) (ok_or (cond b (Some n) None) ShortBuffer)
either true n = refl
either false n = refl

pub print_puts : (ok : Bool) (text out after : List ℕ) (r : Result ℕ Refusal) → ok ≡ true
    → r ≡ print_text_answer ok text (length out) → after ≡ print_text_after ok text out → Puts text out after r
print_puts ok text out after r has said left = record {
  said = said ∙ cond-true ok _ _ has ∙ either (fits_in text out) (length text);
  left = left ∙ ap (λ v. cond (v && fits_in text out) (text ++ drop (length text) out) out) has;
}

pub offered_taken : (ok : Bool) (text : List ℕ) (from to : TextWriter) (r : Result (Unit {0}) Refusal) → ok ≡ true
    → Appends text from to r → Offered ok text from to r
offered_taken ok text from to r is h = record { taken = λ _. h; refused = λ no_way. absurd (both_ways ok no_way is) }

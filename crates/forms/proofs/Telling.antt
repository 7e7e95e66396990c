-- When an answer to a text is told: what reading answers, and right.
--   told_refused  a refusal, where the text spells no label
--   told_length   a refusal of a text that is not eleven long
--   told_spelt    a label that the text spells, refused where the format has not the label
--   told_marked   the label whose figures the text has, where the separators are the format's
--   spells_label  what a text gives, or a label without a number, is what the text spells
-- Assumes nothing.
use Rattle.std.proofs.Common.{◌≡◌, ℕ, Bool, true, false, List, length, get_or, Some, None, Ok, Err, Result, sym, refl, ◌∙◌, subst, arith}
use Rattle.std.proofs.lemmas.Bool.{both_ways}
use Rattle.std.specs.Bool.{if◌then◌else◌, then_some}
use Rattle.std.specs.Result.{result_unwrap_or}
use Rattle.refusal.specs.declared.Refusal.{Refusal}
use Rattle.refusal.specs.declared.Refusal.TheVariants.{NotWritten}
use Rattle.forms.specs.Labels.{valid, label_number}
use Rattle.forms.specs.LabelText.{label_text, separators, parsed, kept, Parses, Told}
use Rattle.forms.specs.Texts.{Spells}
use Rattle.forms.specs.declared.format.Format.{Format}
use Rattle.forms.specs.declared.label.Label.{Label}
use Rattle.forms.proofs.Spelling.{Figured, Spelt, label_is, spelt_from_writes, writes_from_spelt, parsed_own, parsed_only, parsed_none}

pub parsed_right : (f : Format) (text : List ℕ) (r : Result Label Refusal) → r ≡ parsed f text → Told f text r
parsed_right f text r e = record {
  value = e;
  cases = record { own = λ l w. e ∙ parsed_own f text l w; only = λ l is. parsed_only f text l (sym e ∙ is) };
}

pub told_refused : (f : Format) (text : List ℕ) (r : Result Label Refusal) → r ≡ Err NotWritten
    → ((l : Label) → Spelt f text l → ⊥) → Told f text r
told_refused f text r e no_one =
    parsed_right f text r (e ∙ sym (parsed_none f text (λ l w. no_one l (spelt_from_writes f text l w))))

pub told_length : (f : Format) (text : List ℕ) → (length text ≡ 11 → ⊥) → Told f text (Err NotWritten)
told_length f text h = told_refused f text (Err NotWritten) refl (λ l s. h s.long)

pub not_had : (f : Format) (text : List ℕ) (l : Label) → Figured text l → valid f l ≡ false → (k : Label) → Spelt f text k → ⊥
not_had f text l h e k s =
    let same : k ≡ l = sym (label_is text k s.parts) ∙ label_is text l h in
    both_ways (valid f l) e (subst (λ x. valid f x ≡ true) same s.has)

pub not_marked : (f : Format) (text : List ℕ) → separators f (get_or text 2 0) (get_or text 5 0) (get_or text 8 0) ≡ false
    → (k : Label) → Spelt f text k → ⊥
not_marked f text e k s = both_ways (separators f (get_or text 2 0) (get_or text 5 0) (get_or text 8 0)) e s.marks

-- a label that a text spells is kept where the format has it, and refused where it has not
pub told_spelt : (f : Format) (text : List ℕ) (l : Label) → length text ≡ 11 → Figured text l
    → separators f (get_or text 2 0) (get_or text 5 0) (get_or text 8 0) ≡ true → Told f text (kept f (Some l))
told_spelt f text l long parts marks =
    told_either (valid f l) refl
  where
    told_either : (v : Bool) → valid f l ≡ v → Told f text (kept f (Some l))
    told_either true e =
        let w = writes_from_spelt f text l (record { has = e; long = long; parts = parts; marks = marks }) in
        parsed_right f text (kept f (Some l)) (rw e (sym (parsed_own f text l w)))
    told_either false e = told_refused f text (kept f (Some l)) (rw e refl) (not_had f text l parts e)

-- the label whose figures a text has, kept where the separators are those of the format
pub told_marked : (f : Format) (text : List ℕ) (l : Label) (marks : Bool)
    → separators f (get_or text 2 0) (get_or text 5 0) (get_or text 8 0) ≡ marks → length text ≡ 11 → Figured text l
    → Told f text (kept f (then_some marks l))
told_marked f text l true marks long parts = told_spelt f text l long parts marks
told_marked f text l false marks long parts = told_refused f text (Err NotWritten) refl (not_marked f text marks)

valid_from : (b : Bool) (m n : ℕ) → (if b then Some m else None) ≡ Some n → b ≡ true
valid_from b m n e = grind arith

pub spells_label : (f : Format) (text : List ℕ) (r : Result Label Refusal) (other : Label) → Parses f text r
    → label_number f other ≡ None → Spells Label (label_number f) (label_text f) text (result_unwrap_or r other)
spells_label f text (Ok l) other h none = record {
  own = λ v n e is. let same = h.own v (record { has = valid_from _ _ n e; is = is }) in cc;
  only = λ n e. (h.only l refl).is;
}
spells_label f text (Err why) other h none = record {
  own = λ v n e is. (let same = h.own v (record { has = valid_from _ _ n e; is = is }) in absurd (grind arith));
  only = λ n e. absurd (grind arith);
}

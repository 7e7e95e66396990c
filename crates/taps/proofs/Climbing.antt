-- What the two tests on a table of taps decide: its samples never fall exactly if they are in order and all exist.
--   sorted_exactly  whether each is no higher than the next tells exactly whether the samples are in order
--   order_decides   samples that are not in order fall
--   exist_decides   samples in order never fall exactly if they all exist
-- Assumes nothing.
use Rattle.std.proofs.Common.{◌≡◌, ℕ, suc, ◌+◌, ◌≤◌, Bool, true, false, List, [], ◌∷◌, ◌↔◌, IsTrue, EachIndex, leb, leb-true, leb-false, slice_index, get_or, inl, inr, refl, sym, ◌∙◌, le-leb, arith}
use Rattle.std.specs.List.Sorted.{IsNonDecreasing}
use Rattle.std.specs.List.{IsAllAdjacentAnswer}
use Rattle.std.proofs.lemmas.List.Sorted.{IsNonDecreasingBy-from_default, IsNonDecreasingBy-from_all_adjacent}
use Rattle.std.proofs.lemmas.Bool.{and_from, cases_Bool, true≢false, false≢true}
use Rattle.timebase.specs.Meaning.{last_sample}
use Rattle.taps.specs.Rules.{follows, never_falls}
use Rattle.taps.specs.Climbs.{climbs_le, exists_at}

abbrev pub AllExist : List ℕ → Type 0
AllExist samples = EachIndex samples (λ k. slice_index samples k ≤ last_sample)

never_falls_when : (before : ℕ) (samples : List ℕ) → IsNonDecreasing samples → AllExist samples →
    EachIndex samples (λ k. before ≤ slice_index samples k) → never_falls before samples ≡ true
never_falls_when before [] up all low = refl
never_falls_when before (s ∷ rest) up all low =
    let first : follows before s ≡ true =
    and_from _ _ (le-leb before s (low 0 (omega arith))) (le-leb s last_sample (all 0 (omega arith))) in
    let tail : IsNonDecreasing rest = λ i j d le h. up (suc i) (suc j) d (omega arith) (omega arith) in
    and_from (follows before s) (never_falls s rest) first (
    never_falls_when s rest tail (λ k h. all (suc k) (omega arith))
    (λ k h. up 0 (suc k) 0 (omega arith) (omega arith))
    )

in_order : (samples : List ℕ) → never_falls 0 samples ≡ true → IsNonDecreasing samples
in_order samples c = IsNonDecreasingBy-from_default (λ x. x) samples 0 (climbs_le 0 samples c)

pub sorted_exactly : (samples : List ℕ) (r : Bool) → IsAllAdjacentAnswer (λ x y b. b ≡ leb x y) samples r →
    IsTrue r ↔ IsNonDecreasing samples
sorted_exactly samples true h =
    (λ e. IsNonDecreasingBy-from_all_adjacent (λ x. x) samples (λ k d l. leb-true _ _ (sym (h k d l))), λ up. refl)
sorted_exactly samples false h =
    let falls = leb-false (get_or samples h.0 0) (get_or samples (h.0 + 1) 0) (sym (h.2 0)) in
    (λ e. absurd (false≢true e), λ up. absurd (omega (arith, falls, up h.0 (h.0 + 1) 0 (omega arith) h.1)))

pub order_decides : (samples : List ℕ) (r : Bool) → r ≡ false → (IsTrue r ↔ IsNonDecreasing samples) → r ≡ never_falls 0 samples
order_decides samples r out exactly =
    elim (cases_Bool (never_falls 0 samples)) [
      | inl c ↦ absurd (true≢false (sym (exactly.1 (in_order samples c)) ∙ out))
      | inr falls ↦ out ∙ sym falls
    ]

pub exist_decides : (samples : List ℕ) (r : Bool) → IsNonDecreasing samples → (IsTrue r ↔ AllExist samples) → r ≡ never_falls 0 samples
exist_decides samples true up exactly = sym (never_falls_when 0 samples up (exactly.0 refl) (λ k h. omega arith))
exist_decides samples false up exactly =
    elim (cases_Bool (never_falls 0 samples)) [
      | inl c ↦ absurd (false≢true (exactly.1 (exists_at 0 samples c)))
      | inr falls ↦ sym falls
    ]

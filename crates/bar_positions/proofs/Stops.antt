-- A text cut at its full stops.
--   digits_stopless  the digits of a number hold no full stop
--   cut_at           where the first full stop stands says what is before it and what after it
--   digits_cut       the digits of a number before a full stop are cut off whole
--   digits_split     also by a step of a split
--   last_split       the last part of a split is all that is left
--   digits_number    the digits of a number are read as it
--   digits_narrowed  also where its field is asked for
-- Assumes nothing.
use Rattle.std.proofs.Common.{◌≡◌, ◌≢◌, ℕ, ◌+◌, ◌^◌, ◌<◌, Bool, true, false, eqb, List, [], ◌∷◌, ◌++◌, length, get_or, take, drop, sym, refl, ap, ◌∙◌, subst, append_assoc, arith, length-append, Ok, Err, Option, Result, MatchBool, MatchOption}
use Rattle.std.proofs.lemmas.List.{take_at, drop_at, get_or_at, get_or_append_left, take_all}
use Rattle.std.proofs.lemmas.List.Sums.{position_or_len_is}
use Rattle.std.proofs.lemmas.Bool.{eq-eqb, ne_eqb}
use Rattle.std.proofs.lemmas.Str.Parse.{digit_at}
use Rattle.std.proofs.lemmas.Fmt.{decimal_is_IsNumeral}
use Rattle.std.specs.Result.{OkIff, result_ok}
use Rattle.std.specs.List.{IsFirstMatchOrLen, position_or_len}
use Rattle.text.specs.Decimal.{digits, plain}
use Rattle.text.proofs.Figures.{plain_digits}
use Rattle.bar_positions.specs.Spellings.{front, after}

pub digits_stopless : (n : ℕ) → n < 2 ^ 64 → (i : ℕ) → i < length (digits n) → get_or (digits n) i 0 ≢ 46
digits_stopless n small i inside stop =
    let d = digit_at (digits n) i (decimal_is_IsNumeral n small).0.1 inside in
    omega arith

abbrev pub stop : ℕ → Bool
stop b = eqb b 46

pub record Cut (text first rest : List ℕ) : Type 0 where
  pub first_is : front text ≡ first
  pub rest_is : after text ≡ rest

cut_at : (first : List ℕ) (b : ℕ) (rest : List ℕ) → position_or_len stop (first ++ (b ∷ rest)) ≡ length first
    → Cut (first ++ (b ∷ rest)) first rest
cut_at first b rest at =
    let text : List ℕ = first ++ (b ∷ rest) in
    let whole : (first ++ (b ∷ [])) ++ rest ≡ text = append_assoc first (b ∷ []) rest in
    let one : length (first ++ (b ∷ [])) ≡ length first + 1 = length-append first (b ∷ []) in
    record {
      first_is = ap (λ k. take k text) at ∙ take_at first (b ∷ rest) (length first) refl;
      rest_is = ap (λ k. drop (k + 1) text) at
          ∙ ap (drop (length first + 1)) (sym whole)
          ∙ drop_at (first ++ (b ∷ [])) rest (length first + 1) one;
    }

pub digits_cut : (n : ℕ) (rest : List ℕ) → n < 2 ^ 64 → Cut (digits n ++ (46 ∷ rest)) (digits n) rest
digits_cut n rest small =
    let ds : List ℕ = digits n in
    let long = length-append ds (46 ∷ rest) in
    cut_at ds 46 rest (position_or_len_is stop (ds ++ (46 ∷ rest)) (length ds) 0
    (omega arith)
    (λ k before. ne_eqb _ 46 (λ e. digits_stopless n small k before (sym (get_or_append_left ds (46 ∷ rest) 0 k before) ∙ e)))
    (λ inside. eq-eqb _ 46 (get_or_at ds 46 rest 0 (length ds) refl)))

-- what a split took off and what it left, where `done` says that it left nothing
abbrev pub Taken : Bool → List ℕ → List ℕ → List ℕ → Type 0
Taken done text part rest = MatchBool done (text ≡ part) ((b : ℕ) × (text ≡ part ++ (b ∷ rest)))

pub digits_split : (n : ℕ) (last text part rest : List ℕ) (done : Bool) → n < 2 ^ 64 → text ≡ digits n ++ (46 ∷ last)
    → Taken done text part rest → IsFirstMatchOrLen stop text (length part)
    → (part ≡ digits n) × (rest ≡ last) × (done ≡ false)
digits_split n last text part rest true small is took first =
    let own = digits_cut n last small in
    let long = length-append (digits n) (46 ∷ last) in
    let at : position_or_len stop text ≡ length part = position_or_len_is stop text (length part) 0
    (omega (arith, ap length took))
    (λ k before. first.0 k 0 (omega arith) before)
    (λ inside. first.1 inside 0) in
    let all : front text ≡ text = ap (λ k. take k text) at ∙ take_all (length part) text (omega (arith, ap length took)) in
    let same : text ≡ digits n = sym all ∙ ap front is ∙ own.first_is in
    absurd (omega (arith, long, ap length same, ap length is))
digits_split n last text part rest false small is took first =
    let own = digits_cut n last small in
    let long = length-append part (took.0 ∷ rest) in
    let at : position_or_len stop text ≡ length part = position_or_len_is stop text (length part) 0
    (omega (arith, long, ap length took.1))
    (λ k before. first.0 k 0 (omega arith) before)
    (λ inside. first.1 inside 0) in
    let cut = cut_at part took.0 rest (ap (position_or_len stop) (sym took.1) ∙ at) in
    (sym cut.first_is ∙ ap front (sym took.1 ∙ is) ∙ own.first_is, sym cut.rest_is ∙ ap after (sym took.1 ∙ is) ∙ own.rest_is, refl)

pub last_split : (text part rest : List ℕ) (done : Bool) → done ≡ true → Taken done text part rest → part ≡ text
last_split text part rest done is took = sym (subst (λ d. Taken d text part rest) is took)

pub digits_number : (n : ℕ) (part : List ℕ) (o : Option ℕ) → n < 2 ^ 64 → part ≡ digits n → o ≡ plain part
    → MatchOption o ⊥ (λ m. m ≡ n)
digits_number n part o small is read =
    subst (λ p. MatchOption p ⊥ (λ m. m ≡ n)) (sym (read ∙ ap plain is ∙ plain_digits n small)) refl

pub digits_narrowed : {E : Type 0} (most n m : ℕ) (r : Result ℕ E) (o : Option ℕ) → n < most → m ≡ n
    → OkIff r (m < most) m → o ≡ result_ok r → MatchOption o ⊥ (λ k. k ≡ n)
digits_narrowed most n m (Ok k) o few same h is = subst (λ p. MatchOption p ⊥ (λ j. j ≡ n)) (sym is) (h.1 ∙ same)
digits_narrowed most n m (Err e) o few same h is = absurd (h (omega arith))

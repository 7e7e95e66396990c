-- Facts on plain decimals, over plain numbers and lists.
--   Fair          what the test `fair` says
--   plain_is      a fair word is read as its value
--   plain_none    any other word is not read
--   plain_digits  every number below 2^64 reads back from its digits
-- Assumes nothing.
use Rattle.std.proofs.Common.{lit<, ◌≡◌, ℕ, ◌+◌, ◌^◌, ◌<◌, ◌≤◌, Bool, true, false, cond, ltb, leb, List, length, Some, None, Option, IfNone, IfSome, unwrap_or, ◌*◌, inl, inr, pow-suc, suc, sym, refl, ap, ◌∙◌, arith}
use Rattle.std.specs.Str.Parse.{digits_value, AllDigits}
use Rattle.std.specs.Option.{SomeIff}
use Rattle.std.specs.Str.{all_ascii_digits}
use Rattle.std.proofs.Math.Nat.{pow-le-pow_right}
use Rattle.std.proofs.lemmas.Bool.{cases_lt, and_parts, and_from, lt-ltb, le-leb, ltb-true, leb-true, cond-true}
use Rattle.std.proofs.lemmas.Str.Parse.{IsNumeralModel, numerals_by_value, tells_all_ascii_digits, digits_value_short}
use Rattle.std.proofs.lemmas.Fmt.{digits_decimal, digits_value-decimal, length-decimal-le, decimal_nonempty, decimal_digit}
use Rattle.text.specs.Decimal.{digits, fair, plain}

own : IsNumeralModel (λ ds. all_ascii_digits ds ≡ true) (digits_value 10)
own = numerals_by_value _ tells_all_ascii_digits

pub record Fair (word : List ℕ) : Type 0 where
  pub some : 0 < length word
  pub short : length word ≤ 20
  pub figures : all_ascii_digits word ≡ true
  pub below : digits_value 10 word < 2 ^ 64

pub fair_from : (word : List ℕ) → Fair word → fair word ≡ true
fair_from word h =
    and_from (ltb 0 (length word)) _ (lt-ltb 0 (length word) h.some)
    (and_from (leb (length word) 20) _ (le-leb (length word) 20 h.short)
    (and_from (all_ascii_digits word) _ h.figures (lt-ltb (digits_value 10 word) (2 ^ 64) h.below)))

pub fair_parts : (word : List ℕ) → fair word ≡ true → Fair word
fair_parts word h =
    let p = and_parts (ltb 0 (length word)) _ h in
    let q = and_parts (leb (length word) 20) _ p.1 in
    let r = and_parts (all_ascii_digits word) _ q.1 in
    record
    { some = ltb-true 0 (length word) p.0; short = leb-true (length word) 20 q.0; figures = r.0; below = ltb-true (digits_value 10 word) (2 ^ 64) r.1 }

pub plain_is : (word : List ℕ) → Fair word → plain word ≡ Some (digits_value 10 word)
plain_is word h = cond-true (fair word) (Some (digits_value 10 word)) None (fair_from word h)

unless : {X : Type 0} (b : Bool) (x y : X) → (b ≡ true → ⊥) → cond b x y ≡ y
unless true x y h = absurd (h refl)
unless false x y h = refl

pub plain_none : (word : List ℕ) → (Fair word → ⊥) → plain word ≡ None
plain_none word h = unless (fair word) (Some (digits_value 10 word)) None (λ e. h (fair_parts word e))

-- what the digits of a short word make of 0 is the number that it says
pub plain_of : (word : List ℕ) (r : Option ℕ) → 0 < length word → length word ≤ 20
    → SomeIff r (AllDigits 10 word × (digits_value 10 word < 2 ^ 64)) (digits_value 10 word) → r ≡ plain word
plain_of word (Some n) some short h =
    ap Some h.1
    ∙ sym (plain_is word (record { some = some; short = short; figures = own.from word h.0.0; below = h.0.1 }))
plain_of word None some short h = sym (plain_none word (λ f. h (own.to word f.figures, f.below)))

-- every number below 2^64 reads back from its own digits
pub plain_digits : (n : ℕ) → n < 2 ^ 64 → plain (digits n) ≡ Some n
plain_digits n small =
    let v : digits_value 10 (digits n) ≡ n = digits_value-decimal own n small in
    plain_is (digits n)
    (record { some = decimal_nonempty n small; short = length-decimal-le 20 n (omega arith) (omega arith) small; figures = digits_decimal own n small; below = omega arith })
    ∙ ap Some v

-- a number from one power of ten to below the next
width_between : (n k : ℕ) → n < 2 ^ 64 → 10 ^ k ≤ n → n < 10 * 10 ^ k → 1 + k ≡ length (digits n)
width_between n k small low high =
    let next : n < 10 ^ suc k = omega (arith, pow-suc 10 k) in
    let most = length-decimal-le (suc k) n (omega arith) next small in
    let value = digits_value-decimal own n small in
    let below = digits_value_short own (digits n) (length (digits n)) (digits_decimal own n small) (omega arith) in
    let least : length (digits n) ≤ k → ⊥ = λ few. omega (arith, pow-le-pow_right {n = 10} (lit< tt) few) in
    elim (cases_lt k (length (digits n))) [ inl more ↦ omega arith | inr few ↦ absurd (least few) ]

-- 0 has a digit too
pub width_is : (n : ℕ) (log : Option ℕ) → n < 2 ^ 64 → IfNone log (n ≡ 0) → IfSome log (λ k. 10 ^ k ≤ n)
    → IfSome log (λ k. n < 10 * 10 ^ k) → 1 + unwrap_or log 0 ≡ length (digits n)
width_is n None small none low high = sym (ap length (decimal_digit n (omega arith)))
width_is n (Some k) small none low high = width_between n k small low high

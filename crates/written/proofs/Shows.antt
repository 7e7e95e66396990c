-- The position current at a sample, from what locate answers.
--   stands_past     past the last sample none is current
--   stands_first    nor where locate answers 0
--   stands_edge     nor where it answers the length
--   stands_before   elsewhere it is the position before the one located, and none where that is 0
-- Assumes nothing.
use Rattle.std.proofs.Common.{◌≡◌, ◌≢◌, ℕ, zero, suc, ◌+◌, ◌-◌, ◌<◌, ◌≤◌, nat_lt, SomeIff, Option, Some, None, refl, sym, ap, ◌∙◌, inl, inr, arith}
use Rattle.std.proofs.lemmas.Bool.{cases_lt, le-ltb, lt-ltb, cond-true, cond-false}
use Rattle.timebase.specs.Meaning.{Meaning, Sound, Least, last_sample, located}
use Rattle.timebase.specs.Locates.{least_located, located_least}
use Rattle.written.specs.Current.{last_before, standing}

none_at_length : (n : ℕ) → None ≡ last_before n n
none_at_length zero = refl
none_at_length (suc n) = sym (cond-false (nat_lt (suc n) (suc n)) (Some n) None (le-ltb (suc n) (suc n) (omega arith)))

one_before : (n r : ℕ) (o : Option ℕ) → r ≤ n → r ≢ n → SomeIff o (1 ≤ r) (r - 1) → o ≡ last_before n r
one_before n zero None inside off is = refl
one_before n zero (Some p) inside off is = absurd (omega (arith, is.0))
one_before n (suc r) None inside off is = absurd (is (omega arith))
one_before n (suc r) (Some p) inside off is =
    let e : p ≡ r = omega (arith, is.1) in
    ap Some e ∙ sym (cond-true (nat_lt (suc r) n) (Some r) None (lt-ltb (suc r) n (omega (arith, off))))

none_before : (n r : ℕ) → SomeIff None (1 ≤ r) (r - 1) → None ≡ last_before n r
none_before n zero is = refl
none_before n (suc r) is = absurd (is (omega arith))

pub stands_first : (m : Meaning) (s r : ℕ) → Sound m → Least m (s + 1) r → SomeIff None (1 ≤ r) (r - 1) → None ≡ standing m s
stands_first m s r sound least is = none_before m.len r is ∙ ap (last_before m.len) (least_located m sound (s + 1) r least)

pub stands_edge : (m : Meaning) (s r : ℕ) → Sound m → Least m (s + 1) r → r ≡ m.len → None ≡ standing m s
stands_edge m s r sound least edge =
    none_at_length m.len ∙ ap (last_before m.len) (sym edge ∙ least_located m sound (s + 1) r least)

pub stands_past : (m : Meaning) (s : ℕ) → Sound m → last_sample < s → None ≡ standing m s
stands_past m s sound past =
    let least = located_least m sound (s + 1) in
    let r = located m (s + 1) in
    stands_edge m s r sound least
    (elim (cases_lt r m.len) [
      | inl h ↦ absurd (let a = least.reaches h in let b = sound.within r h in omega arith)
      | inr h ↦ (let i = least.inside in omega arith)
    ])

pub stands_before : (m : Meaning) (s r : ℕ) (o : Option ℕ) → Sound m → Least m (s + 1) r → r ≢ m.len → SomeIff o (1 ≤ r) (r - 1) →
    o ≡ standing m s
stands_before m s r o sound least off is =
    one_before m.len r o least.inside off is ∙ ap (last_before m.len) (least_located m sound (s + 1) r least)

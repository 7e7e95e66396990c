-- A quotient rounded up.
--   Fewest        c steps of b are the fewest that reach x
--   fewest        a quotient rounded up is so many
--   fewest_le     they are no more than x
--   fewest_parts  they part the numbers of steps that reach x from those that do not
-- Assumes nothing.
use Rattle.std.proofs.Common.{◌≡◌, ℕ, ◌+◌, ◌*◌, ◌/◌, ◌%◌, ◌<◌, ◌≤◌, min, subst, inl, inr, mul-le-mul_right, add-mul, mul-le-mul_left, mul-lt-mul_of_pos_right, arith}
use Rattle.std.proofs.lemmas.Nat.{div-add-mod', mod_below}
use Rattle.std.proofs.lemmas.Bool.{cases_lt}

pub record Fewest (x b c : ℕ) : Type 0 where
  pub enough : x ≤ c * b
  pub fewer : (q : ℕ) → q < c → q * b < x

pub fewest : (x b : ℕ) → 1 ≤ b → Fewest x b (x / b + min 1 (x % b))
fewest x b h =
    let parts_of : x / b * b + x % b ≡ x = div-add-mod' x b in
    let below : x % b < b = mod_below x b h in
    let even : x % b ≡ 0 → Fewest x b (x / b + min 1 (x % b)) =
    λ z. subst (Fewest x b) (let e : x / b ≡ x / b + min 1 (x % b) = omega arith in e) record {
      enough = omega arith;
      fewer = λ q lt. omega (arith, mul-lt-mul_of_pos_right lt h);
    } in
    let odd : 0 < x % b → Fewest x b (x / b + min 1 (x % b)) =
    λ z. subst (Fewest x b) (let e : x / b + 1 ≡ x / b + min 1 (x % b) = omega arith in e) record {
      enough = omega (arith, add-mul (x / b) 1 b);
      fewer = λ q lt. omega (arith, mul-le-mul_right b (let f : q ≤ x / b = omega arith in f));
    } in
    elim (cases_lt 0 (x % b)) [ inl some ↦ odd some | inr none ↦ even (omega arith) ]

pub fewest_le : (x b c : ℕ) → 1 ≤ b → Fewest x b c → c ≤ x
fewest_le x b c h w =
    elim (cases_lt x c) [ inl more ↦ omega (arith, w.fewer x more, mul-le-mul_left x h) | inr le ↦ le ]

pub fewest_parts : (x b c : ℕ) → Fewest x b c → (n : ℕ) → (c ≤ n → x ≤ n * b) × (x ≤ n * b → c ≤ n)
fewest_parts x b c w n = (
  λ le. omega (arith, w.enough, mul-le-mul_right b le),
  λ le. elim (cases_lt n c) [ inl lt ↦ absurd (omega (arith, w.fewer n lt)) | inr ge ↦ ge ],
)

-- The order of values by their parts, for every written form.
-- Assumes nothing.
use Rattle.std.specs.Prelude.{◌≡◌, ℕ, ◌+◌, ◌*◌, ◌<◌, ◌≤◌, ◌⊎◌, List, [], ◌∷◌, length, refl}
use Rattle.std.proofs.Common.{sym, inl, inr, ⊎_elim, mul-add, arith}
use Rattle.std.proofs.lemmas.Nat.{mul-le}
use Rattle.std.proofs.lemmas.Bool.Decides.{nat_tests}
use Rattle.forms.specs.Pairing.{Earlier}

-- a greater high digit decides
pub high_digit : (c q r q' r' : ℕ) → r < c → q < q' → c * q + r < c * q' + r'
high_digit c q r q' r' below less =
    let next : q + 1 ≤ q' = omega arith in
    let same : c ≤ c = omega arith in
    omega (arith, mul-le c (q + 1) c q' same next, mul-add c q 1)

pub three_ways : (x y : ℕ) → (x < y) ⊎ ((x ≡ y) ⊎ (y < x))
three_ways x y = grind (arith, nat_tests)

-- of two lists of one length, one is earlier or they are equal
pub compared : (xs ys : List ℕ) → length xs ≡ length ys → Earlier xs ys ⊎ ((xs ≡ ys) ⊎ Earlier ys xs)
compared [] [] e = inr (inl refl)
compared [] (y ∷ ys) e = absurd (omega arith)
compared (x ∷ xs) [] e = absurd (omega arith)
compared (x ∷ xs) (y ∷ ys) e =
    let rest : length xs ≡ length ys = omega arith in
    ⊎_elim
    (λ less. inl (inl less))
    (⊎_elim
    (λ same. ⊎_elim
    (λ before. inl (inr (same, before)))
    (⊎_elim (λ equal. inr (inl (cc))) (λ after. inr (inr (inr (sym same, after)))))
    (compared xs ys rest))
    (λ more. inr (inr (inl more))))
    (three_ways x y)

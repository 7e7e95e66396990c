-- A word read digit by digit.
--   Digit    what a number is with one digit more, where it fits
--   Number   what the digits of a word make of the number before them, where it fits
--   numbers  what a fold over the items of an iterator answers, where each step adds a digit
-- Assumes nothing.
use Rattle.std.proofs.Common.{◌≡◌, ℕ, ◌+◌, ◌*◌, ◌^◌, ◌<◌, ◌≤◌, List, [], ◌∷◌, Some, None, Option, sym, refl, ap, ◌∙◌, subst, arith, MatchOption, Bor, Iter, lit<}
use denote.Param.Members.{Mut}
use Rattle.std.specs.Char.{digit_value}
use Rattle.std.specs.Fn.{Called}
use Rattle.std.proofs.iter.Yields.{fronts}
use Rattle.std.proofs.lemmas.Iterator.{YieldsList-from_slice}
use Rattle.std.specs.Iterator.{AlwaysYields, Yields, YieldsThen}
use Rattle.std.specs.Slice.Iter.{iter_rest}
use Rattle.std.specs.List.{FoldsTo}
use Rattle.std.specs.Option.{SomeIff}
use Rattle.std.specs.Str.Parse.{digits_value_after, AllDigits}

abbrev pub Digit : ℕ → ℕ → Option ℕ → Type 0
Digit n b r = SomeIff r ((digit_value b < 10) × (n * 10 + digit_value b < 2 ^ 64)) (n * 10 + digit_value b)

abbrev pub Number : ℕ → List ℕ → Option ℕ → Type 0
Number n bs r = SomeIff r (AllDigits 10 bs × (digits_value_after 10 n bs < 2 ^ 64)) (digits_value_after 10 n bs)

-- the digits that follow make a number no smaller
grows : (n : ℕ) (bs : List ℕ) → n ≤ digits_value_after 10 n bs
grows n [] = omega arith
grows n (b ∷ bs) = omega (arith, grows (n * 10 + digit_value b) bs)

done : (n : ℕ) (r : Option ℕ) → n < 2 ^ 64 → r ≡ Some n → Number n [] r
done n r small is = subst (Number n []) (sym is) ((tt, small), refl)

more : (n b : ℕ) (bs : List ℕ) (r : Option ℕ) → digit_value b < 10 → Number (n * 10 + digit_value b) bs r
    → Number n (b ∷ bs) r
more n b bs (Some k) d h = (((d, h.0.0), h.0.1), h.1)
more n b bs None d h = λ p. h (p.0.1, p.1)

stopped : (n b : ℕ) (bs : List ℕ) (r : Option ℕ) → Digit n b None → r ≡ None → Number n (b ∷ bs) r
stopped n b bs r d is =
    subst (Number n (b ∷ bs)) (sym is)
    (λ p. d (p.0.0, omega (arith, p.1, grows (n * 10 + digit_value b) bs)))

module _ (F E : Type 0) (g : Mut F (ℕ × (Bor ℕ × Unit {0})) (Option ℕ))
    (one : (f : F) (n : ℕ) (x : Bor ℕ) (v : Option ℕ) (q : F) → Called g f (n, (x, tt)) v q → Digit n x.now v) where
  abbrev Turn : F × ℕ → Bor ℕ → F × ℕ → Type 0
  Turn p x q = (v : Option ℕ) × Called g p.0 (p.1, (x, tt)) v q.0 × (v ≡ Some q.1)

  turned : (p : F × ℕ) (x : Bor ℕ) (q : F × ℕ) → Turn p x q → Digit p.1 x.now (Some q.1)
  turned p x q k = subst (Digit p.1 x.now) k.2 (one p.0 p.1 x k.0 q.0 k.1)

  abbrev Stop : F → ℕ → Option ℕ → Bor ℕ → Type 0
  Stop f n r x = (v : Option ℕ) × (q : F) × (e : E) × Called g f (n, (x, tt)) v q × (v ≡ None) × (r ≡ None)

  stops : (f : F) (n : ℕ) (r : Option ℕ) (x : Bor ℕ) → Stop f n r x → Digit n x.now None
  stops f n r x k = subst (Digit n x.now) k.4 (one f n x k.0 k.1 k.3)

  folded : (xs : List (Bor ℕ)) (all : List ℕ) (s t u : Iter ℕ) (p q : F × ℕ) (o : Option (Bor ℕ)) (r : Option ℕ) → p.1 < 2 ^ 64
      → AlwaysYields fronts (λ y. y.now) s all → Yields fronts s xs t → FoldsTo Turn p xs q → fronts t o u
      → MatchOption o (r ≡ Some q.1) (Stop q.0 q.1 r) → Number p.1 all r
  folded [] [] s t u p q None r small e y c k m = done p.1 r small (m ∙ ap (λ z. Some z.1) (sym c))
  folded [] [] s t u p q (Some x) r small e y c k m = absurd (e x u (subst (λ j. fronts j (Some x) u) (sym y) k))
  folded [] (b ∷ bs) s t u p q None r small e y c k m = absurd (e.0 u (subst (λ j. fronts j None u) (sym y) k))
  folded [] (b ∷ bs) s t u p q (Some x) r small e y c k m =
      let is = (e.1 x u (subst (λ j. fronts j (Some x) u) (sym y) k)).0 in
      let digit = subst (λ z. Digit z.1 x.now None) (sym c) (stops q.0 q.1 r x m) in
      stopped p.1 b bs r (subst (λ z. Digit p.1 z None) is digit) m.5
  folded (x ∷ xs) [] s t u p q o r small e y c k m = absurd (e x y.0 y.1)
  folded (x ∷ xs) (b ∷ bs) s t u p q o r small e y c k m =
      let next = e.1 x y.0 y.1 in
      let d : Digit p.1 b (Some c.0.1) = subst (λ z. Digit p.1 z (Some c.0.1)) next.0 (turned p x c.0 c.1) in
      let rest = folded xs bs y.0 t u c.0 q o r (omega (arith, d.0.1, d.1)) next.1 y.2 c.2 k m in
      more p.1 b bs r d.0.0 (subst (λ z. Number z bs r) d.1 rest)

  pub numbers : (word : List ℕ) (s u : Iter ℕ) (f : F) (r : Option ℕ) → iter_rest s ≡ word
      → (xs : List (Bor ℕ)) × (o : Option (Bor ℕ)) × (h : F) × (n : ℕ) × YieldsThen fronts s xs o u
      × FoldsTo Turn (f, 0) xs (h, n) × MatchOption o (r ≡ Some n) (Stop h n r)
      → Number 0 word r
  numbers word s u f r rest h =
      folded h.0 word s h.4.0 u (f, 0) (h.2, h.3) h.1 r (lit< tt) (YieldsList-from_slice word rest).runs h.4.1 h.5 h.4.2 h.6

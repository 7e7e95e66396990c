-- The cues that pass a test, after a cue was entered or struck. Assumes nothing.
use Rattle.std.proofs.Common.{◌≡◌, ℕ, Bool, true, false, cond, eqb, List, [], ◌∷◌, filter, sym, refl, ap, ◌∙◌, ne_eqb, eqb-true}
use Rattle.std.proofs.lemmas.Bool.{cond-true, cond-false}
use Rattle.book.specs.declared.cue.Cue.{Cue}
use Rattle.book.specs.Cues.{earlier, entered, numbered, struck}
use Rattle.history.proofs.Numbers.{none_kept}

module _ {V : Type 0} (t : Cue V → Bool) where
  other_step : (c x : Cue V) (xs : List (Cue V)) (b : Bool) → t c ≡ false → filter t (entered c xs) ≡ filter t xs
      → filter t (cond b (x ∷ entered c xs) (c ∷ x ∷ xs)) ≡ filter t (x ∷ xs)
  other_step c x xs true f ih = ap (λ ys. cond (t x) (x ∷ ys) ys) ih
  other_step c x xs false f ih = cond-false (t c) (c ∷ filter t (x ∷ xs)) (filter t (x ∷ xs)) f

  pub entered_other : (c : Cue V) (xs : List (Cue V)) → t c ≡ false → filter t (entered c xs) ≡ filter t xs
  entered_other c [] f = cond-false (t c) (c ∷ []) [] f
  entered_other c (x ∷ xs) f = other_step c x xs (earlier x c) f (entered_other c xs f)

  one_step : (c x : Cue V) (xs : List (Cue V)) (b : Bool) → t c ≡ true → t x ≡ false → filter t xs ≡ [] → filter t (entered c xs) ≡ c ∷ []
      → filter t (cond b (x ∷ entered c xs) (c ∷ x ∷ xs)) ≡ c ∷ []
  one_step c x xs true e f none ih = cond-false (t x) (x ∷ filter t (entered c xs)) (filter t (entered c xs)) f ∙ ih
  one_step c x xs false e f none ih =
      cond-true (t c) (c ∷ filter t (x ∷ xs)) (filter t (x ∷ xs)) e
      ∙ ap (λ ys. c ∷ ys) (cond-false (t x) (x ∷ filter t xs) (filter t xs) f ∙ none)

  pub entered_one : (c : Cue V) (xs : List (Cue V)) → t c ≡ true → filter t xs ≡ [] → filter t (entered c xs) ≡ c ∷ []
  entered_one c [] e none = cond-true (t c) (c ∷ []) [] e
  entered_one c (x ∷ xs) e none =
      let p = none_kept x (filter t xs) (t x) none in
      one_step c x xs (earlier x c) e p.0 p.1 (entered_one c xs e p.1)

abbrev pub tail : {X : Type 0} → List X → List X
tail [] = []
tail (x ∷ xs) = xs

module _ {V : Type 0} (n : ℕ) where
  struck_other_step : (m : ℕ) (x : Cue V) (xs : List (Cue V)) (b : Bool) → eqb x.number n ≡ b → (m ≡ n → ⊥) → filter (numbered m) (struck n xs) ≡ filter (numbered m) xs
      → filter (numbered m) (cond b xs (x ∷ struck n xs)) ≡ filter (numbered m) (x ∷ xs)
  struck_other_step m x xs true e ne ih =
      let is : x.number ≡ n = eqb-true _ _ e in
      sym (cond-false (eqb x.number m) (x ∷ filter (numbered m) xs) (filter (numbered m) xs) (ne_eqb _ _ (λ q. ne (sym q ∙ is))))
  struck_other_step m x xs false e ne ih = ap (λ ys. cond (eqb x.number m) (x ∷ ys) ys) ih

  pub struck_other : (m : ℕ) (xs : List (Cue V)) → (m ≡ n → ⊥) → filter (numbered m) (struck n xs) ≡ filter (numbered m) xs
  struck_other m [] ne = refl
  struck_other m (x ∷ xs) ne = struck_other_step m x xs (eqb x.number n) refl ne (struck_other m xs ne)

  struck_same_step : (x : Cue V) (xs : List (Cue V)) (b : Bool) → eqb x.number n ≡ b → filter (numbered n) (struck n xs) ≡ tail (filter (numbered n) xs)
      → filter (numbered n) (cond b xs (x ∷ struck n xs)) ≡ tail (cond b (x ∷ filter (numbered n) xs) (filter (numbered n) xs))
  struck_same_step x xs true e ih = refl
  struck_same_step x xs false e ih = cond-false (eqb x.number n) (x ∷ filter (numbered n) (struck n xs)) (filter (numbered n) (struck n xs)) e ∙ ih

  pub struck_same : (xs : List (Cue V)) → filter (numbered n) (struck n xs) ≡ tail (filter (numbered n) xs)
  struck_same [] = refl
  struck_same (x ∷ xs) = struck_same_step x xs (eqb x.number n) refl (struck_same xs)

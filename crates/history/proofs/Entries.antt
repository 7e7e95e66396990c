-- What entering and striking a cue keep of a book: its order, what holds of each cue, and the cues of each number.
-- Assumes nothing.
use Rattle.std.proofs.Common.{◌≡◌, ℕ, ◌<◌, ◌≤◌, Bool, true, false, cond, ◌&&◌, eqb, ltb, ◌⊎◌, List, [], ◌∷◌, filter, refl, inl, inr, ⊎_elim, arith, ltb-false, ltb-true, lt-ltb, eq-eqb, eqb-true}
use Rattle.std.proofs.lemmas.Bool.{eqb-false, or_cases, or_parts, or_left, or_right, and_parts, and_from, and_cases, cases_order}
use Rattle.std.specs.List.{AllByRecursion}
use Rattle.book.specs.declared.cue.Cue.{Cue}
use Rattle.book.specs.Cues.{earlier, entered, numbered, struck, AfterAll, Rising}
use Rattle.history.proofs.Numbers.{none_kept}

module _ {V : Type 0} where
  -- the order as numbers have it
  abbrev pub Sooner : Cue V → Cue V → Type 0
  Sooner a b = (a.position < b.position) ⊎ ((a.position ≡ b.position) × (a.number < b.number))

  pub sooner : (a b : Cue V) → earlier a b ≡ true → Sooner a b
  sooner a b t = ⊎_elim
      (λ l. inl (ltb-true _ _ l))
      (λ e. let p = and_parts (eqb a.position b.position) (ltb a.number b.number) e in inr (eqb-true _ _ p.0, ltb-true _ _ p.1))
      (or_cases (ltb a.position b.position) (eqb a.position b.position && ltb a.number b.number) t)

  is_sooner : (a b : Cue V) → Sooner a b → earlier a b ≡ true
  is_sooner a b (inl l) = or_left (ltb a.position b.position) _ (lt-ltb _ _ l)
  is_sooner a b (inr e) = or_right (ltb a.position b.position) _ (and_from _ _ (eq-eqb _ _ e.0) (lt-ltb _ _ e.1))

  sooner_trans : (a b c : Cue V) → Sooner a b → Sooner b c → Sooner a c
  sooner_trans a b c (inl l) (inl m) = inl (omega arith)
  sooner_trans a b c (inl l) (inr m) = let e = m.0 in inl (omega arith)
  sooner_trans a b c (inr l) (inl m) = let e = l.0 in inl (omega arith)
  sooner_trans a b c (inr l) (inr m) = let e = l.0 in let f = m.0 in let x = l.1 in let y = m.1 in inr (omega arith, omega arith)

  -- two cues of two numbers: one comes first
  sooner_other : (a b : Cue V) → earlier a b ≡ false → (a.number ≡ b.number → ⊥) → Sooner b a
  sooner_other a b f ne =
      let p = or_parts (ltb a.position b.position) (eqb a.position b.position && ltb a.number b.number) f in
      let le : b.position ≤ a.position = ltb-false _ _ p.0 in
      ⊎_elim
      (λ e. inl (let nq = eqb-false _ _ e in ⊎_elim (λ q. absurd (nq q)) (⊎_elim (λ l. omega arith) (λ l. l)) (cases_order a.position b.position)))
      (λ l. let low : b.number ≤ a.number = ltb-false _ _ l in
      ⊎_elim (λ q. ⊎_elim (λ r. absurd (ne r)) (⊎_elim (λ s. absurd (omega arith)) (λ s. inr (omega arith, s))) (cases_order a.number b.number))
      (⊎_elim (λ m. absurd (omega arith)) (λ m. inl m)) (cases_order a.position b.position))
      (and_cases (eqb a.position b.position) (ltb a.number b.number) p.1)

  after_trans : (c x : Cue V) (xs : List (Cue V)) → earlier c x ≡ true → AfterAll x xs → AfterAll c xs
  after_trans c x [] e all = tt
  after_trans c x (y ∷ ys) e all = (is_sooner c y (sooner_trans c x y (sooner c x e) (sooner x y all.0)), after_trans c x ys e all.1)

  after_cond : (y : Cue V) (b : Bool) (xs ys : List (Cue V)) → AfterAll y xs → AfterAll y ys → AfterAll y (cond b xs ys)
  after_cond y true xs ys p q = p
  after_cond y false xs ys p q = q

  after_entered : (y c : Cue V) (xs : List (Cue V)) → earlier y c ≡ true → AfterAll y xs → AfterAll y (entered c xs)
  after_entered y c [] e all = (e, tt)
  after_entered y c (x ∷ xs) e all =
      after_cond y (earlier x c) (x ∷ entered c xs) (c ∷ x ∷ xs) (all.0, after_entered y c xs e all.1) (e, all)

  -- no cue of the list has the number
  abbrev pub Lacks : ℕ → List (Cue V) → Type 0
  Lacks n [] = Unit {0}
  Lacks n (x ∷ xs) = (numbered n x ≡ false) × Lacks n xs

  pub lacks : (n : ℕ) (xs : List (Cue V)) → filter (numbered n) xs ≡ [] → Lacks n xs
  lacks n [] e = tt
  lacks n (x ∷ xs) e = let p = none_kept x (filter (numbered n) xs) (numbered n x) e in (p.0, lacks n xs p.1)

  rising_step : (c x : Cue V) (xs : List (Cue V)) (b : Bool) → earlier x c ≡ b → numbered c.number x ≡ false → Rising (x ∷ xs) → Rising (entered c xs)
      → Rising (cond b (x ∷ entered c xs) (c ∷ x ∷ xs))
  rising_step c x xs true e ne r up = (after_entered x c xs e r.0, up)
  rising_step c x xs false e ne r up =
      let first : earlier c x ≡ true = is_sooner c x (sooner_other x c e (eqb-false _ _ ne)) in
      ((first, after_trans c x xs first r.0), r)

  pub rising_entered : (c : Cue V) (xs : List (Cue V)) → Lacks c.number xs → Rising xs → Rising (entered c xs)
  rising_entered c [] l r = (tt, tt)
  rising_entered c (x ∷ xs) l r = rising_step c x xs (earlier x c) refl l.0 r (rising_entered c xs l.1 r.1)

  after_struck : (y : Cue V) (n : ℕ) (xs : List (Cue V)) → AfterAll y xs → AfterAll y (struck n xs)
  after_struck y n [] all = tt
  after_struck y n (x ∷ xs) all = after_cond y (numbered n x) xs (x ∷ struck n xs) all.1 (all.0, after_struck y n xs all.1)

  rising_cond : (b : Bool) (xs ys : List (Cue V)) → Rising xs → Rising ys → Rising (cond b xs ys)
  rising_cond true xs ys p q = p
  rising_cond false xs ys p q = q

  pub rising_struck : (n : ℕ) (xs : List (Cue V)) → Rising xs → Rising (struck n xs)
  rising_struck n [] r = tt
  rising_struck n (x ∷ xs) r = rising_cond (numbered n x) xs (x ∷ struck n xs) r.1 (after_struck x n xs r.0, rising_struck n xs r.1)

  all_cond : (P : Cue V → Type 0) (b : Bool) (xs ys : List (Cue V)) → AllByRecursion P xs → AllByRecursion P ys → AllByRecursion P (cond b xs ys)
  all_cond P true xs ys p q = p
  all_cond P false xs ys p q = q

  pub all_entered : (P : Cue V → Type 0) (c : Cue V) (xs : List (Cue V)) → P c → AllByRecursion P xs → AllByRecursion P (entered c xs)
  all_entered P c [] p all = (p, tt)
  all_entered P c (x ∷ xs) p all =
      all_cond P (earlier x c) (x ∷ entered c xs) (c ∷ x ∷ xs) (all.0, all_entered P c xs p all.1) (p, all)

  pub all_struck : (P : Cue V → Type 0) (n : ℕ) (xs : List (Cue V)) → AllByRecursion P xs → AllByRecursion P (struck n xs)
  all_struck P n [] all = tt
  all_struck P n (x ∷ xs) all = all_cond P (numbered n x) xs (x ∷ struck n xs) all.1 (all.0, all_struck P n xs all.1)

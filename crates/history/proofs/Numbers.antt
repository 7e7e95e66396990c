-- The cues of one number, and counting cues by counting numbers. Assumes nothing.
use Rattle.std.proofs.Common.{◌≡◌, ℕ, zero, suc, ◌+◌, ◌<◌, ◌≤◌, Bool, true, false, cond, ◌&&◌, eqb, List, [], ◌∷◌, length, Some, None, filter, Option, sym, refl, ap, ◌∙◌, ⊎_elim, arith, eq-eqb, ne_eqb}
use Rattle.std.proofs.lemmas.Bool.{cases_eq, cond-true, cond-false}
use Rattle.std.specs.Option.{option_to_list}
use Rattle.std.specs.List.{AllByRecursion}
use Rattle.timebase.specs.Meaning.{tally}
use Rattle.book.specs.declared.cue.Cue.{Cue}
use Rattle.book.specs.Cues.{numbered}
use Rattle.history.specs.Accepted.{holds_of}

-- filters of any list
module _ {X : Type 0} where
  pub kept_swap : (p : X → Bool) (b : Bool) (x : X) (xs ys : List X) → filter p (cond b xs ys) ≡ cond b (filter p xs) (filter p ys)
  kept_swap p true x xs ys = refl
  kept_swap p false x xs ys = refl

  both_step : (p q : X → Bool) (x : X) (xs : List X) (b : Bool) → p x ≡ b → filter q (filter p xs) ≡ filter (λ y. p y && q y) xs
      → filter q (cond b (x ∷ filter p xs) (filter p xs)) ≡ cond (b && q x) (x ∷ filter (λ y. p y && q y) xs) (filter (λ y. p y && q y) xs)
  both_step p q x xs true e ih = ap (λ ys. cond (q x) (x ∷ ys) ys) ih
  both_step p q x xs false e ih = ih

  pub kept_both : (p q : X → Bool) (xs : List X) → filter q (filter p xs) ≡ filter (λ x. p x && q x) xs
  kept_both p q [] = refl
  kept_both p q (x ∷ xs) = both_step p q x xs (p x) refl (kept_both p q xs)

  pub kept_same : (p q : X → Bool) → ((x : X) → p x ≡ q x) → (xs : List X) → filter p xs ≡ filter q xs
  kept_same p q same [] = refl
  kept_same p q same (x ∷ xs) = ap (λ b. cond b (x ∷ filter p xs) (filter p xs)) (same x) ∙ ap (λ ys. cond (q x) (x ∷ ys) ys) (kept_same p q same xs)

-- numbers added up below a bound
abbrev pub sum_to : (ℕ → ℕ) → ℕ → ℕ
sum_to f zero = 0
sum_to f (suc n) = sum_to f n + f n

-- a list of one, and a list of none, by what a test keeps
pub one_kept : {X : Type 0} (x : X) (b : Bool) → length (cond b (x ∷ []) []) ≡ cond b 1 0
one_kept x true = refl
one_kept x false = refl

pub none_kept : {X : Type 0} (x : X) (xs : List X) (b : Bool) → cond b (x ∷ xs) xs ≡ [] → (b ≡ false) × (xs ≡ [])
none_kept x xs true e = absurd (cc)
none_kept x xs false e = (refl, e)

pub sum_same : (f g : ℕ → ℕ) (n : ℕ) → ((c : ℕ) → c < n → f c ≡ g c) → sum_to f n ≡ sum_to g n
sum_same f g zero e = refl
sum_same f g (suc n) e =
    let a = sum_same f g n (λ c h. e c (omega arith)) in
    let b = e n (omega arith) in
    omega arith

pub sum_zero : (n : ℕ) → sum_to (λ c. 0) n ≡ 0
sum_zero zero = refl
sum_zero (suc n) = let a = sum_zero n in omega arith

pub sum_plus : (f g : ℕ → ℕ) (n : ℕ) → sum_to (λ c. f c + g c) n ≡ sum_to f n + sum_to g n
sum_plus f g zero = refl
sum_plus f g (suc n) = let a = sum_plus f g n in omega arith

none_before : (m k n : ℕ) → n ≤ m → sum_to (λ c. cond (eqb m c) k 0) n ≡ 0
none_before m k zero h = refl
none_before m k (suc n) h =
    let a = none_before m k n (omega arith) in
    let b : cond (eqb m n) k 0 ≡ 0 = cond-false (eqb m n) k 0 (ne_eqb m n (λ e. omega arith)) in
    omega arith

pub sum_once : (m k n : ℕ) → m < n → sum_to (λ c. cond (eqb m c) k 0) n ≡ k
sum_once m k zero h = absurd (omega arith)
sum_once m k (suc n) h = ⊎_elim
    (λ e. let b : cond (eqb m n) k 0 ≡ k = cond-true (eqb m n) k 0 (eq-eqb m n e) in let a = none_before m k n (omega arith) in omega arith)
    (λ ne. let b : cond (eqb m n) k 0 ≡ 0 = cond-false (eqb m n) k 0 (ne_eqb m n ne) in let a = sum_once m k n (omega arith) in omega arith)
    (cases_eq m n)

pub tally_sum : (test : ℕ → Bool) (n : ℕ) → tally test n ≡ sum_to (λ c. cond (test c) 1 0) n
tally_sum test zero = refl
tally_sum test (suc n) = let a = tally_sum test n in omega arith

pub tally_same : (f g : ℕ → Bool) (n : ℕ) → ((c : ℕ) → f c ≡ g c) → tally f n ≡ tally g n
tally_same f g zero e = refl
tally_same f g (suc n) e = ap (λ k. k + cond (f n) 1 0) (tally_same f g n e) ∙ ap (λ b. tally g n + cond b 1 0) (e n)

module _ {V : Type 0} (T : Cue V → Bool) where
  abbrev share : List (Cue V) → ℕ → ℕ
  share xs c = length (filter T (filter (numbered c) xs))

  share_step : (x : Cue V) (ys : List (Cue V)) (b t : Bool) → T x ≡ t
      → length (filter T (cond b (x ∷ ys) ys)) ≡ cond b (cond t 1 0) 0 + length (filter T ys)
  share_step x ys false t e = omega arith
  share_step x ys true true e = ap length (cond-true (T x) (x ∷ filter T ys) (filter T ys) e) ∙ omega arith
  share_step x ys true false e = ap length (cond-false (T x) (x ∷ filter T ys) (filter T ys) e) ∙ omega arith

  -- each cue is counted under its number, and under no other
  pub shares : (n : ℕ) (xs : List (Cue V)) → AllByRecursion (λ x. x.number < n) xs → sum_to (share xs) n ≡ length (filter T xs)
  shares n [] all = sum_zero n
  shares n (x ∷ xs) all =
      let one = sum_same (share (x ∷ xs)) (λ c. cond (eqb x.number c) (cond (T x) 1 0) 0 + share xs c) n
      (λ c h. share_step x (filter (numbered c) xs) (eqb x.number c) (T x) refl) in
      let parts = sum_plus (λ c. cond (eqb x.number c) (cond (T x) 1 0) 0) (share xs) n in
      let here = sum_once x.number (cond (T x) 1 0) n all.0 in
      let rest = shares n xs all.1 in
      let whole = share_step x xs true (T x) refl in
      omega arith

  alone : (o : Option (Cue V)) → length (filter T (option_to_list o)) ≡ cond (holds_of o T) 1 0
  alone None = refl
  alone (Some x) = one_kept x (T x)

  -- where each number has at most the one cue that `at` gives it, counting numbers counts cues
  pub tally_cues : (at : ℕ → Option (Cue V)) (n : ℕ) (xs : List (Cue V)) → ((c : ℕ) → filter (numbered c) xs ≡ option_to_list (at c)) → AllByRecursion (λ x. x.number < n) xs
      → tally (λ c. holds_of (at c) T) n ≡ length (filter T xs)
  tally_cues at n xs only all =
      tally_sum (λ c. holds_of (at c) T) n
      ∙ sum_same (λ c. cond (holds_of (at c) T) 1 0) (share xs) n (λ c h. sym (ap (λ ys. length (filter T ys)) (only c) ∙ alone (at c)))
      ∙ shares n xs all

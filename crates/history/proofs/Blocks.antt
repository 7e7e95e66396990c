-- One play, or two of the same total: what they cross.
--   two_blocks    a sample lies in one block exactly where it lies in one of its two parts
--   split_block   the cues that the whole crosses are those of the first part, then those of the second
--   tally_split   a count of tests that part into two
--   empty_block   a play of nothing crosses no cue
-- Assumes nothing.
use Rattle.std.proofs.Common.{◌≡◌, ℕ, zero, suc, ◌+◌, ◌<◌, ◌≤◌, Bool, true, false, cond, ltb, leb, List, [], ◌∷◌, ◌++◌, filter, sym, refl, ap, ◌∙◌, subst, inl, inr, arith}
use Rattle.std.specs.List.{AllByRecursion}
use Rattle.std.proofs.lemmas.Bool.{cases_lt, and_from, and_left, and_right, le-leb, lt-leb, lt-ltb, le-ltb, cond-false}
use Rattle.timebase.specs.Meaning.{Sound, tally}
use Rattle.book.specs.declared.cue.Cue.{Cue}
use Rattle.book.specs.Cues.{AfterAll, Rising}
use Rattle.book.proofs.Rises.{earlier_le}
use Rattle.history.specs.World.{World}
use Rattle.history.specs.Accepted.{in_block}
use Rattle.history.specs.Contents.{sample, in_play}
use Rattle.history.proofs.Kept.{Good}

pub inside_block : (h n s : ℕ) → h ≤ s → s < h + n → in_block h n s ≡ true
inside_block h n s low high = and_from (leb h s) (ltb s (h + n)) (le-leb h s low) (lt-ltb s (h + n) high)

pub before_block : (h n s : ℕ) → s < h → in_block h n s ≡ false
before_block h n s l = and_left (leb h s) (ltb s (h + n)) (lt-leb h s l)

pub after_block : (h n s : ℕ) → h + n ≤ s → in_block h n s ≡ false
after_block h n s l = and_right (leb h s) (ltb s (h + n)) (le-ltb s (h + n) l)

pub no_block : (h s : ℕ) → in_block h 0 s ≡ false
no_block h s =
    elim (cases_lt s h) [
      | inl l ↦ before_block h 0 s l
      | inr l ↦ after_block h 0 s (omega arith)
    ]

-- where a sample lies by a block of x + y from h on: in its first x, in the other y, or in neither
data Lies (h x y s : ℕ) : Type 0 where
  first : in_block h (x + y) s ≡ true → in_block h x s ≡ true → in_block (h + x) y s ≡ false → Lies h x y s
  second : h + x ≤ s → in_block h (x + y) s ≡ true → in_block h x s ≡ false → in_block (h + x) y s ≡ true → Lies h x y s
  neither : in_block h (x + y) s ≡ false → in_block h x s ≡ false → in_block (h + x) y s ≡ false → Lies h x y s

lies : (h x y s : ℕ) → Lies h x y s
lies h x y s =
    elim (cases_lt s h) [
      | inl l ↦ neither (before_block h (x + y) s l) (before_block h x s l) (before_block (h + x) y s (omega arith))
      | inr l ↦ elim (cases_lt s (h + x)) [
        | inl m ↦ first (inside_block h (x + y) s l (omega arith)) (inside_block h x s l m) (before_block (h + x) y s m)
        | inr m ↦ elim (cases_lt s (h + x + y)) [
          | inl k ↦ second m (inside_block h (x + y) s l (omega arith)) (after_block h x s m) (inside_block (h + x) y s m k)
          | inr k ↦ neither (after_block h (x + y) s (omega arith)) (after_block h x s m) (after_block (h + x) y s k)
        ]
      ]
    ]

-- what holds of three tests' values holds of the tests
by_values : (F : Bool → Bool → Bool → Type 0) {a b c p q r : Bool} → a ≡ p → b ≡ q → c ≡ r → F p q r → F a b c
by_values F {b = b} {c = c} {p = p} {q = q} d e f t =
    subst (λ x. F x b c) (sym d) (subst (λ x. F p x c) (sym e) (subst (λ x. F p q x) (sym f) t))

abbrev Adds : Bool → Bool → Bool → Type 0
Adds a b c = ◌≡◌ {A = ℕ} (cond a 1 0) (cond b 1 0 + cond c 1 0)

-- a sample is crossed by the whole as often as by its parts
pub two_blocks : (h x y s : ℕ) → cond (in_block h (x + y) s) 1 0 ≡ cond (in_block h x s) 1 0 + cond (in_block (h + x) y s) 1 0
two_blocks h x y s = go (lies h x y s)
  where
    go : Lies h x y s → Adds (in_block h (x + y) s) (in_block h x s) (in_block (h + x) y s)
    go (first a b c) = by_values Adds a b c refl
    go (second l a b c) = by_values Adds a b c refl
    go (neither a b c) = by_values Adds a b c refl

pub tally_split : (f g k : ℕ → Bool) → ((c : ℕ) → cond (f c) 1 0 ≡ cond (g c) 1 0 + cond (k c) 1 0) → (n : ℕ) → tally f n ≡ tally g n + tally k n
tally_split f g k e zero = refl
tally_split f g k e (suc n) = let h = e n in let r = tally_split f g k e n in omega arith

pub tally_none : (f : ℕ → Bool) → ((c : ℕ) → f c ≡ false) → (n : ℕ) → tally f n ≡ 0
tally_none f e zero = refl
tally_none f e (suc n) = ap (λ t. tally f n + cond t 1 0) (e n) ∙ ap (λ t. t + 0) (tally_none f e n)

module _ {V L : Type 0} (w : World V L) where
  pub empty_block : (h : ℕ) (xs : List (Cue V)) → filter (in_play w h 0) xs ≡ []
  empty_block h [] = refl
  empty_block h (x ∷ xs) = cond-false (in_play w h 0 x) (x ∷ filter (in_play w h 0) xs) _ (no_block h (sample w x)) ∙ empty_block h xs

  module _ (sound : Sound w.cues) where
    -- where a cue lies past a block, so do all that come after it
    past : (h n : ℕ) (x : Cue V) → h + n ≤ sample w x → (xs : List (Cue V)) → AfterAll x xs → AllByRecursion (Good V L w) xs → filter (in_play w h n) xs ≡ []
    past h n x l [] after good = refl
    past h n x l (y ∷ ys) after good =
        let le = sound.never_falls x.position y.position (earlier_le x y after.0) good.0.inside in
        let out = after_block h n (sample w y) (omega arith) in
        cond-false (in_play w h n y) (y ∷ filter (in_play w h n) ys) _ out ∙ past h n x l ys after.1 good.1

    module _ (h x y : ℕ) where
      abbrev whole : List (Cue V) → List (Cue V)
      whole zs = filter (in_play w h (x + y)) zs

      abbrev one : List (Cue V) → List (Cue V)
      one zs = filter (in_play w h x) zs

      abbrev two : List (Cue V) → List (Cue V)
      two zs = filter (in_play w (h + x) y) zs

      abbrev Joins : Cue V → List (Cue V) → Bool → Bool → Bool → Type 0
      Joins z zs a b c = cond a (z ∷ whole zs) (whole zs) ≡ cond b (z ∷ one zs) (one zs) ++ cond c (z ∷ two zs) (two zs)

      joins : (z : Cue V) (zs : List (Cue V)) → AfterAll z zs → AllByRecursion (Good V L w) zs → whole zs ≡ one zs ++ two zs → Lies h x y (sample w z)
          → Joins z zs (in_play w h (x + y) z) (in_play w h x z) (in_play w (h + x) y z)
      joins z zs after good rest (first a b c) = by_values (Joins z zs) a b c (ap (λ t. z ∷ t) rest)
      joins z zs after good rest (second l a b c) =
          let none = past h x z l zs after good in
          let tail : whole zs ≡ two zs = rest ∙ ap (λ t. t ++ two zs) none in
          by_values (Joins z zs) a b c (ap (λ t. z ∷ t) tail ∙ ap (λ t. t ++ (z ∷ two zs)) (sym none))
      joins z zs after good rest (neither a b c) = by_values (Joins z zs) a b c rest

      pub split_block : (zs : List (Cue V)) → Rising zs → AllByRecursion (Good V L w) zs
          → filter (in_play w h (x + y)) zs ≡ filter (in_play w h x) zs ++ filter (in_play w (h + x) y) zs
      split_block [] rises good = refl
      split_block (z ∷ zs) rises good = joins z zs rises.0 good.1 (split_block zs rises.1 good.1) (lies h x y (sample w z))

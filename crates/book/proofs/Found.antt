-- Entering and striking, by the first cue that a look from the front stops at. Assumes nothing.
use Rattle.std.proofs.Common.{◌≡◌, ℕ, ◌+◌, ◌<◌, Bool, true, false, cond, not, ◌||◌, ltb, List, [], ◌∷◌, length, is_some, Some, None, position, refl, sym, ap, ◌∙◌, arith, ltb-true, lt-ltb}
use Rattle.std.proofs.Math.Dec.{leb-suc-suc}
use Rattle.std.proofs.Math.Numerals.{one-add}
use Rattle.std.specs.List.{insert, remove, prefix_len, position_or_len}
use Rattle.book.specs.declared.cue.Cue.{Cue}
use Rattle.book.specs.Cues.{earlier, entered, has, numbered, struck}

module _ {V : Type 0} where
  pub entered_at : (c : Cue V) (cs : List (Cue V)) → insert cs (prefix_len (λ x. earlier x c) cs) c ≡ entered c cs
  entered_at c [] = refl
  entered_at c (x ∷ xs) = step (earlier x c) (entered_at c xs)
    where
      step : (b : Bool) → insert xs (prefix_len (λ y. earlier y c) xs) c ≡ entered c xs
          → insert (x ∷ xs) (cond b (1 + prefix_len (λ y. earlier y c) xs) 0) c ≡ cond b (x ∷ entered c xs) (c ∷ x ∷ xs)
      step true is = ap (λ i. insert (x ∷ xs) i c) (one-add _) ∙ ap (λ ys. x ∷ ys) is
      step false is = refl

  module _ (n : ℕ) where
    has_at : (cs : List (Cue V)) → ltb (position_or_len (numbered n) cs) (length cs) ≡ has n cs
    has_at [] = refl
    has_at (x ∷ xs) = step (numbered n x) (has_at xs)
      where
        step : (b : Bool) → ltb (position_or_len (numbered n) xs) (length xs) ≡ has n xs
            → ltb (cond (not b) (1 + position_or_len (numbered n) xs) 0) (length (x ∷ xs)) ≡ (b || has n xs)
        step true is = lt-ltb _ _ (omega arith)
        step false is = ap (λ i. ltb i (length (x ∷ xs))) (one-add (position_or_len (numbered n) xs)) ∙ leb-suc-suc _ _ ∙ is

    struck_at : (cs : List (Cue V)) → has n cs ≡ true → struck n cs ≡ remove cs (position_or_len (numbered n) cs)
    struck_at [] held = cc
    struck_at (x ∷ xs) held = step (numbered n x) held (struck_at xs)
      where
        step : (b : Bool) → (b || has n xs) ≡ true → (has n xs ≡ true → struck n xs ≡ remove xs (position_or_len (numbered n) xs))
            → cond b xs (x ∷ struck n xs) ≡ remove (x ∷ xs) (cond (not b) (1 + position_or_len (numbered n) xs) 0)
        step true held is = refl
        step false held is = ap (λ ys. x ∷ ys) (is held) ∙ sym (ap (remove (x ∷ xs)) (one-add _))

    pub struck_none : (cs : List (Cue V)) → has n cs ≡ false → struck n cs ≡ cs
    struck_none [] none = refl
    struck_none (x ∷ xs) none = step (numbered n x) none (struck_none xs)
      where
        step : (b : Bool) → (b || has n xs) ≡ false → (has n xs ≡ false → struck n xs ≡ xs) → cond b xs (x ∷ struck n xs) ≡ x ∷ xs
        step true none is = cc
        step false none is = ap (λ ys. x ∷ ys) (is none)

    pub has_found : (cs : List (Cue V)) → is_some (position (numbered n) cs) ≡ has n cs
    has_found cs = by_test _ ∙ has_at cs
      where
        by_test : (b : Bool) → is_some (cond b (Some (position_or_len (numbered n) cs)) None) ≡ b
        by_test true = refl
        by_test false = refl

    pub struck_found : (cs : List (Cue V)) (i : ℕ) → position (numbered n) cs ≡ Some i → (i < length cs) × (struck n cs ≡ remove cs i)
    struck_found cs i is = by_test _ refl is
      where
        by_test : (b : Bool) → ltb (position_or_len (numbered n) cs) (length cs) ≡ b → cond b (Some (position_or_len (numbered n) cs)) None ≡ Some i
            → (i < length cs) × (struck n cs ≡ remove cs i)
        by_test true t same =
            let e : position_or_len (numbered n) cs ≡ i = cc in
            (rw e at (ltb-true _ _ t), struck_at cs (sym (has_at cs) ∙ t) ∙ ap (remove cs) e)
        by_test false t same = absurd (cc)

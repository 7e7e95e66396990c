-- What moving cues by one place and one write leave of the first n places. Assumes nothing.
use Rattle.std.proofs.Common.{◌≡◌, ℕ, suc, ◌+◌, ◌-◌, ◌<◌, ◌≤◌, min, List, ◌∷◌, ◌++◌, length, take, drop, set, sym, refl, ap, ◌∙◌, append_assoc, add-one, arith}
use Rattle.std.proofs.Math.Seq.{paste}
use Rattle.std.proofs.lemmas.List.{take-take, drop-take, take_at, drop_at, set_split, length-take, length-drop, length-append, take-append-le, length-take-le}
use Rattle.std.proofs.lemmas.List.Edits.{take-paste}
use Rattle.std.proofs.lemmas.Grind.{common_steps}
use Rattle.std.specs.List.{insert, remove}

module _ {X : Type 0} (xs : List X) where
  pub moved_up : (i n : ℕ) (c : X) → i ≤ n → n < length xs
      → take (n + 1) (set (paste xs (i + 1) (drop i xs) (n - i)) i c) ≡ insert (take n xs) i c
  moved_up i n c le within =
      let mid : List X = take (n - i) (drop i xs) in
      let rest : List X = drop (i + 1 + (n - i)) xs in
      let long : length (take (i + 1) xs) ≡ i + 1 = length-take-le (i + 1) xs (omega arith) in
      let l : List X = take (i + 1) xs ++ (mid ++ rest) in
      let joined : paste xs (i + 1) (drop i xs) (n - i) ≡ l = append_assoc (take (i + 1) xs) mid rest in
      let inside : i < length l = omega (arith, length-append (take (i + 1) xs) (mid ++ rest)) in
      let front : take i l ≡ take i xs = take-append-le i (take (i + 1) xs) (mid ++ rest) (omega arith) ∙ take-take i (i + 1) xs (omega arith) in
      let next : suc i ≡ i + 1 = omega arith in
      let back : drop (suc i) l ≡ mid ++ rest = ap (λ k. drop k l) next ∙ drop_at (take (i + 1) xs) (mid ++ rest) (i + 1) long in
      let split : set l i c ≡ take i xs ++ (c ∷ (mid ++ rest)) = set_split l i c inside ∙ ap (λ u. u ++ (c ∷ drop (suc i) l)) front ∙ ap (λ u. take i xs ++ (c ∷ u)) back in
      let grouped : take i xs ++ (c ∷ (mid ++ rest)) ≡ (take i xs ++ (c ∷ mid)) ++ rest = sym (append_assoc (take i xs) (c ∷ mid) rest) in
      let size : length (take i xs ++ (c ∷ mid)) ≡ n + 1 = simp (length-append, length-take, length-drop) (omega arith) in
      let cut : take (n + 1) ((take i xs ++ (c ∷ mid)) ++ rest) ≡ take i xs ++ (c ∷ mid) = take_at (take i xs ++ (c ∷ mid)) rest (n + 1) size in
      let low : take i (take n xs) ≡ take i xs = take-take i n xs le in
      let sum : i + (n - i) ≡ n = omega arith in
      let high : drop i (take n xs) ≡ mid = ap (λ k. drop i (take k xs)) (sym sum) ∙ drop-take i (n - i) xs in
      ap (λ u. take (n + 1) (set u i c)) joined ∙ ap (take (n + 1)) (split ∙ grouped) ∙ cut
      ∙ ap (λ u. u ++ (c ∷ mid)) (sym low) ∙ ap (λ u. take i (take n xs) ++ (c ∷ u)) (sym high)

  pub moved_down : (i n : ℕ) → i < n → n ≤ length xs
      → take (n - 1) (paste xs i (drop (i + 1) xs) (n - (i + 1))) ≡ remove (take n xs) i
  moved_down i n lt within =
      let k : ℕ = n - (i + 1) in
      let counts : n - 1 ≡ i + k = omega arith in
      let sum : suc i + k ≡ n = omega arith in
      let fits : k ≤ length (drop (i + 1) xs) = simp length-drop (omega arith) in
      let cut : take (i + k) (paste xs i (drop (i + 1) xs) k) ≡ take i xs ++ take k (drop (i + 1) xs) = take-paste xs i (drop (i + 1) xs) k (omega arith) fits in
      let low : take i (take n xs) ≡ take i xs = take-take i n xs (omega arith) in
      let high : drop (suc i) (take n xs) ≡ take k (drop (i + 1) xs) = ap (λ m. drop (suc i) (take m xs)) (sym sum) ∙ drop-take (suc i) k xs ∙ rw add-one refl in
      ap (λ m. take m (paste xs i (drop (i + 1) xs) k)) counts ∙ cut ∙ ap (λ u. u ++ take k (drop (i + 1) xs)) (sym low) ∙ ap (λ u. take i (take n xs) ++ u) (sym high)

  -- the same of the memory that is in use, `len` capped at what there is
  module _ (len n : ℕ) (capped : n ≡ min len (length xs)) where
    in_use : take n xs ≡ take len xs
    in_use = grind (arith, common_steps)

    module _ (i : ℕ) (moved : List X) where
      pub after_insert : (c : X) → i ≤ n → n < length xs → moved ≡ paste xs (i + 1) (drop i xs) (n - i) → take (n + 1) (set moved i c) ≡ insert (take len xs) i c
      after_insert c le within shifted = ap (λ u. take (n + 1) (set u i c)) shifted ∙ moved_up i n c le within ∙ ap (λ u. insert u i c) in_use

      pub after_remove : i < n → moved ≡ paste xs i (drop (i + 1) xs) (n - (i + 1)) → take (n - 1) moved ≡ remove (take len xs) i
      after_remove lt shifted = ap (take (n - 1)) shifted ∙ moved_down i n lt (omega arith) ∙ ap (λ u. remove u i) in_use

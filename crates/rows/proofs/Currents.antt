-- The row that is current at a place.
--   before_next, from_next  it is a row before the next begins, and one of the others from there on
--   rises_by                rows rise that each begin before the next
--   current_at              among rows that rise, it is the row in which the place lies
--   current_keeps           it keeps what every row keeps
-- Assumes nothing.
use Rattle.std.proofs.Common.{◌≡◌, ℕ, zero, suc, ◌+◌, ◌<◌, ◌≤◌, List, [], ◌∷◌, length, get_or, sym, refl, ◌∙◌, subst, inl, inr, add-one, arith}
use Rattle.std.proofs.lemmas.Bool.{cases_lt, cond-true, cond-false, lt-ltb, le-ltb}
use Rattle.rows.specs.Current.{current_from, current, Rises}

module _ {R : Type 0} (begins : R → ℕ) where
  pub before_next : (r s : R) (rest : List R) (x : ℕ) → x < begins s → current_from begins r (s ∷ rest) x ≡ r
  before_next r s rest x h = cond-true _ _ _ (lt-ltb x (begins s) h)

  pub from_next : (r s : R) (rest : List R) (x : ℕ) → begins s ≤ x →
      current_from begins r (s ∷ rest) x ≡ current_from begins s rest x
  from_next r s rest x h = cond-false _ _ _ (le-ltb x (begins s) h)

  rises_suc : (rows : List R) (d : R) →
      ((i : ℕ) → suc i < length rows → begins (get_or rows i d) < begins (get_or rows (suc i) d)) → Rises begins rows
  rises_suc [] d up = tt
  rises_suc (r ∷ []) d up = tt
  rises_suc (r ∷ s ∷ rest) d up = (up 0 (omega arith), rises_suc (s ∷ rest) d (λ i h. up (suc i) (omega arith)))

  pub rises_by : (rows : List R) (d : R) →
      ((i : ℕ) → i + 1 < length rows → begins (get_or rows i d) < begins (get_or rows (i + 1) d)) → Rises begins rows
  rises_by rows d up = rises_suc rows d (λ i h. rw add-one at (up i (omega arith)))

  -- no row of a table begins before the first
  pub first_least : (r : R) (rest : List R) (i : ℕ) (d : R) → Rises begins (r ∷ rest) → i < length (r ∷ rest) →
      begins r ≤ begins (get_or (r ∷ rest) i d)
  first_least r rest zero d up l = omega arith
  first_least r [] (suc i) d up l = absurd (omega arith)
  first_least r (s ∷ rest) (suc i) d up l = omega (arith, up.0, first_least s rest i d up.1 (omega arith))

  from_at : (r : R) (rest : List R) (i x : ℕ) (d : R) → Rises begins (r ∷ rest) → i < length (r ∷ rest) →
      begins (get_or (r ∷ rest) i d) ≤ x → (suc i < length (r ∷ rest) → x < begins (get_or (r ∷ rest) (suc i) d)) →
      current_from begins r rest x ≡ get_or (r ∷ rest) i d
  from_at r [] zero x d up l a b = refl
  from_at r (s ∷ rest) zero x d up l a b = before_next r s rest x (b (omega arith))
  from_at r [] (suc i) x d up l a b = absurd (omega arith)
  from_at r (s ∷ rest) (suc i) x d up l a b =
      let least = first_least s rest i d up.1 (omega arith) in
      from_next r s rest x (omega arith) ∙ from_at s rest i x d up.1 (omega arith) a (λ h. b (omega arith))

  pub current_at : (none : R) (rows : List R) (i x : ℕ) (d : R) → Rises begins rows → i < length rows →
      begins (get_or rows i d) ≤ x → (i + 1 < length rows → x < begins (get_or rows (i + 1) d)) →
      current begins none rows x ≡ get_or rows i d
  current_at none [] i x d up l a b = absurd (omega arith)
  current_at none (r ∷ rest) i x d up l a b = from_at r rest i x d up l a (λ h. rw add-one at (b (omega arith)))

  from_keeps : (keeps : R → Type 0) (r : R) (rest : List R) (x : ℕ) (d : R) →
      ((i : ℕ) → i < length (r ∷ rest) → keeps (get_or (r ∷ rest) i d)) → keeps (current_from begins r rest x)
  from_keeps keeps r [] x d all = all 0 (omega arith)
  from_keeps keeps r (s ∷ rest) x d all =
      elim (cases_lt x (begins s)) [
        | inl lt ↦ subst keeps (sym (before_next r s rest x lt)) (all 0 (omega arith))
        | inr ge ↦
            subst keeps (sym (from_next r s rest x ge)) (from_keeps keeps s rest x d (λ i h. all (suc i) (omega arith)))
      ]

  pub current_keeps : (keeps : R → Type 0) (none : R) (rows : List R) (x : ℕ) (d : R) → 0 < length rows →
      ((i : ℕ) → i < length rows → keeps (get_or rows i d)) → keeps (current begins none rows x)
  current_keeps keeps none [] x d some all = absurd (omega arith)
  current_keeps keeps none (r ∷ rest) x d some all = from_keeps keeps r rest x d all

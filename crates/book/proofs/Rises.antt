-- Positions never fall along cues that rise, so a halving finds where they reach one. Assumes nothing.
use Rattle.std.proofs.Common.{◌≡◌, ℕ, zero, suc, ◌<◌, ◌≤◌, true, false, ◌&&◌, eqb, ltb, List, [], ◌∷◌, length, get_or, le_of_suc-le-suc, not-suc-le-zero, arith, ltb-true, ltb-false, eqb-true, ⊎_elim}
use Rattle.std.proofs.lemmas.Bool.{or_cases, and_parts}
use Rattle.std.specs.List.Sorted.{IsNonDecreasingBy, IsPartitionPoint}
use Rattle.book.specs.declared.cue.Cue.{Cue}
use Rattle.book.specs.Cues.{earlier, AfterAll, Rising, Splits}

module _ {V : Type 0} where
  pub earlier_le : (a b : Cue V) → earlier a b ≡ true → a.position ≤ b.position
  earlier_le a b t = ⊎_elim
      (λ l. let lt : a.position < b.position = ltb-true _ _ l in omega arith)
      (λ e. let eq : a.position ≡ b.position = eqb-true _ _ (and_parts (eqb a.position b.position) (ltb a.number b.number) e).0 in omega arith)
      (or_cases (ltb a.position b.position) (eqb a.position b.position && ltb a.number b.number) t)

  after_at : (c : Cue V) (cs : List (Cue V)) → AfterAll c cs → (k : ℕ) (d : Cue V) → k < length cs → c.position ≤ (get_or cs k d).position
  after_at c [] all k d h = absurd (not-suc-le-zero h)
  after_at c (x ∷ xs) all zero d h = earlier_le c x all.0
  after_at c (x ∷ xs) all (suc k) d h = after_at c xs all.1 k d (le_of_suc-le-suc h)

  pub rising : (cs : List (Cue V)) → Rising cs → IsNonDecreasingBy (λ c. c.position) cs
  rising [] r j k d le h = absurd (not-suc-le-zero h)
  rising (x ∷ xs) r zero zero d le h = omega arith
  rising (x ∷ xs) r zero (suc k) d le h = after_at x xs r.0 k d (le_of_suc-le-suc h)
  rising (x ∷ xs) r (suc j) zero d le h = absurd (not-suc-le-zero le)
  rising (x ∷ xs) r (suc j) (suc k) d le h = rising xs r.1 j k d (le_of_suc-le-suc le) (le_of_suc-le-suc h)

  pub splits : (cs : List (Cue V)) (p r : ℕ) → r ≤ length cs → IsPartitionPoint (λ c. ltb c.position p ≡ true) (λ c. ltb c.position p ≡ false) cs r → Splits V cs p r
  splits cs p r inside parts = record {
    inside = inside;
    below = λ k d h. ltb-true _ _ (parts.0 k d (omega arith) h);
    above = λ k d from h. ltb-false _ _ (parts.1 k d from h);
  }

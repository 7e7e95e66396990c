-- What a search by `partition_point` says of rows that climb.
--   in_order           rows that climb begin in order: none begins before any row before it
--   begun_from_clause  from its clause `partitioned`, where each call tells whether the row has begun: so many have begun
-- Assumes nothing.
use Rattle.std.proofs.Common.{◌≡◌, ℕ, zero, suc, ◌<◌, ◌≤◌, Bool, true, false, leb, leb-true, leb-false, List, [], ◌∷◌, length, get_or, Bor, add-one, arith}
use denote.Param.Members.{Mut}
use Rattle.std.specs.Fn.{Called, ComputesKey}
use Rattle.std.specs.List.Sorted.{IsNonDecreasingBy, IsPartitionedBy, IsPartitionPoint}
use Rattle.std.proofs.lemmas.List.Sorted.{IsNonDecreasingBy-from_all_adjacent, IsPartitionedBy-leb, IsPartitionPoint-from_clause}
use Rattle.rows.specs.Begun.{Climbs, Begun}

module _ {R : Type 0} (begins : R → ℕ) where
  no_lower : (rows : List R) → Climbs begins rows → (k : ℕ) (d : R) → suc k < length rows →
      begins (get_or rows k d) ≤ begins (get_or rows (suc k) d)
  no_lower [] up k d l = absurd (omega arith)
  no_lower (r ∷ []) up k d l = absurd (omega arith)
  no_lower (r ∷ s ∷ rest) up zero d l = up.0
  no_lower (r ∷ s ∷ rest) up (suc k) d l = no_lower (s ∷ rest) up.1 k d (omega arith)

  pub in_order : (rows : List R) → Climbs begins rows → IsNonDecreasingBy begins rows
  in_order rows up =
      IsNonDecreasingBy-from_all_adjacent begins rows (λ k d l. rw add-one (no_lower rows up k d (omega arith)))

  pub begun_from_clause : (x : ℕ) → {F : Type 0} {g : Mut F (Bor R × Unit {0}) Bool} {f : F} (rows : List R) (r : ℕ) →
      r ≤ length rows →
      ((q : R → Bool) → ComputesKey g q f → IsPartitionedBy q rows → IsPartitionPoint (λ y. q y ≡ true) (λ y. q y ≡ false) rows r) →
      IsNonDecreasingBy begins rows →
      ((a : Bor R × Unit {0}) (b : Bool) (f' : F) → Called g f a b f' → (b ≡ leb (begins a.0.now) x) × (f' ≡ f)) →
      Begun begins rows x r
  begun_from_clause x {g = g} {f = f} rows r inside clause up tells =
      let point = IsPartitionPoint-from_clause (λ y. leb (begins y) x) {g = g} {f = f} rows r clause (IsPartitionedBy-leb begins rows x up) tells in
      record {
        inside = inside;
        last = λ i d e. leb-true _ _ (point.0 i d (omega arith) (omega arith));
        next = λ d h. leb-false _ _ (point.1 r d (omega arith) h);
      }

-- Rows that are tried each with the next.
--   joined_at     where the rows pass, each passes with the next
--   chain_tested  the answer to trying each with the next, and the last by itself, tells whether the rows pass
-- Assumes nothing.
use Rattle.std.proofs.Common.{◌≡◌, ℕ, zero, suc, ◌<◌, Bool, true, false, ◌&&◌, List, [], ◌∷◌, length, get_or, refl, sym, ap, ◌∙◌, add-one, arith}
use Rattle.std.proofs.lemmas.Bool.{and_left, and_right, and_parts}
use Rattle.std.specs.List.{IsAllAdjacentAnswer}
use Rattle.rows.specs.Chains.{chained}

module _ {R : Type 0} (joined : R → R → Bool) (closes : R → Bool) where
  pub joined_at : (r : R) (rest : List R) (i : ℕ) (d : R) → chained joined closes r rest ≡ true →
      suc i < length (r ∷ rest) → joined (get_or (r ∷ rest) i d) (get_or (r ∷ rest) (suc i) d) ≡ true
  joined_at r [] i d k l = absurd (omega arith)
  joined_at r (s ∷ rest) zero d k l = (and_parts (joined r s) (chained joined closes s rest) k).0
  joined_at r (s ∷ rest) (suc i) d k l =
      joined_at s rest i d (and_parts (joined r s) (chained joined closes s rest) k).1 (omega arith)

  chain_whole : (r : R) (rest : List R) (d : R) →
      ((k : ℕ) → suc k < length (r ∷ rest) → joined (get_or (r ∷ rest) k d) (get_or (r ∷ rest) (suc k) d) ≡ true) →
      chained joined closes r rest ≡ closes (get_or (r ∷ rest) (length rest) d)
  chain_whole r [] d all = refl
  chain_whole r (s ∷ rest) d all =
      ap (λ x. x && chained joined closes s rest) (all 0 (omega arith))
      ∙ chain_whole s rest d (λ k l. all (suc k) (omega arith))

  chain_broken : (r : R) (rest : List R) (k : ℕ) (d : R) → suc k < length (r ∷ rest) →
      joined (get_or (r ∷ rest) k d) (get_or (r ∷ rest) (suc k) d) ≡ false → chained joined closes r rest ≡ false
  chain_broken r [] k d l out = absurd (omega arith)
  chain_broken r (s ∷ rest) zero d l out = and_left _ _ out
  chain_broken r (s ∷ rest) (suc k) d l out =
      and_right (joined r s) (chained joined closes s rest) (chain_broken s rest k d (omega arith) out)

  pub chain_tested : (r : R) (rest : List R) (b : Bool) → IsAllAdjacentAnswer (λ x y t. t ≡ joined x y) (r ∷ rest) b →
      chained joined closes r rest ≡ (b && closes (get_or (r ∷ rest) (length rest) r))
  chain_tested r rest true h =
      chain_whole r rest r (λ k l. let e = sym (h k r (omega arith)) in rw add-one at e)
  chain_tested r rest false h = let e = sym (h.2 r) in chain_broken r rest h.0 r (omega (arith, h.1)) (rw add-one at e)

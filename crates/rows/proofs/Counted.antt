-- Among rows that climb, those that have begun are the first ones, so that halving counts them. Assumes nothing.
use Rattle.std.proofs.Common.{◌≡◌, ℕ, zero, suc, ◌<◌, ◌≤◌, Bool, leb, List, [], ◌∷◌, length, filter, sym, ap, ◌∙◌, arith}
use Rattle.std.proofs.lemmas.Bool.{cond-true, cond-false, le-leb, lt-leb}
use Rattle.rows.specs.Begun.{Climbs, begun, Begun}
use Rattle.rows.proofs.Cutting.{in_order}

module _ {R : Type 0} (begins : R → ℕ) (x : ℕ) where
  abbrev test : R → Bool
  test r = leb (begins r) x

  tail_climbs : (r : R) (rest : List R) → Climbs begins (r ∷ rest) → Climbs begins rest
  tail_climbs r [] up = tt
  tail_climbs r (s ∷ rest) up = up.1

  none_begun : (r : R) (rest : List R) → Climbs begins (r ∷ rest) → x < begins r → begun begins (r ∷ rest) x ≡ 0
  none_begun r [] up h = ap length (cond-false (test r) (r ∷ []) [] (lt-leb _ _ h))
  none_begun r (s ∷ rest) up h =
      ap length (cond-false (test r) (r ∷ filter test (s ∷ rest)) (filter test (s ∷ rest)) (lt-leb _ _ h))
      ∙ none_begun s rest up.1 (omega (arith, up.0))

  pub counted : (rows : List R) (r : ℕ) → Begun begins rows x r → Climbs begins rows → r ≡ begun begins rows x
  counted [] r b up = omega (arith, b.inside)
  counted (a ∷ rest) zero b up = sym (none_begun a rest up (b.next a (omega arith)))
  counted (a ∷ rest) (suc k) b up =
      let inside : suc k ≤ length (a ∷ rest) = b.inside in
      let at : begins a ≤ x = omega (arith, in_order begins (a ∷ rest) up 0 k a (omega arith) (omega arith), b.last k a (omega arith)) in
      let more : Begun begins rest x k = record {
        inside = omega arith;
        last = λ i d e. b.last (suc i) d (omega arith);
        next = λ d h. b.next d (omega arith);
      } in
      let one : begun begins (a ∷ rest) x ≡ suc (begun begins rest x)
      = ap length (cond-true (test a) (a ∷ filter test rest) (filter test rest) (le-leb _ _ at)) in
      omega (arith, one, counted rest k more (tail_climbs a rest up))

-- A book that rises by position and number rises as its cues are written. Assumes nothing.
use Rattle.std.proofs.Common.{◌≡◌, ℕ, List, [], ◌∷◌, sym, ap, ◌∙◌, inl, inr}
use Rattle.std.specs.List.{AllByRecursion}
use Rattle.forms.specs.Pairing.{Pairing, InOrder}
use Rattle.book.specs.declared.cue.Cue.{Cue}
use Rattle.book.specs.Cues.{AfterAll, Rising}
use Rattle.history.specs.World.{World}
use Rattle.history.proofs.Kept.{Good}
use Rattle.history.proofs.Entries.{Sooner, sooner}
use Rattle.deck.specs.Order.{WrittenBefore, InWrittenOrder}

module _ {V W : Type 0} (w : World V W) (count : ℕ) (value : ℕ → V) (parts : V → List ℕ) (paired : Pairing V count w.number value) (ordered : InOrder V w.number parts) where
  before : (x y : Cue V) → Good V W w x → Good V W w y → Sooner x y → WrittenBefore parts x y
  before x y g h (inl lower) = inl (ordered.earlier x.at y.at x.position y.position g.valid h.valid lower)
  before x y g h (inr both) =
      let same : x.at ≡ y.at = sym (paired.forth x.at x.position g.valid) ∙ ap value both.0 ∙ paired.forth y.at y.position h.valid in
      inr (same, both.1)

  all_after : (x : Cue V) (xs : List (Cue V)) → Good V W w x → AllByRecursion (Good V W w) xs → AfterAll x xs → AllByRecursion (WrittenBefore parts x) xs
  all_after x [] g all after = tt
  all_after x (y ∷ ys) g all after = (before x y g all.0 (sooner x y after.0), all_after x ys g all.1 after.1)

  pub written_order : (xs : List (Cue V)) → AllByRecursion (Good V W w) xs → Rising xs → InWrittenOrder parts xs
  written_order [] all rises = tt
  written_order (x ∷ xs) all rises = (all_after x xs all.0 all.1 rises.0, written_order xs all.1 rises.1)

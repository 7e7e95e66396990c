-- An add and a strike by what the book answers. Assumes nothing.
use Rattle.std.proofs.Common.{◌≡◌, ℕ, ◌<◌, Bool, true, false, ltb, length, is_ok, Some, Ok, Err, Result, unwrap_or, if◌then◌else◌, sym, refl, ap, ◌∙◌, subst, arith, ltb-true, ltb-false}
use Rattle.refusal.specs.declared.Refusal.{Refusal}
use Rattle.refusal.specs.declared.Refusal.TheVariants.{NoFreePlace, CueNotIn}
use Rattle.book.specs.Cues.{entered, has, struck}
use Rattle.book.specs.Held.{cues, room, lines}
use Rattle.book.proofs.Found.{struck_none}
use Rattle.history.specs.declared.call.Call.TheVariants.{Add, Strike}
use Rattle.history.specs.World.{World}
use Rattle.history.specs.Accepted.{accepted, out_of_range}
use Rattle.history.specs.Contents.{cue_of}
use Rattle.history.proofs.Keeping.{kept_all}
use Rattle.deck.specs.declared.state.Deck.{Deck}
use Rattle.deck.specs.Runs.{Keeps, Taken, done}
use Rattle.deck.proofs.Checks.{add_full, add_passes, strike_out, strike_passes}
use Rattle.deck.proofs.Steps.{refused_by, taken}

module _ {C F L V W : Type 0} (w : World V W) (d e : Deck C F L V W) (n : ℕ) (r : Result (Unit {0}) Refusal) (range : out_of_range n ≡ false)
    (heads : e.head ≡ d.head) (logs : lines e.log ≡ lines d.log) (keeps : Keeps d e) where
  pub added : (v : V) (p : ℕ) → w.number v ≡ Some p → p < w.cues.len → w.places ≡ room d.book → has n (cues d.book) ≡ false
      → r ≡ (if ltb (length (cues d.book)) (room d.book) then Ok tt else Err NoFreePlace)
      → cues e.book ≡ (if is_ok r then entered (record { position = p; number = n; at = v }) (cues d.book) else cues d.book)
      → Taken (Unit {0}) w d e (Add n v) done r
  added v p is inside places lacks told after = by_test _ refl told
    where
      by_test : (b : Bool) → ltb (length (cues d.book)) (room d.book) ≡ b → r ≡ (if b then Ok tt else Err NoFreePlace) → Taken (Unit {0}) w d e (Add n v) done r
      by_test true t says =
          let cue : record { position = p; number = n; at = v } ≡ cue_of w n v = ap (λ o. record { position = unwrap_or o 0; number = n; at = v }) (sym is) in
          let put = after ∙ ap (λ x. if is_ok x then entered (record { position = p; number = n; at = v }) (cues d.book) else cues d.book) says in
          subst (Taken (Unit {0}) w d e (Add n v) done) (sym says)
          (taken w d (Add n v) done e 0
          (λ calls had.
          let free = ltb-true _ _ t in
          record {
            passes = add_passes w (accepted w calls) (kept_all w calls) n v p is range (ap (has n) (sym had.cues_are) ∙ lacks) inside (omega (arith, ap length had.cues_are));
            count = refl;
            heads = heads ∙ had.head_is;
            books = put ∙ ap (λ x. entered x (cues d.book)) cue ∙ ap (entered (cue_of w n v)) had.cues_are;
            logs = logs ∙ had.lines_are;
          })
          keeps)
      by_test false t says =
          let put = after ∙ ap (λ x. if is_ok x then entered (record { position = p; number = n; at = v }) (cues d.book) else cues d.book) says in
          subst (Taken (Unit {0}) w d e (Add n v) done) (sym says)
          (refused_by w d (Add n v) done e NoFreePlace heads put logs keeps
          (λ calls had.
          let full = ltb-false _ _ t in
          add_full w (accepted w calls) (kept_all w calls) n v p is range (ap (has n) (sym had.cues_are) ∙ lacks) inside (omega (arith, ap length had.cues_are))))

  pub struck_taken : r ≡ (if has n (cues d.book) then Ok tt else Err CueNotIn) → cues e.book ≡ struck n (cues d.book) → Taken (Unit {0}) w d e (Strike n) done r
  struck_taken told after = by_test _ refl told
    where
      by_test : (b : Bool) → has n (cues d.book) ≡ b → r ≡ (if b then Ok tt else Err CueNotIn) → Taken (Unit {0}) w d e (Strike n) done r
      by_test true held says =
          subst (Taken (Unit {0}) w d e (Strike n) done) (sym says)
          (taken w d (Strike n) done e 0
          (λ calls had.
          record {
            passes = strike_passes w (accepted w calls) (kept_all w calls) n range (ap (has n) (sym had.cues_are) ∙ held);
            count = refl;
            heads = heads ∙ had.head_is;
            books = after ∙ ap (struck n) had.cues_are;
            logs = logs ∙ had.lines_are;
          })
          keeps)
      by_test false none says =
          subst (Taken (Unit {0}) w d e (Strike n) done) (sym says)
          (refused_by w d (Strike n) done e CueNotIn heads (after ∙ struck_none n (cues d.book) none) logs keeps
          (λ calls had. strike_out w (accepted w calls) (kept_all w calls) n range (ap (has n) (sym had.cues_are) ∙ none)))

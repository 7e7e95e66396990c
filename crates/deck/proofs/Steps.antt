-- What a deck owes at a refusal, and at an accepted call. Assumes nothing.
use Rattle.std.proofs.Common.{◌≡◌, ℕ, List, ◌∷◌, Some, None, Ok, Err, Result, sym, refl, ap, ◌∙◌, subst}
use Rattle.refusal.specs.declared.Refusal.{Refusal}
use Rattle.book.specs.Held.{cues, lines}
use Rattle.history.specs.declared.call.Call.{Call}
use Rattle.history.specs.World.{World}
use Rattle.history.specs.Accepted.{head, refusal, with_call, accepted}
use Rattle.history.specs.Contents.{book_of, log_of}
use Rattle.history.specs.Laws.{answered, lines_by}
use Rattle.deck.specs.declared.state.Deck.{Deck}
use Rattle.deck.specs.Runs.{HasHad, Keeps, Taken}

module _ {C F L V W R : Type 0} (w : World V W) (d : Deck C F L V W) (call : Call V) (told : Result ℕ Refusal → Result R Refusal) where
  pub keeps_all : Keeps d d
  keeps_all = record { piles = refl; forms = refl; frames = refl; places = refl; lines = refl }

  -- a refusal may move memory, and changes nothing that can be read
  pub refused_by : (e : Deck C F L V W) (why : Refusal) → e.head ≡ d.head → cues e.book ≡ cues d.book → lines e.log ≡ lines d.log → Keeps d e
      → ((calls : List (Call V)) → HasHad w calls d → refusal w (accepted w calls) call ≡ Some why) → Taken R w d e call told (told (Err why))
  refused_by e why heads books logs keeps checks = record {
    says = λ calls had. ap (λ o. told (answered o (lines_by w (accepted w calls) call))) (sym (checks calls had));
    leaves = λ calls had.
        let stays : accepted w calls ≡ accepted w (call ∷ calls) = ap (λ o. with_call w o call (accepted w calls)) (sym (checks calls had)) in
        record {
          head_is = heads ∙ had.head_is ∙ ap head stays;
          cues_are = books ∙ had.cues_are ∙ ap (book_of w) stays;
          lines_are = logs ∙ had.lines_are ∙ ap (log_of w) stays;
        };
    keeps = keeps;
  }

  pub refused : (why : Refusal) → ((calls : List (Call V)) → HasHad w calls d → refusal w (accepted w calls) call ≡ Some why) → Taken R w d d call told (told (Err why))
  refused why checks = refused_by d why refl refl refl keeps_all checks

  -- the same of what a `?` answers
  pub refused_as : (why : Refusal) (r : Result R Refusal) → r ≡ told (Err why) → ((calls : List (Call V)) → HasHad w calls d → refusal w (accepted w calls) call ≡ Some why)
      → Taken R w d d call told r
  refused_as why r is checks = subst (Taken R w d d call told) (sym is) (refused why checks)

  -- what is known of an accepted call and of the deck that it leaves, given the calls before it
  pub record Accepts (e : Deck C F L V W) (k : ℕ) (a : List (Call V)) : Type 0 where
    pub passes : refusal w a call ≡ None
    pub count : lines_by w a call ≡ k
    pub heads : e.head ≡ head (call ∷ a)
    pub books : cues e.book ≡ book_of w (call ∷ a)
    pub logs : lines e.log ≡ log_of w (call ∷ a)

  pub taken : (e : Deck C F L V W) (k : ℕ) → ((calls : List (Call V)) → HasHad w calls d → Accepts e k (accepted w calls)) → Keeps d e → Taken R w d e call told (told (Ok k))
  taken e k known same = record {
    says = λ calls had.
        let ok = known calls had in
        ap (λ n. told (Ok n)) (sym ok.count) ∙ ap (λ o. told (answered o (lines_by w (accepted w calls) call))) (sym ok.passes);
    leaves = λ calls had.
        let ok = known calls had in
        let more : call ∷ accepted w calls ≡ accepted w (call ∷ calls) = ap (λ o. with_call w o call (accepted w calls)) (sym ok.passes) in
        record {
          head_is = ok.heads ∙ ap head more;
          cues_are = ok.books ∙ ap (book_of w) more;
          lines_are = ok.logs ∙ ap (log_of w) more;
        };
    keeps = same;
  }

-- A play by what two halvings of the book give it. Assumes nothing.
use Rattle.std.proofs.Common.{◌≡◌, ℕ, ◌+◌, ◌-◌, ◌<◌, ◌≤◌, Bool, true, false, ltb, List, [], ◌∷◌, ◌++◌, map, length, get_or, Some, None, filter, Result, sym, refl, ap, ◌∙◌, subst, arith, le-ltb, lt-ltb}
use Rattle.std.proofs.ByRecursion.{All-get_or}
use Rattle.std.proofs.lemmas.List.Edits.{length-between}
use Rattle.std.specs.List.{between, AllByRecursion}
use Rattle.refusal.specs.declared.Refusal.{Refusal}
use Rattle.refusal.specs.declared.Refusal.TheVariants.{HeadPastEnd, NoFreeLines}
use Rattle.timebase.specs.Meaning.{Sound, Least}
use Rattle.book.specs.declared.cue.Cue.{Cue}
use Rattle.book.specs.Cues.{Rising, Splits}
use Rattle.book.specs.Held.{cues, lines}
use Rattle.history.specs.declared.call.Call.{Call}
use Rattle.history.specs.declared.call.Call.TheVariants.{Play}
use Rattle.history.specs.World.{World}
use Rattle.history.specs.Accepted.{head, first, end, crossed, added, refusal, accepted}
use Rattle.history.specs.Contents.{book_of, log_of, in_play, line_of}
use Rattle.history.proofs.Kept.{Good, Kept}
use Rattle.history.proofs.Keeping.{kept_all}
use Rattle.history.proofs.Standing.{crossed_is}
use Rattle.deck.specs.declared.state.Deck.{Deck}
use Rattle.deck.specs.Runs.{HasHad, Logs}
use Rattle.deck.proofs.Ranges.{ordered, crossed_row}
use Rattle.deck.proofs.Steps.{Accepts}

module _ {V W : Type 0} (w : World V W) (a : List (Call V)) (n : ℕ) where
  checks : (past full : Bool) → ltb end (head a + n) ≡ past → ltb (w.lines - added w a) (crossed w a n) ≡ full
      → refusal w a (Play n) ≡ first ((past, HeadPastEnd) ∷ (full, NoFreeLines) ∷ [])
  checks past full e1 e2 =
      ap (λ b. first ((b, HeadPastEnd) ∷ (ltb (w.lines - added w a) (crossed w a n), NoFreeLines) ∷ [])) e1
      ∙ ap (λ b. first ((past, HeadPastEnd) ∷ (b, NoFreeLines) ∷ [])) e2

  pub play_past : end < head a + n → refusal w a (Play n) ≡ Some HeadPastEnd
  play_past h = checks true (ltb (w.lines - added w a) (crossed w a n)) (lt-ltb end (head a + n) h) refl

  pub play_full : head a + n ≤ end → w.lines - added w a < crossed w a n → refusal w a (Play n) ≡ Some NoFreeLines
  play_full h l = checks false true (le-ltb end (head a + n) h) (lt-ltb (w.lines - added w a) (crossed w a n) l)

  pub play_passes : head a + n ≤ end → crossed w a n ≤ w.lines - added w a → refusal w a (Play n) ≡ None
  play_passes h l = checks false false (le-ltb end (head a + n) h) (le-ltb (w.lines - added w a) (crossed w a n) l)

-- a deck that has had some calls, and where its book is split by the positions of a block's two ends
module _ {C F L V W : Type 0} (w : World V W) (sound : Sound w.cues) (d : Deck C F L V W) (n lo hi f u : ℕ)
    (low : Least w.cues d.head lo) (high : Least w.cues (d.head + n) hi)
    (from : Rising (cues d.book) → Splits V (cues d.book) lo f) (to : Rising (cues d.book) → Splits V (cues d.book) hi u)
    (calls : List (Call V)) (had : HasHad w calls d) where
  abbrev past : List (Call V)
  past = accepted w calls

  kept : Kept V W w past
  kept = kept_all w calls

  rises : Rising (cues d.book)
  rises = subst Rising (sym had.cues_are) kept.rises

  good : AllByRecursion (Good V W w) (cues d.book)
  good = subst (AllByRecursion (Good V W w)) (sym had.cues_are) kept.good

  pub row : filter (in_play w (head past) n) (book_of w past) ≡ between f u (cues d.book)
  row =
      ap (λ h. filter (in_play w h n) (book_of w past)) (sym had.head_is)
      ∙ ap (filter (in_play w d.head n)) (sym had.cues_are)
      ∙ crossed_row w sound (cues d.book) good d.head n lo hi f u low high (from rises) (to rises)

  pub crosses : crossed w past n ≡ u - f
  crosses = crossed_is w past kept n ∙ ap length row ∙ length-between (cues d.book) f u (to rises).inside

  pub used : length (lines d.log) ≡ added w past
  used = ap length had.lines_are ∙ kept.long

  pub row_good : (k : ℕ) (x : Cue V) → f ≤ k → k < u → (get_or (cues d.book) k x).position < w.cues.len
  row_good k x l m = let i = (to rises).inside in (All-get_or (Good V W w) (cues d.book) k x (omega arith) good).inside

  pub refuses_full : d.head + n ≤ end → w.lines - length (lines d.log) < u - f → refusal w past (Play n) ≡ Some NoFreeLines
  refuses_full h l =
      play_full w past n (subst (λ x. x + n ≤ end) had.head_is h)
      (subst (λ k. w.lines - added w past < k) (sym crosses) (subst (λ k. w.lines - k < u - f) used l))

  module _ {R : Type 0} (told : Result ℕ Refusal → Result R Refusal) (e : Deck C F L V W) (logged : Logs w f u d e) (until : ℕ) (is : until ≡ d.head + n)
      (inside : until ≤ end) (free : u - f ≤ w.lines - length (lines d.log)) (k : ℕ) (counts : k ≡ u - f) where
    appended : lines e.log ≡ lines d.log ++ map (line_of w) (between f u (cues d.book))
    appended =
        let o = ordered w sound (cues d.book) good d.head n lo hi f u low high (from rises) (to rises) in
        let had-room : length (lines d.log) ≤ w.lines = subst (λ k. k ≤ w.lines) (sym used) kept.fits in
        logged.rows o (to rises).inside row_good (omega arith)

    pub accepts : Accepts w d (Play n) told (record { pile = e.pile; form = e.form; frames = e.frames; book = e.book; log = e.log; head = until }) k past
    accepts = record {
      passes = play_passes w past n (subst (λ x. x ≤ end) (is ∙ ap (λ h. h + n) had.head_is) inside)
          (subst (λ x. x ≤ w.lines - added w past) (sym crosses) (subst (λ x. u - f ≤ w.lines - x) used free));
      count = crosses ∙ sym counts;
      heads = is ∙ ap (λ h. h + n) had.head_is;
      books = ap cues logged.books ∙ had.cues_are;
      logs = appended ∙ ap (λ ls. ls ++ map (line_of w) (between f u (cues d.book))) had.lines_are ∙ ap (λ ys. log_of w past ++ map (line_of w) ys) (sym row);
    }

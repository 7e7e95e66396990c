-- A deck by the calls that it has had since power-up.
--   world_of  what a deck's calls are read with: its piles, its form and its memory
--   HasHad    the deck is as these calls leave it
--   Keeps     piles, form and memory stay as they were
--   Appends   lines for cues put to a log
--   Logs      a row of the book put to the log
--   Taken     a call takes a deck that has had some calls to one that has had this call too, and answers by them
-- Assumes nothing.
use Rattle.std.specs.Prelude.{All, ◌≡◌, ℕ, ◌+◌, ◌-◌, ◌<◌, ◌≤◌, List, ◌∷◌, ◌++◌, map, length, Ok, Err, Option, Result, slice_index_or}
use Rattle.std.specs.List.{between}
use Rattle.book.specs.declared.cue.Cue.{Cue}
use Rattle.book.specs.declared.pages.Log.{Log}
use Rattle.refusal.specs.declared.Refusal.{Refusal}
use Rattle.timebase.specs.Meaning.{Meaning}
use Rattle.written.specs.Current.{current_at}
use Rattle.book.specs.Held.{cues, room, lines, log_room}
use Rattle.history.specs.declared.call.Call.{Call}
use Rattle.history.specs.World.{World}
use Rattle.history.specs.Contents.{line_of, After}
use Rattle.history.specs.Laws.{answer}
use Rattle.deck.specs.declared.state.Deck.{Deck}

module _ {C F L V W : Type 0} (pile : C → Meaning) (number : F → V → Option ℕ) (frames : L → Meaning) (form : L → ℕ → Option W) where
  abbrev pub world_of : Deck C F L V W → World V W
  world_of d = record {
    cues = pile d.pile;
    number = number d.form;
    label = current_at (frames d.frames) (form d.frames);
    places = room d.book;
    lines = log_room d.log;
  }

-- lines for cues put to a log, if each is below the pile's end and the log has room for all
abbrev pub Appends : {V W : Type 0} → World V W → List (Cue V) → Log W → Log W → Type 0
Appends w cs before after =
    All (λ x. x.position < w.cues.len) cs → length (lines before) + length cs ≤ log_room before → lines after ≡ lines before ++ map (line_of w) cs

module _ {C F L V W : Type 0} where
  abbrev pub HasHad : World V W → List (Call V) → Deck C F L V W → Type 0
  HasHad w calls d = After V W w calls d.head (cues d.book) (lines d.log)

  pub record Keeps (before after : Deck C F L V W) : Type 0 where
    pub piles : after.pile ≡ before.pile
    pub forms : after.form ≡ before.form
    pub frames : after.frames ≡ before.frames
    pub places : room after.book ≡ room before.book
    pub lines : log_room after.log ≡ log_room before.log

  -- a call took one deck to another and answered r, which is read from the calls before it
  pub record Taken (R : Type 0) (w : World V W) (before after : Deck C F L V W) (call : Call V) (told : Result ℕ Refusal → Result R Refusal) (r : Result R Refusal) : Type 0 where
    pub says : (calls : List (Call V)) → HasHad w calls before → r ≡ told (answer w calls call)
    pub leaves : (calls : List (Call V)) → HasHad w calls before → HasHad w (call ∷ calls) after
    pub keeps : Keeps before after

  -- lines for the cues at the places of the book from `from` to below `to`, put to the log, and nothing else changed
  pub record Logs (w : World V W) (from to : ℕ) (before after : Deck C F L V W) : Type 0 where
    pub books : after.book ≡ before.book
    pub heads : after.head ≡ before.head
    pub keeps : Keeps before after
    pub rows : from ≤ to → to ≤ length (cues before.book)
        → ((k : ℕ) (d : Cue V) → from ≤ k → k < to → (slice_index_or (cues before.book) k d).position < w.cues.len)
        → length (lines before.log) + (to - from) ≤ w.lines
        → lines after.log ≡ lines before.log ++ map (line_of w) (between from to (cues before.book))

-- an answer that has no lines to tell
abbrev pub done : Result ℕ Refusal → Result (Unit {0}) Refusal
done (Ok n) = Ok tt
done (Err e) = Err e

abbrev pub lines_added : Result ℕ Refusal → Result ℕ Refusal
lines_added r = r

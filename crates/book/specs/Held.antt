-- What a book and a log hold of the memory that they were lent, and how much they may.
--   in_use    the places of lent memory that are in use, from the first
--   places    how many places of lent memory may be in use
--   cues      the cues of a book, in their order
--   room      how many cues a book may hold, at most 4,096
--   lines     the lines of a log, the oldest first
--   log_room  how many lines a log may hold, at most 65,535
-- Assumes nothing.
use Rattle.std.specs.Prelude.{ℕ, min, List, length, take}
use Rattle.book.specs.declared.cue.Cue.{Cue}
use Rattle.book.specs.declared.cue.Line.{Line}
use Rattle.book.specs.declared.lent.Lent.{Lent}
use Rattle.book.specs.declared.pages.Book.{Book}
use Rattle.book.specs.declared.pages.Log.{Log}

module _ {X : Type 0} {most : ℕ} where
  abbrev pub in_use : Lent X most → List X
  in_use l = take l.len l.memory.now

  abbrev pub places : Lent X most → ℕ
  places l = min (length l.memory.now) most

abbrev pub cues : {V : Type 0} → Book V → List (Cue V)
cues b = in_use b.cues

abbrev pub room : {V : Type 0} → Book V → ℕ
room b = places b.cues

abbrev pub lines : {L : Type 0} → Log L → List (Line L)
lines b = in_use b.lines

abbrev pub log_room : {L : Type 0} → Log L → ℕ
log_room b = places b.lines

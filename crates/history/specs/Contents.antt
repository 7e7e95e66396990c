-- What book and log hold after accepted calls, and the deck that has had a list of calls.
--   book_of   the cues, by written form and then by number
--   log_of    the lines: each play adds one for each cue that it crosses, in the book's order
--   After     a deck's head, cues and lines are those of a list of calls
-- Assumes nothing.
use Rattle.std.specs.Prelude.{◌≡◌, ℕ, Bool, List, [], ◌∷◌, ◌++◌, map, filter}
use Rattle.std.specs.Option.{unwrap_or}
use Rattle.book.specs.declared.cue.Cue.{Cue}
use Rattle.book.specs.declared.cue.Line.{Line}
use Rattle.book.specs.Cues.{entered, struck}
use Rattle.history.specs.declared.call.Call.{Call}
use Rattle.history.specs.declared.call.Call.TheVariants.{Add, Strike, Seek, Play}
use Rattle.history.specs.World.{World}
use Rattle.history.specs.Accepted.{head, in_block, accepted}

module _ {V L : Type 0} (w : World V L) where
  abbrev pub cue_of : ℕ → V → Cue V
  cue_of n v = record { position = unwrap_or (w.number v) 0; number = n; at = v }

  abbrev pub book_of : List (Call V) → List (Cue V)
  book_of [] = []
  book_of (Add n v ∷ a) = entered (cue_of n v) (book_of a)
  book_of (Strike n ∷ a) = struck n (book_of a)
  book_of (Seek h ∷ a) = book_of a
  book_of (Play n ∷ a) = book_of a

  abbrev pub sample : Cue V → ℕ
  sample x = w.cues.rule x.position

  abbrev pub line_of : Cue V → Line L
  line_of x = record { cue = x.number; sample = sample x; label = w.label (sample x) }

  abbrev pub in_play : ℕ → ℕ → Cue V → Bool
  in_play h n x = in_block h n (sample x)

  abbrev pub log_of : List (Call V) → List (Line L)
  log_of [] = []
  log_of (Add n v ∷ a) = log_of a
  log_of (Strike n ∷ a) = log_of a
  log_of (Seek h ∷ a) = log_of a
  log_of (Play n ∷ a) = log_of a ++ map line_of (filter (in_play (head a) n) (book_of a))

pub record After (V L : Type 0) (w : World V L) (calls : List (Call V)) (at : ℕ) (cs : List (Cue V)) (ls : List (Line L)) : Type 0 where
  pub head_is : at ≡ head (accepted w calls)
  pub cues_are : cs ≡ book_of w (accepted w calls)
  pub lines_are : ls ≡ log_of w (accepted w calls)

-- What holds after any accepted calls. Assumes nothing.
use Rattle.std.proofs.Common.{◌≡◌, ℕ, ◌<◌, ◌≤◌, List, length, Some, filter}
use Rattle.std.specs.Option.{option_map, option_to_list}
use Rattle.std.specs.List.{AllByRecursion}
use Rattle.book.specs.declared.cue.Cue.{Cue}
use Rattle.book.specs.Cues.{numbered, Rising}
use Rattle.history.specs.declared.call.Call.{Call}
use Rattle.history.specs.World.{World}
use Rattle.history.specs.Accepted.{head, stands, numbers, end, added}
use Rattle.history.specs.Contents.{cue_of, book_of, log_of}

-- a cue that an add may have put in
pub record Good (V L : Type 0) (w : World V L) (x : Cue V) : Type 0 where
  pub few : x.number < numbers
  pub valid : w.number x.at ≡ Some x.position
  pub inside : x.position < w.cues.len

pub record Kept (V L : Type 0) (w : World V L) (a : List (Call V)) : Type 0 where
  pub rises : Rising (book_of w a)
  -- of each number the book has the one cue that stands, or none
  pub only : (c : ℕ) → filter (numbered c) (book_of w a) ≡ option_to_list (option_map (cue_of w c) (stands c a))
  pub good : AllByRecursion (Good V L w) (book_of w a)
  pub ends : head a ≤ end
  pub fits : added w a ≤ w.lines
  pub long : length (log_of w a) ≡ added w a

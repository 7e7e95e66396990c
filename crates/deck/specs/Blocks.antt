-- The position of a cue that is put in; a block by its end, the lines of its cues, and where they stand in the book.
--   position_of the position of a written form by its number: refused 18 where it has none, 17 where it is not below the length
--   block_end   the head after a block, if it is not past the sample after the last
--   line_for    the line of a cue, if the cue is below the pile's length
--   Row         the places of the book from the first cue at or after a sample to below the first at or after another
-- Assumes nothing.
use Rattle.std.specs.Prelude.{ℕ, ◌+◌, cond, List, Some, None, Ok, Err, Option, Result, nat_le, nat_lt}
use Rattle.refusal.specs.declared.Refusal.{Refusal}
use Rattle.refusal.specs.declared.Refusal.TheVariants.{NotWritten, NoPosition}
use Rattle.timebase.specs.Meaning.{Meaning, Least}
use Rattle.book.specs.declared.cue.Cue.{Cue}
use Rattle.book.specs.declared.cue.Line.{Line}
use Rattle.book.specs.Cues.{Rising, Splits}
use Rattle.history.specs.World.{World}
use Rattle.history.specs.Accepted.{end}
use Rattle.history.specs.Contents.{line_of}

abbrev pub position_of : Option ℕ → ℕ → Result ℕ Refusal
position_of None len = Err NotWritten
position_of (Some p) len = cond (nat_lt p len) (Ok p) (Err NoPosition)

abbrev pub block_end : ℕ → ℕ → Option ℕ
block_end head n = cond (nat_le (head + n) end) (Some (head + n)) None

abbrev pub line_for : {V W : Type 0} → World V W → Cue V → Option (Line W)
line_for w x = cond (nat_lt x.position w.cues.len) (Some (line_of w x)) None

pub record Row (V : Type 0) (m : Meaning) (cs : List (Cue V)) (head until from to : ℕ) : Type 0 where
  pub low : ℕ
  pub high : ℕ
  pub first : Least m head low
  pub last : Least m until high
  pub begins : Rising cs → Splits V cs low from
  pub ends : Rising cs → Splits V cs high to

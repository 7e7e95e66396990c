-- The cue on a sample, by the calls that a deck has had.
--   Found   an answer names a number that stands on the sample; or it is none, and no number stands there
-- Assumes nothing.
use Rattle.std.specs.Prelude.{◌≡◌, ℕ, List, Some, None, Option, ◌≢◌}
use Rattle.history.specs.World.{World}
use Rattle.history.specs.declared.call.Call.{Call}
use Rattle.history.specs.Accepted.{stands_on}

abbrev pub Found : {V W : Type 0} → World V W → List (Call V) → ℕ → Option ℕ → Type 0
Found w a s (Some n) = stands_on w n a ≡ Some s
Found w a s None = (n : ℕ) → stands_on w n a ≢ Some s

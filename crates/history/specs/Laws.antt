-- The laws of a deck over whole lists of calls, on any pile, forms and memory sizes.
--   lines_with   how many lines have a cue's number and a sample
--   answer       what a call answers: the lines that it added, or why it is refused
--   played       a list of calls with plays of these counts after it, the first count first
-- Assumes nothing.
use Rattle.std.specs.Prelude.{◌≡◌, ℕ, ◌+◌, ◌&&◌, List, [], ◌∷◌, ◌++◌, length, Some, None, Ok, Err, sum, filter, Option, Result, ◌==◌}
use Rattle.refusal.specs.declared.Refusal.{Refusal}
use Rattle.timebase.specs.Meaning.{Sound}
use Rattle.book.specs.declared.cue.Cue.{Cue}
use Rattle.book.specs.declared.cue.Line.{Line}
use Rattle.history.specs.declared.call.Call.{Call}
use Rattle.history.specs.declared.call.Call.TheVariants.{Add, Strike, Seek, Play}
use Rattle.history.specs.World.{World}
use Rattle.history.specs.Accepted.{head, refusal, accepted, crossed, crossings}
use Rattle.history.specs.Contents.{book_of, log_of, After}

abbrev pub lines_with : {L : Type 0} → ℕ → ℕ → List (Line L) → ℕ
lines_with c s ls = length (filter (λ l. l.cue == c && l.sample == s) ls)

abbrev pub answered : Option Refusal → ℕ → Result ℕ Refusal
answered None n = Ok n
answered (Some e) n = Err e

abbrev pub lines_by : {V L : Type 0} → World V L → List (Call V) → Call V → ℕ
lines_by w a (Add n v) = 0
lines_by w a (Strike n) = 0
lines_by w a (Seek h) = 0
lines_by w a (Play n) = crossed w a n

abbrev pub answer : {V L : Type 0} → World V L → List (Call V) → Call V → Result ℕ Refusal
answer w calls call = answered (refusal w (accepted w calls) call) (lines_by w (accepted w calls) call)

-- After any calls the log has, for each number and sample, a line for each accepted play that crossed the sample while
-- the number stood there, and no more.
abbrev pub EveryCrossingIsLoggedOnce : (V L : Type 0) → Type 0
EveryCrossingIsLoggedOnce V L =
    (w : World V L) → Sound w.cues → (calls : List (Call V)) (at : ℕ) (cs : List (Cue V)) (ls : List (Line L)) → After V L w calls at cs ls
    → (c s : ℕ) → lines_with c s ls ≡ crossings w c s (accepted w calls)

-- What a play answers is how many lines the log has more.
abbrev pub APlayAnswersItsLines : (V L : Type 0) → Type 0
APlayAnswersItsLines V L =
    (w : World V L) → Sound w.cues → (calls : List (Call V)) (n k : ℕ) → answer w calls (Play n) ≡ Ok k
    → length (log_of w (accepted w (Play n ∷ calls))) ≡ length (log_of w (accepted w calls)) + k

abbrev pub played : {V : Type 0} → List ℕ → List (Call V) → List (Call V)
played [] calls = calls
played (n ∷ ns) calls = played ns (Play n ∷ calls)

abbrev pub AllAccepted : {V L : Type 0} → World V L → List (Call V) → List ℕ → Type 0
AllAccepted w calls [] = Unit {0}
AllAccepted w calls (n ∷ ns) = (refusal w (accepted w calls) (Play n) ≡ None) × AllAccepted w (Play n ∷ calls) ns

abbrev pub lines_of_all : {V L : Type 0} → World V L → List (Call V) → List ℕ → ℕ
lines_of_all w calls [] = 0
lines_of_all w calls (n ∷ ns) = crossed w (accepted w calls) n + lines_of_all w (Play n ∷ calls) ns

-- nothing tells two lists of calls apart: not the answer of a next call, nor head, book or log
pub record Alike (V L : Type 0) (w : World V L) (one two : List (Call V)) : Type 0 where
  pub answers : (call : Call V) → answer w one call ≡ answer w two call
  pub heads : head (accepted w one) ≡ head (accepted w two)
  pub books : book_of w (accepted w one) ≡ book_of w (accepted w two)
  pub logs : log_of w (accepted w one) ≡ log_of w (accepted w two)

-- one play, or plays of the same total in a row
pub record CutUnseen (V L : Type 0) (w : World V L) (calls : List (Call V)) (parts : List ℕ) : Type 0 where
  pub parts_accepted : refusal w (accepted w calls) (Play (sum parts)) ≡ None → AllAccepted w calls parts
  pub whole_accepted : AllAccepted w calls parts → refusal w (accepted w calls) (Play (sum parts)) ≡ None
  pub counts : AllAccepted w calls parts → crossed w (accepted w calls) (sum parts) ≡ lines_of_all w calls parts
  pub later : AllAccepted w calls parts → (more : List (Call V)) → Alike V L w (more ++ (Play (sum parts) ∷ calls)) (more ++ played parts calls)

-- Wherever in a list of calls a play is cut into plays of the same total, zeros among them.
abbrev pub CuttingAPlayShowsNowhere : (V L : Type 0) → Type 0
CuttingAPlayShowsNowhere V L = (w : World V L) → Sound w.cues → (calls : List (Call V)) (parts : List ℕ) → CutUnseen V L w calls parts

-- Accepted calls that nothing tells apart.
--   Same            head, standing forms, lines added, book and log are the same
--   refusal_same    then each next call is refused for the same reason, or by neither
--   same_more       and after any further calls they are the same still
--   alike           so that nothing tells them apart, now or later
-- Assumes nothing.
use Rattle.std.specs.Option.{option_and_then}
use Rattle.std.proofs.Common.{◌≡◌, ℕ, ◌+◌, ◌-◌, cond, not, eqb, ltb, leb, List, [], ◌∷◌, ◌++◌, map, is_some, Some, None, filter, Option, refl, ap, ◌∙◌, subst}
use Rattle.std.proofs.Math.Path.{fun_ext}
use Rattle.refusal.specs.declared.Refusal.{Refusal}
use Rattle.refusal.specs.declared.Refusal.TheVariants.{NoPosition, NotWritten, CueOutOfRange, CueAlreadyIn, NoFreePlace, CueNotIn, HeadPastEnd, NoFreeLines}
use Rattle.timebase.specs.Meaning.{tally}
use Rattle.book.specs.Cues.{entered, struck}
use Rattle.history.specs.declared.call.Call.{Call}
use Rattle.history.specs.declared.call.Call.TheVariants.{Add, Strike, Seek, Play}
use Rattle.history.specs.World.{World, sample_of}
use Rattle.history.specs.Accepted.{head, stands, in_block, holds_of, numbers, numbers_in, first, out_of_range, end, crossed, added, refusal, with_call, accepted}
use Rattle.history.specs.Contents.{cue_of, book_of, line_of, in_play, log_of}
use Rattle.history.specs.Laws.{lines_by, answered, Alike}

pub record Same (V L : Type 0) (w : World V L) (a b : List (Call V)) : Type 0 where
  pub heads : head a ≡ head b
  pub stood : (c : ℕ) → stands c a ≡ stands c b
  pub adds : added w a ≡ added w b
  pub books : book_of w a ≡ book_of w b
  pub logs : log_of w a ≡ log_of w b

-- the checks of an add, a strike and a play, over what they read of the calls before
module _ {V L : Type 0} (w : World V L) where
  abbrev add_refusal : ℕ → V → Option V → ℕ → Option Refusal
  add_refusal n v o k =
      first ((out_of_range n, CueOutOfRange) ∷ (is_some o, CueAlreadyIn) ∷ (not (is_some (w.number v)), NotWritten)
      ∷ (not (is_some (sample_of w v)), NoPosition) ∷ (leb w.places k, NoFreePlace) ∷ [])

  abbrev strike_refusal : ℕ → Option V → Option Refusal
  strike_refusal n o = first ((out_of_range n, CueOutOfRange) ∷ (not (is_some o), CueNotIn) ∷ [])

  abbrev pub play_refusal : ℕ → ℕ → ℕ → ℕ → Option Refusal
  play_refusal h n before k = first ((ltb end (h + n), HeadPastEnd) ∷ (ltb (w.lines - before) k, NoFreeLines) ∷ [])

module _ {V L : Type 0} (w : World V L) where
  pub same_trans : {a b c : List (Call V)} → Same V L w a b → Same V L w b c → Same V L w a c
  same_trans s t = record {
    heads = s.heads ∙ t.heads;
    stood = λ c. s.stood c ∙ t.stood c;
    adds = s.adds ∙ t.adds;
    books = s.books ∙ t.books;
    logs = s.logs ∙ t.logs;
  }

  module _ {a b : List (Call V)} (s : Same V L w a b) where
    numbers_same : numbers_in a ≡ numbers_in b
    numbers_same = ap (λ f. tally f numbers) (fun_ext (λ c. ap is_some (s.stood c)))

    crossed_same : (n : ℕ) → crossed w a n ≡ crossed w b n
    crossed_same n = ap (λ f. tally f numbers) (fun_ext (λ c i. holds_of (option_and_then (sample_of w) (s.stood c i)) (in_block (s.heads i) n)))

    pub refusal_same : (call : Call V) → refusal w a call ≡ refusal w b call
    refusal_same (Add n v) = λ i. add_refusal w n v (s.stood n i) (numbers_same i)
    refusal_same (Strike n) = λ i. strike_refusal w n (s.stood n i)
    refusal_same (Seek h) = refl
    refusal_same (Play n) = λ i. play_refusal w (s.heads i) n (s.adds i) (crossed_same n i)

    lines_same : (call : Call V) → lines_by w a call ≡ lines_by w b call
    lines_same (Add n v) = refl
    lines_same (Strike n) = refl
    lines_same (Seek h) = refl
    lines_same (Play n) = crossed_same n

    same_call : (call : Call V) → Same V L w (call ∷ a) (call ∷ b)
    same_call (Add n v) = record {
      heads = s.heads;
      stood = λ c. ap (λ o. cond (eqb n c) (Some v) o) (s.stood c);
      adds = s.adds;
      books = ap (entered (cue_of w n v)) s.books;
      logs = s.logs;
    }
    same_call (Strike n) = record {
      heads = s.heads;
      stood = λ c. ap (λ o. cond (eqb n c) None o) (s.stood c);
      adds = s.adds;
      books = ap (struck n) s.books;
      logs = s.logs;
    }
    same_call (Seek h) = record { heads = refl; stood = s.stood; adds = s.adds; books = s.books; logs = s.logs }
    same_call (Play n) = record {
      heads = ap (λ h. h + n) s.heads;
      stood = s.stood;
      adds = λ i. s.adds i + crossed_same n i;
      books = s.books;
      logs = λ i. s.logs i ++ map (line_of w) (filter (in_play w (s.heads i) n) (s.books i));
    }

    same_with : (call : Call V) (r : Option Refusal) → Same V L w (with_call w r call a) (with_call w r call b)
    same_with call None = same_call call
    same_with call (Some e) = s

    same_next : (call : Call V) → Same V L w (with_call w (refusal w a call) call a) (with_call w (refusal w b call) call b)
    same_next call =
        let one = with_call w (refusal w a call) call a in
        subst (λ r. Same V L w one (with_call w r call b)) (refusal_same call) (same_with call (refusal w a call))

  same_more : (one two : List (Call V)) → Same V L w (accepted w one) (accepted w two) → (more : List (Call V))
      → Same V L w (accepted w (more ++ one)) (accepted w (more ++ two))
  same_more one two s [] = s
  same_more one two s (call ∷ more) = same_next (same_more one two s more) call

  now_alike : (one two : List (Call V)) → Same V L w (accepted w one) (accepted w two) → Alike V L w one two
  now_alike one two s = record {
    answers = λ call i. answered (refusal_same s call i) (lines_same s call i);
    heads = s.heads;
    books = s.books;
    logs = s.logs;
  }

  pub alike : (one two : List (Call V)) → Same V L w (accepted w one) (accepted w two) → (more : List (Call V)) → Alike V L w (more ++ one) (more ++ two)
  alike one two s more = now_alike (more ++ one) (more ++ two) (same_more one two s more)

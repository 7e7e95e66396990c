-- Every crossing has one line. Assumes nothing.
use Rattle.std.proofs.Common.{◌≡◌, ℕ, suc, ◌+◌, Bool, true, false, cond, ◌&&◌, eqb, List, [], ◌∷◌, ◌++◌, map, length, Some, None, Ok, filter, Option, sym, refl, ap, ◌∙◌, eqb-true}
use Rattle.std.proofs.Math.Bool.{and-false}
use Rattle.std.proofs.lemmas.List.Elements.{filter-append}
use Rattle.std.proofs.lemmas.List.{length-append, length-map}
use Rattle.std.specs.Option.{option_and_then, option_map, option_to_list}
use Rattle.refusal.specs.declared.Refusal.{Refusal}
use Rattle.book.specs.declared.cue.Cue.{Cue}
use Rattle.book.specs.declared.cue.Line.{Line}
use Rattle.book.specs.Cues.{numbered}
use Rattle.history.specs.declared.call.Call.{Call}
use Rattle.history.specs.declared.call.Call.TheVariants.{Add, Strike, Seek, Play}
use Rattle.history.specs.World.{World, sample_of}
use Rattle.history.specs.Accepted.{head, stands, in_block, holds_of, stands_on, crossed, refusal, with_call, accepted, crossings}
use Rattle.history.specs.Contents.{cue_of, book_of, log_of, sample, in_play, line_of}
use Rattle.history.specs.Laws.{lines_with, answered, EveryCrossingIsLoggedOnce, APlayAnswersItsLines}
use Rattle.history.proofs.Kept.{Kept}
use Rattle.history.proofs.Numbers.{one_kept, kept_both, kept_same}
use Rattle.history.proofs.Standing.{found, sample_good, crossed_is}
use Rattle.history.proofs.Keeping.{kept_all}

-- a test of t, where t is s, is a test of s
same_sample : (test : ℕ → Bool) (t s : ℕ) (b : Bool) → eqb t s ≡ b → (test t && b) ≡ (test s && b)
same_sample test t s true e = ap (λ m. test m && true) (eqb-true t s e)
same_sample test t s false e = and-false (test t) ∙ sym (and-false (test s))

kept_map_step : {X Y : Type 0} (x : X) (y : Y) (xs : List X) (ys : List Y) (b : Bool) → length ys ≡ length xs → length (cond b (y ∷ ys) ys) ≡ length (cond b (x ∷ xs) xs)
kept_map_step x y xs ys true e = ap suc e
kept_map_step x y xs ys false e = e

kept_map : {X Y : Type 0} (f : X → Y) (p : Y → Bool) (xs : List X) → length (filter p (map f xs)) ≡ length (filter (λ x. p (f x)) xs)
kept_map f p [] = refl
kept_map f p (x ∷ xs) = kept_map_step x (f x) (filter (λ y. p (f y)) xs) (filter p (map f xs)) (p (f x)) (kept_map f p xs)

-- three tests in another order
turned : (a b c : Bool) → (a && (b && c)) ≡ (b && (a && c))
turned true true c = refl
turned true false c = refl
turned false true c = refl
turned false false c = refl

module _ {V L : Type 0} (w : World V L) (a : List (Call V)) (k : Kept V L w a) (n c s : ℕ) where
  -- the lines that the play adds, for one cue and one sample
  abbrev here : Cue V → Bool
  here x = in_play w (head a) n x && eqb (sample w x) s

  one_cue : (o : Option V) → stands c a ≡ o → length (filter here (option_to_list (option_map (cue_of w c) o))) ≡ cond (in_block (head a) n s && holds_of (option_and_then (sample_of w) o) (λ t. eqb t s)) 1 0
  one_cue None is = ap (λ b. cond b 1 0) (sym (and-false (in_block (head a) n s)))
  one_cue (Some v) is =
      let x : Cue V = cue_of w c v in
      one_kept x (here x)
      ∙ ap (λ b. cond b 1 0) (same_sample (in_block (head a) n) (sample w x) s (eqb (sample w x) s) refl)
      ∙ ap (λ o. cond (in_block (head a) n s && holds_of o (λ t. eqb t s)) 1 0) (sym (sample_good w x (found w a k c v is)))

  added_lines : lines_with c s (map (line_of w) (filter (in_play w (head a) n) (book_of w a)))
      ≡ cond (in_block (head a) n s && holds_of (stands_on w c a) (λ t. eqb t s)) 1 0
  added_lines =
      kept_map (line_of w) (λ l. eqb l.cue c && eqb l.sample s) (filter (in_play w (head a) n) (book_of w a))
      ∙ ap length (kept_both (in_play w (head a) n) (λ x. eqb x.number c && eqb (sample w x) s) (book_of w a)
      ∙ kept_same _ _ (λ x. turned (in_play w (head a) n x) (eqb x.number c) (eqb (sample w x) s)) (book_of w a)
      ∙ sym (kept_both (numbered c) here (book_of w a)))
      ∙ ap (λ xs. length (filter here xs)) (k.only c)
      ∙ one_cue (stands c a) refl

lines_append : {L : Type 0} (c s : ℕ) (xs ys : List (Line L)) → lines_with c s (xs ++ ys) ≡ lines_with c s xs + lines_with c s ys
lines_append c s xs ys = ap length (filter-append (λ l. eqb l.cue c && eqb l.sample s) xs ys) ∙ length-append _ _

module _ {V L : Type 0} (w : World V L) (c s : ℕ) where
  abbrev Counted : List (Call V) → Type 0
  Counted a = lines_with c s (log_of w a) ≡ crossings w c s a

  counted_call : (a : List (Call V)) (call : Call V) (r : Option Refusal) → Kept V L w a → Counted a → Counted (with_call w r call a)
  counted_call a call (Some e) k h = h
  counted_call a (Add n v) None k h = h
  counted_call a (Strike n) None k h = h
  counted_call a (Seek t) None k h = h
  counted_call a (Play n) None k h =
      lines_append c s (log_of w a) (map (line_of w) (filter (in_play w (head a) n) (book_of w a)))
      ∙ ap (λ m. m + lines_with c s (map (line_of w) (filter (in_play w (head a) n) (book_of w a)))) h
      ∙ ap (λ m. crossings w c s a + m) (added_lines w a k n c s)

  pub counted : (calls : List (Call V)) → Counted (accepted w calls)
  counted [] = refl
  counted (call ∷ calls) = counted_call (accepted w calls) call (refusal w (accepted w calls) call) (kept_all w calls) (counted calls)

pub every_crossing_is_logged_once : (V L : Type 0) → EveryCrossingIsLoggedOnce V L
every_crossing_is_logged_once V L w sound calls at cs ls after c s = ap (lines_with c s) after.lines_are ∙ counted w c s calls

answered_ok : (r : Option Refusal) (m k : ℕ) → answered r m ≡ Ok k → (r ≡ None) × (m ≡ k)
answered_ok None m k e = (refl, cc)
answered_ok (Some x) m k e = absurd (cc)

pub a_play_answers_its_lines : (V L : Type 0) → APlayAnswersItsLines V L
a_play_answers_its_lines V L w sound calls n k e =
    let a : List (Call V) = accepted w calls in
    let ok = answered_ok (refusal w a (Play n)) (crossed w a n) k e in
    let lines : List (Cue V) = filter (in_play w (head a) n) (book_of w a) in
    ap (λ r. length (log_of w (with_call w r (Play n) a))) ok.0
    ∙ length-append (log_of w a) (map (line_of w) lines)
    ∙ ap (λ m. length (log_of w a) + m) (length-map lines (line_of w) ∙ sym (crossed_is w a (kept_all w calls) n) ∙ ok.1)

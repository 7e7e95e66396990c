-- Each accepted call keeps what holds after accepted calls. Assumes nothing.
use Rattle.std.proofs.Common.{◌≡◌, ℕ, ◌+◌, ◌-◌, ◌<◌, ◌≤◌, Bool, true, false, cond, not, eqb, ltb, leb, List, [], ◌∷◌, map, length, is_some, Some, None, filter, Option, unwrap_or, sym, refl, ap, ◌∙◌, arith, ltb-false, ltb-true, eqb-true, leb-false}
use Rattle.std.proofs.lemmas.Bool.{eqb-false, not-false, or_parts, cond-false}
use Rattle.std.proofs.lemmas.List.{length-append, length-map}
use Rattle.std.specs.Option.{option_and_then, option_map, option_to_list}
use Rattle.std.specs.Result.{result_ok}
use Rattle.refusal.specs.declared.Refusal.{Refusal}
use Rattle.refusal.specs.declared.Refusal.TheVariants.{NoPosition, NotWritten, CueOutOfRange, CueAlreadyIn, NoFreePlace, HeadPastEnd, NoFreeLines}
use Rattle.timebase.specs.Meaning.{placed}
use Rattle.book.specs.declared.cue.Cue.{Cue}
use Rattle.book.specs.Cues.{entered, numbered, struck}
use Rattle.history.specs.declared.call.Call.{Call}
use Rattle.history.specs.declared.call.Call.TheVariants.{Add, Strike, Seek, Play}
use Rattle.history.specs.World.{World, sample_of}
use Rattle.history.specs.Accepted.{head, stands, numbers_in, end, out_of_range, crossed, added, refusal, with_call, accepted, numbers}
use Rattle.history.specs.Contents.{cue_of, book_of, log_of, in_play, line_of}
use Rattle.history.proofs.Kept.{Good, Kept}
use Rattle.history.proofs.Entries.{lacks, rising_entered, rising_struck, all_entered, all_struck}
use Rattle.history.proofs.Single.{tail, entered_other, entered_one, struck_other, struck_same}
use Rattle.history.proofs.Standing.{passed, passed_two, passed_five, some_of, none_of, crossed_is}

-- what an accepted add says of its arguments
pub record Addable (V L : Type 0) (w : World V L) (a : List (Call V)) (n : ℕ) (v : V) : Type 0 where
  pub new : stands n a ≡ None
  pub good : Good V L w (cue_of w n v)
  pub room : numbers_in a < w.places

few_of : (n : ℕ) → out_of_range n ≡ false → n < numbers
unfolding numbers
few_of n f = let high : n ≤ 999999 = ltb-false 999999 n (or_parts (ltb n 1) (ltb 999999 n) f).1 in omega arith

placed_is : {V L : Type 0} (w : World V L) (p : ℕ) (b : Bool) → ltb p w.cues.len ≡ b → is_some (result_ok (placed w.cues p)) ≡ true → p < w.cues.len
placed_is w p true e h = ltb-true _ _ e
placed_is w p false e h =
    let none : is_some (result_ok (placed w.cues p)) ≡ false = ap (λ o. is_some (result_ok o)) (cond-false (ltb p w.cues.len) _ _ e) in
    absurd (cc)

within : (room used more : ℕ) → used ≤ room → more ≤ room - used → used + more ≤ room
within room used more h m = omega arith

module _ {V L : Type 0} (w : World V L) (a : List (Call V)) where
  pub addable : (n : ℕ) (v : V) → refusal w a (Add n v) ≡ None → Addable V L w a n v
  addable n v none =
      let at : ℕ = unwrap_or (w.number v) 0 in
      let ok = passed_five (out_of_range n) (is_some (stands n a)) (not (is_some (w.number v))) (not (is_some (sample_of w v))) (leb w.places (numbers_in a))
      CueOutOfRange CueAlreadyIn NotWritten NoPosition NoFreePlace none in
      let is : w.number v ≡ Some at = some_of (w.number v) 0 (not-false (is_some (w.number v)) ok.2) in
      let put : is_some (result_ok (placed w.cues at)) ≡ true
      = sym (ap (λ o. is_some (option_and_then (λ p. result_ok (placed w.cues p)) o)) is) ∙ not-false (is_some (sample_of w v)) ok.3 in
      record {
        new = none_of (stands n a) ok.1;
        good = record { few = few_of n ok.0; valid = is; inside = placed_is w at (ltb at w.cues.len) refl put };
        room = leb-false w.places (numbers_in a) ok.4;
      }

  only_add : (n : ℕ) (v : V) → Kept V L w a → stands n a ≡ None → (c : ℕ) (b : Bool) → eqb n c ≡ b
      → filter (numbered c) (entered (cue_of w n v) (book_of w a)) ≡ option_to_list (option_map (cue_of w c) (cond b (Some v) (stands c a)))
  only_add n v k new c true e =
      let is : n ≡ c = eqb-true _ _ e in
      let none : filter (numbered c) (book_of w a) ≡ [] = k.only c ∙ ap (λ m. option_to_list (option_map (cue_of w c) (stands m a))) (sym is) ∙ ap (λ o. option_to_list (option_map (cue_of w c) o)) new in
      entered_one (numbered c) (cue_of w n v) (book_of w a) e none ∙ ap (λ m. cue_of w m v ∷ []) is
  only_add n v k new c false e = entered_other (numbered c) (cue_of w n v) (book_of w a) e ∙ k.only c

  pub kept_add : (n : ℕ) (v : V) → Kept V L w a → refusal w a (Add n v) ≡ None → Kept V L w (Add n v ∷ a)
  kept_add n v k none =
      let ok = addable n v none in
      let lack : filter (numbered n) (book_of w a) ≡ [] = k.only n ∙ ap (λ o. option_to_list (option_map (cue_of w n) o)) ok.new in
      record {
        rises = rising_entered (cue_of w n v) (book_of w a) (lacks n (book_of w a) lack) k.rises;
        only = λ c. only_add n v k ok.new c (eqb n c) refl;
        good = all_entered (Good V L w) (cue_of w n v) (book_of w a) ok.good k.good;
        ends = k.ends;
        fits = k.fits;
        long = k.long;
      }

  tail_one : {X : Type 0} (o : Option X) → tail (option_to_list o) ≡ []
  tail_one None = refl
  tail_one (Some x) = refl

  only_strike : (n : ℕ) → Kept V L w a → (c : ℕ) (b : Bool) → eqb n c ≡ b
      → filter (numbered c) (struck n (book_of w a)) ≡ option_to_list (option_map (cue_of w c) (cond b None (stands c a)))
  only_strike n k c true e =
      let is : n ≡ c = eqb-true _ _ e in
      ap (λ m. filter (numbered c) (struck m (book_of w a))) is ∙ struck_same c (book_of w a) ∙ ap tail (k.only c) ∙ tail_one (option_map (cue_of w c) (stands c a))
  only_strike n k c false e = struck_other n c (book_of w a) (λ q. eqb-false _ _ e (sym q)) ∙ k.only c

  pub kept_strike : (n : ℕ) → Kept V L w a → Kept V L w (Strike n ∷ a)
  kept_strike n k = record {
    rises = rising_struck n (book_of w a) k.rises;
    only = λ c. only_strike n k c (eqb n c) refl;
    good = all_struck (Good V L w) n (book_of w a) k.good;
    ends = k.ends;
    fits = k.fits;
    long = k.long;
  }

  pub kept_seek : (h : ℕ) → Kept V L w a → refusal w a (Seek h) ≡ None → Kept V L w (Seek h ∷ a)
  kept_seek h k none =
      let ok = passed (ltb end h) HeadPastEnd [] none in
      record { rises = k.rises; only = k.only; good = k.good; ends = ltb-false end h ok.0; fits = k.fits; long = k.long }

  pub kept_play : (n : ℕ) → Kept V L w a → refusal w a (Play n) ≡ None → Kept V L w (Play n ∷ a)
  kept_play n k none =
      let ok = passed_two (ltb end (head a + n)) (ltb (w.lines - added w a) (crossed w a n)) HeadPastEnd NoFreeLines none in
      let lines : List (Cue V) = filter (in_play w (head a) n) (book_of w a) in
      record {
        rises = k.rises;
        only = k.only;
        good = k.good;
        ends = ltb-false end (head a + n) ok.0;
        fits = within w.lines (added w a) (crossed w a n) k.fits (ltb-false (w.lines - added w a) (crossed w a n) ok.1);
        long = length-append (log_of w a) (map (line_of w) lines) ∙ ap (λ m. m + length (map (line_of w) lines)) k.long
            ∙ ap (λ m. added w a + m) (length-map lines (line_of w) ∙ sym (crossed_is w a k n));
      }

  kept_call : (call : Call V) (r : Option Refusal) → refusal w a call ≡ r → Kept V L w a → Kept V L w (with_call w r call a)
  kept_call call (Some e) is k = k
  kept_call (Add n v) None is k = kept_add n v k is
  kept_call (Strike n) None is k = kept_strike n k
  kept_call (Seek h) None is k = kept_seek h k is
  kept_call (Play n) None is k = kept_play n k is

pub kept_all : {V L : Type 0} (w : World V L) (calls : List (Call V)) → Kept V L w (accepted w calls)
kept_all w [] = record { rises = tt; only = λ c. refl; good = tt; ends = omega arith; fits = omega arith; long = refl }
kept_all w (call ∷ calls) = kept_call w (accepted w calls) call (refusal w (accepted w calls) call) refl (kept_all w calls)

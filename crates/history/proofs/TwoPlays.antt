-- A play cut in two, from any accepted calls.
--   cut_accepted     where the whole is accepted, so are both parts
--   joined_accepted  where both parts are accepted, so is the whole
--   crossed_cut      the whole crosses as many numbers as both parts
--   same_cut         nothing tells the whole from the parts
--   none_accepted    a play of nothing is accepted, and same_none: it leaves everything the same
-- Assumes nothing.
use Rattle.std.proofs.Common.{◌≡◌, ℕ, ◌+◌, ◌-◌, ◌≤◌, Bool, false, cond, ltb, List, [], ◌∷◌, ◌++◌, map, Some, None, filter, Option, sym, refl, ap, ◌∙◌, add-zero, add_assoc, arith}
use Rattle.std.proofs.lemmas.List.{append-nil, append_assoc, map-append}
use Rattle.std.proofs.lemmas.Bool.{ltb-false, le-ltb}
use Rattle.refusal.specs.declared.Refusal.{Refusal}
use Rattle.timebase.specs.Meaning.{Sound}
use Rattle.book.specs.declared.cue.Cue.{Cue}
use Rattle.history.specs.declared.call.Call.{Call}
use Rattle.history.specs.declared.call.Call.TheVariants.{Play}
use Rattle.history.specs.World.{World}
use Rattle.history.specs.Accepted.{head, stands_on, in_block, holds_of, numbers, first, end, crosses, crossed, added, refusal}
use Rattle.history.specs.Contents.{book_of, line_of, in_play, log_of}
use Rattle.history.proofs.Kept.{Kept}
use Rattle.history.proofs.Blocks.{no_block, two_blocks, tally_split, tally_none, empty_block, split_block}
use Rattle.history.proofs.Same.{Same, play_refusal}
use Rattle.history.proofs.Standing.{passed_two}

pass_both : (p q : Bool) (e f : Refusal) → p ≡ false → q ≡ false → first ((p, e) ∷ (q, f) ∷ []) ≡ None
pass_both p q e f d g = λ i. first ((d i, e) ∷ (g i, f) ∷ [])

-- a play whose block ends by the end, and whose lines find room
pub record Plays (h n lines before k : ℕ) : Type 0 where
  pub ends : h + n ≤ end
  pub room : k ≤ lines - before

cut_first : (h x y lines before k one two : ℕ) → k ≡ one + two → Plays h (x + y) lines before k → Plays h x lines before one
cut_first h x y lines before k one two e p = record { ends = omega arith; room = omega arith }

cut_second : (h x y lines before k one two : ℕ) → k ≡ one + two → Plays h (x + y) lines before k → Plays (h + x) y lines (before + one) two
cut_second h x y lines before k one two e p = record { ends = omega arith; room = omega arith }

join_plays : (h x y lines before k one two : ℕ) → k ≡ one + two → Plays h x lines before one
    → Plays (h + x) y lines (before + one) two → Plays h (x + y) lines before k
join_plays h x y lines before k one two e p q = record { ends = omega arith; room = omega arith }

none_plays : (h lines before k : ℕ) → h ≤ end → k ≡ 0 → Plays h 0 lines before k
none_plays h lines before k l e = record { ends = omega arith; room = omega arith }

split_test : (o : Option ℕ) (h x y : ℕ)
    → cond (holds_of o (in_block h (x + y))) 1 0 ≡ cond (holds_of o (in_block h x)) 1 0 + cond (holds_of o (in_block (h + x) y)) 1 0
split_test None h x y = refl
split_test (Some s) h x y = two_blocks h x y s

none_test : (o : Option ℕ) (h : ℕ) → holds_of o (in_block h 0) ≡ false
none_test None h = refl
none_test (Some s) h = no_block h s

cut_log : {X Y : Type 0} (f : X → Y) (log : List Y) (whole one two : List X) → whole ≡ one ++ two → log ++ map f whole ≡ (log ++ map f one) ++ map f two
cut_log f log whole one two e = ap (λ xs. log ++ map f xs) e ∙ ap (λ ys. log ++ ys) (map-append f one two) ∙ sym (append_assoc log (map f one) (map f two))

module _ {V L : Type 0} (w : World V L) where
  plays : (h n before k : ℕ) → play_refusal w h n before k ≡ None → Plays h n w.lines before k
  plays h n before k e =
      let p = passed_two (ltb end (h + n)) (ltb (w.lines - before) k) _ _ e in
      record { ends = ltb-false end (h + n) p.0; room = ltb-false (w.lines - before) k p.1 }

  plays_on : (h n before k : ℕ) → Plays h n w.lines before k → play_refusal w h n before k ≡ None
  plays_on h n before k p = pass_both (ltb end (h + n)) (ltb (w.lines - before) k) _ _ (le-ltb end (h + n) p.ends) (le-ltb (w.lines - before) k p.room)

  module _ (a : List (Call V)) where
    pub crossed_cut : (x y : ℕ) → crossed w a (x + y) ≡ crossed w a x + crossed w (Play x ∷ a) y
    crossed_cut x y = tally_split (crosses w a (x + y)) (crosses w a x) (crosses w (Play x ∷ a) y) (λ c. split_test (stands_on w c a) (head a) x y) numbers

    pub crossed_none : crossed w a 0 ≡ 0
    crossed_none = tally_none (crosses w a 0) (λ c. none_test (stands_on w c a) (head a)) numbers

    whole_plays : (x y : ℕ) → refusal w a (Play (x + y)) ≡ None → Plays (head a) (x + y) w.lines (added w a) (crossed w a (x + y))
    whole_plays x y e = plays (head a) (x + y) (added w a) (crossed w a (x + y)) e

    pub cut_accepted : (x y : ℕ) → refusal w a (Play (x + y)) ≡ None → (refusal w a (Play x) ≡ None) × (refusal w (Play x ∷ a) (Play y) ≡ None)
    cut_accepted x y e =
        let h = head a in
        let before = added w a in
        let one = crossed w a x in
        let two = crossed w (Play x ∷ a) y in
        let whole = whole_plays x y e in
        let left = cut_first h x y w.lines before _ one two (crossed_cut x y) whole in
        let right = cut_second h x y w.lines before _ one two (crossed_cut x y) whole in
        (plays_on h x before one left, plays_on (h + x) y (before + one) two right)

    pub joined_accepted : (x y : ℕ) → refusal w a (Play x) ≡ None → refusal w (Play x ∷ a) (Play y) ≡ None → refusal w a (Play (x + y)) ≡ None
    joined_accepted x y e f =
        let one = plays (head a) x (added w a) (crossed w a x) e in
        let two = plays (head a + x) y (added w a + crossed w a x) (crossed w (Play x ∷ a) y) f in
        plays_on (head a) (x + y) (added w a) (crossed w a (x + y)) (join_plays (head a) x y w.lines (added w a) _ _ _ (crossed_cut x y) one two)

    pub none_accepted : head a ≤ end → refusal w a (Play 0) ≡ None
    none_accepted l =
        plays_on (head a) 0 (added w a) (crossed w a 0) (none_plays (head a) w.lines (added w a) (crossed w a 0) l crossed_none)

    pub same_none : Same V L w (Play 0 ∷ a) a
    same_none = record {
      heads = add-zero (head a);
      stood = λ c. refl;
      adds = ap (λ k. added w a + k) crossed_none ∙ add-zero (added w a);
      books = refl;
      logs = ap (λ xs. log_of w a ++ map (line_of w) xs) (empty_block w (head a) (book_of w a)) ∙ append-nil (log_of w a);
    }

    abbrev by_play : ℕ → List (Cue V)
    by_play n = filter (in_play w (head a) n) (book_of w a)

    pub same_cut : Sound w.cues → Kept V L w a → (x y : ℕ) → Same V L w (Play (x + y) ∷ a) (Play y ∷ Play x ∷ a)
    same_cut sound kept x y = record {
      heads = sym (add_assoc (head a) x y);
      stood = λ c. refl;
      adds = ap (λ k. added w a + k) (crossed_cut x y) ∙ sym (add_assoc (added w a) (crossed w a x) (crossed w (Play x ∷ a) y));
      books = refl;
      logs = cut_log (line_of w) (log_of w a) (by_play (x + y)) (by_play x) (filter (in_play w (head a + x) y) (book_of w a))
          (split_block w sound (head a) x y (book_of w a) kept.rises kept.good);
    }

-- Which check of a call fails first, from what the deck's own tests say. Assumes nothing.
use Rattle.std.proofs.Common.{◌≡◌, ℕ, ◌<◌, ◌≤◌, Bool, true, false, cond, not, ◌||◌, ltb, leb, ◌⊎◌, List, [], ◌∷◌, length, is_some, Some, None, Ok, Err, filter, Option, sym, refl, ap, ◌∙◌, inl, inr, arith, ltb-false, ltb-true, le-ltb, lt-ltb, le-leb}
use borrow.Author.Tests.{lt-leb}
use Rattle.std.proofs.lemmas.Bool.{cond-true, cond-false}
use Rattle.std.specs.Option.{option_and_then, option_map, option_to_list}
use Rattle.std.specs.Result.{result_ok}
use Rattle.refusal.specs.declared.Refusal.{Refusal}
use Rattle.refusal.specs.declared.Refusal.TheVariants.{NoPosition, NotWritten, CueOutOfRange, CueAlreadyIn, NoFreePlace, CueNotIn}
use Rattle.timebase.specs.Meaning.{placed}
use Rattle.book.specs.declared.cue.Cue.{Cue}
use Rattle.book.specs.Cues.{has, numbered}
use Rattle.history.specs.declared.call.Call.{Call}
use Rattle.history.specs.declared.call.Call.TheVariants.{Add, Strike}
use Rattle.history.specs.World.{World, sample_of}
use Rattle.history.specs.Accepted.{stands, numbers_in, first, out_of_range, refusal}
use Rattle.history.specs.Contents.{cue_of, book_of}
use Rattle.history.proofs.Kept.{Kept}
use Rattle.deck.specs.Blocks.{position_of}
use Rattle.history.proofs.Standing.{numbers_in_is}

-- a list has a cue of a number where the cues of that number are some
any : {X : Type 0} → List X → Bool
any [] = false
any (x ∷ xs) = true

any_step : {X : Type 0} (x : X) (xs : List X) (b h : Bool) → h ≡ any xs → (b || h) ≡ any (cond b (x ∷ xs) xs)
unfolding any
any_step x xs true h e = refl
any_step x xs false h e = e

has_any : {V : Type 0} (n : ℕ) (xs : List (Cue V)) → has n xs ≡ any (filter (numbered n) xs)
unfolding any
has_any n [] = refl
has_any n (x ∷ xs) = any_step x (filter (numbered n) xs) (numbered n x) (has n xs) (has_any n xs)

any_one : {X Y : Type 0} (f : X → Y) (o : Option X) → any (option_to_list (option_map f o)) ≡ is_some o
unfolding any
any_one f None = refl
any_one f (Some x) = refl

-- what the position of a written form says of its number
pub at_ok : (o : Option ℕ) (len p : ℕ) → Ok p ≡ position_of o len → (o ≡ Some p) × (p < len)
at_ok None len p e = absurd (cc)
at_ok (Some q) len p e = by_test (ltb q len) refl e
  where
    by_test : (b : Bool) → ltb q len ≡ b → Ok p ≡ cond b (Ok q) (Err NoPosition) → (Some q ≡ Some p) × (p < len)
    by_test true t is = let same : q ≡ p = cc in (ap Some same, let l = ltb-true q len t in omega arith)
    by_test false t is = absurd (cc)

-- why a written form has no position
pub at_err : (o : Option ℕ) (len : ℕ) (why : Refusal) → Err why ≡ position_of o len
    → ((o ≡ None) × (why ≡ NotWritten)) ⊎ ((p : ℕ) × (o ≡ Some p) × (len ≤ p) × (why ≡ NoPosition))
at_err None len why e = inl (refl, cc)
at_err (Some q) len why e = by_test (ltb q len) refl e
  where
    by_test : (b : Bool) → ltb q len ≡ b → Err why ≡ cond b (Ok q) (Err NoPosition)
        → ((Some q ≡ None) × (why ≡ NotWritten)) ⊎ ((p : ℕ) × (Some q ≡ Some p) × (len ≤ p) × (why ≡ NoPosition))
    by_test true t is = absurd (cc)
    by_test false t is = inr (q, refl, ltb-false q len t, cc)

module _ {V W : Type 0} (w : World V W) (a : List (Call V)) (k : Kept V W w a) where
  pub has_stands : (n : ℕ) → has n (book_of w a) ≡ is_some (stands n a)
  has_stands n = has_any n (book_of w a) ∙ ap any (k.only n) ∙ any_one (cue_of w n) (stands n a)

  -- the five checks of an add, as answers to five questions
  abbrev checked : Bool → Bool → Bool → Bool → Bool → Option Refusal
  checked range held bad past full = first ((range, CueOutOfRange) ∷ (held, CueAlreadyIn) ∷ (bad, NotWritten) ∷ (past, NoPosition) ∷ (full, NoFreePlace) ∷ [])

  module _ (n : ℕ) (v : V) where
    asked : (range held bad past full : Bool) → out_of_range n ≡ range → has n (book_of w a) ≡ held → not (is_some (w.number v)) ≡ bad → not (is_some (sample_of w v)) ≡ past
        → leb w.places (length (book_of w a)) ≡ full → refusal w a (Add n v) ≡ checked range held bad past full
    asked range held bad past full e1 e2 e3 e4 e5 =
        ap (λ b. checked b (is_some (stands n a)) (not (is_some (w.number v))) (not (is_some (sample_of w v))) (leb w.places (numbers_in a))) e1
        ∙ ap (λ b. checked range b (not (is_some (w.number v))) (not (is_some (sample_of w v))) (leb w.places (numbers_in a))) (sym (has_stands n) ∙ e2)
        ∙ ap (λ b. checked range held b (not (is_some (sample_of w v))) (leb w.places (numbers_in a))) e3
        ∙ ap (λ b. checked range held bad b (leb w.places (numbers_in a))) e4
        ∙ ap (λ b. checked range held bad past b) (ap (leb w.places) (numbers_in_is w a k) ∙ e5)

    pub add_range : out_of_range n ≡ true → refusal w a (Add n v) ≡ Some CueOutOfRange
    add_range e = asked true _ _ _ _ e refl refl refl refl

    pub add_in : out_of_range n ≡ false → has n (book_of w a) ≡ true → refusal w a (Add n v) ≡ Some CueAlreadyIn
    add_in e1 e2 = asked false true _ _ _ e1 e2 refl refl refl

    pub add_bad : out_of_range n ≡ false → has n (book_of w a) ≡ false → w.number v ≡ None → refusal w a (Add n v) ≡ Some NotWritten
    add_bad e1 e2 e3 = asked false false true _ _ e1 e2 (ap (λ o. not (is_some o)) e3) refl refl

    module _ (p : ℕ) (is : w.number v ≡ Some p) where
      sampled : sample_of w v ≡ result_ok (placed w.cues p)
      sampled = ap (λ o. option_and_then (λ q. result_ok (placed w.cues q)) o) is

      past_end : w.cues.len ≤ p → not (is_some (sample_of w v)) ≡ true
      past_end le = ap (λ o. not (is_some o)) (sampled ∙ ap result_ok (cond-false (ltb p w.cues.len) _ _ (le-ltb p w.cues.len le)))

      within : p < w.cues.len → not (is_some (sample_of w v)) ≡ false
      within lt = ap (λ o. not (is_some o)) (sampled ∙ ap result_ok (cond-true (ltb p w.cues.len) _ _ (lt-ltb p w.cues.len lt)))

      pub add_past : out_of_range n ≡ false → has n (book_of w a) ≡ false → w.cues.len ≤ p → refusal w a (Add n v) ≡ Some NoPosition
      add_past e1 e2 le = asked false false false true _ e1 e2 (ap (λ o. not (is_some o)) is) (past_end le) refl

      pub add_full : out_of_range n ≡ false → has n (book_of w a) ≡ false → p < w.cues.len → w.places ≤ length (book_of w a) → refusal w a (Add n v) ≡ Some NoFreePlace
      add_full e1 e2 lt le = asked false false false false true e1 e2 (ap (λ o. not (is_some o)) is) (within lt) (le-leb _ _ le)

      pub add_passes : out_of_range n ≡ false → has n (book_of w a) ≡ false → p < w.cues.len → length (book_of w a) < w.places → refusal w a (Add n v) ≡ None
      add_passes e1 e2 lt le = asked false false false false false e1 e2 (ap (λ o. not (is_some o)) is) (within lt) (lt-leb _ _ le)

  -- the two checks of a strike
  module _ (n : ℕ) where
    struck_by : (range held : Bool) → out_of_range n ≡ range → has n (book_of w a) ≡ held
        → refusal w a (Strike n) ≡ first ((range, CueOutOfRange) ∷ (not held, CueNotIn) ∷ [])
    struck_by range held e1 e2 =
        ap (λ b. first ((b, CueOutOfRange) ∷ (not (is_some (stands n a)), CueNotIn) ∷ [])) e1
        ∙ ap (λ b. first ((range, CueOutOfRange) ∷ (not b, CueNotIn) ∷ [])) (sym (has_stands n) ∙ e2)

    pub strike_range : out_of_range n ≡ true → refusal w a (Strike n) ≡ Some CueOutOfRange
    strike_range e = struck_by true _ e refl

    pub strike_out : out_of_range n ≡ false → has n (book_of w a) ≡ false → refusal w a (Strike n) ≡ Some CueNotIn
    strike_out e1 e2 = struck_by false false e1 e2

    pub strike_passes : out_of_range n ≡ false → has n (book_of w a) ≡ true → refusal w a (Strike n) ≡ None
    strike_passes e1 e2 = struck_by false true e1 e2

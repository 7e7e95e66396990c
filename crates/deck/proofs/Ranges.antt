-- The cues that a play crosses stand in a row in the book: from the first at or after the head's position to the last
-- before the position of the block's end. Assumes nothing.
use Rattle.std.proofs.Common.{◌≡◌, ℕ, zero, suc, ◌+◌, ◌-◌, ◌<◌, ◌≤◌, Bool, true, false, leb, List, [], ◌∷◌, length, get_or, take, drop, filter, refl, ap, ◌∙◌, inl, inr, arith, le-ltb, lt-ltb, le-leb}
use borrow.Author.Tests.{lt-leb}
use Rattle.std.proofs.lemmas.Bool.{cases_lt, cond-true, cond-false, and_left, and_right, and_from}
use Rattle.std.proofs.ByRecursion.{All-get_or}
use Rattle.std.specs.List.{between, AllByRecursion}
use Rattle.timebase.specs.Meaning.{Sound, Least}
use Rattle.timebase.specs.Locates.{least_agrees}
use Rattle.book.specs.declared.cue.Cue.{Cue}
use Rattle.book.specs.Cues.{Splits}
use Rattle.history.specs.World.{World}
use Rattle.history.specs.Contents.{in_play}
use Rattle.history.proofs.Kept.{Good}

module _ {X : Type 0} (t : X → Bool) where
  -- a test that holds in a row of m places from f on keeps that row
  pub kept_row : (xs : List X) (f m : ℕ) → f + m ≤ length xs
      → ((k : ℕ) (d : X) → k < f → t (get_or xs k d) ≡ false)
      → ((k : ℕ) (d : X) → f ≤ k → k < f + m → t (get_or xs k d) ≡ true)
      → ((k : ℕ) (d : X) → f + m ≤ k → k < length xs → t (get_or xs k d) ≡ false)
      → filter t xs ≡ take m (drop f xs)
  kept_row [] zero zero inside low in_row high = refl
  kept_row [] zero (suc m) inside low in_row high = absurd (omega arith)
  kept_row [] (suc f) m inside low in_row high = absurd (omega arith)
  kept_row (x ∷ xs) zero zero inside low in_row high =
      cond-false (t x) (x ∷ filter t xs) (filter t xs) (high 0 x (omega arith) (omega arith))
      ∙ kept_row xs zero zero (omega arith) (λ k d h. absurd (omega arith)) (λ k d a b. absurd (omega arith)) (λ k d a b. high (suc k) d (omega arith) (omega arith))
  kept_row (x ∷ xs) zero (suc m) inside low in_row high =
      cond-true (t x) (x ∷ filter t xs) (filter t xs) (in_row 0 x (omega arith) (omega arith))
      ∙ ap (λ ys. x ∷ ys)
      (kept_row xs zero m (omega arith) (λ k d h. absurd (omega arith)) (λ k d a b. in_row (suc k) d (omega arith) (omega arith))
      (λ k d a b. high (suc k) d (omega arith) (omega arith)))
  kept_row (x ∷ xs) (suc f) m inside low in_row high =
      cond-false (t x) (x ∷ filter t xs) (filter t xs) (low 0 x (omega arith))
      ∙ kept_row xs f m (omega arith) (λ k d h. low (suc k) d (omega arith)) (λ k d a b. in_row (suc k) d (omega arith) (omega arith))
      (λ k d a b. high (suc k) d (omega arith) (omega arith))

pub one_of : {X : Type 0} (xs : List X) → 0 < length xs → X
one_of [] h = absurd (omega arith)
one_of (x ∷ xs) h = x

module _ {V W : Type 0} (w : World V W) (sound : Sound w.cues) (book : List (Cue V)) (good : AllByRecursion (Good V W w) book)
    (h n lo hi f u : ℕ) (first : Least w.cues h lo) (last : Least w.cues (h + n) hi) (from : Splits V book lo f) (to : Splits V book hi u) where
  lo_hi : lo ≤ hi
  lo_hi = elim (cases_lt hi lo) [
    | inl l ↦ absurd (let a = first.before hi l in let i = first.inside in let b = last.reaches (omega arith) in omega arith)
    | inr l ↦ l
  ]

  pub ordered : f ≤ u
  ordered = elim (cases_lt u f) [
    | inl l ↦ absurd (
        let i = from.inside in
        let d : Cue V = one_of book (omega arith) in
        let a = from.below u d l in
        let b = to.above u d (omega arith) (omega arith) in
        let c = lo_hi in
        omega arith)
    | inr l ↦ l
  ]

  -- the play's block, at one place of the book
  module _ (k : ℕ) (d : Cue V) (inside : k < length book) where
    abbrev at : ℕ
    at = (get_or book k d).position

    within : at < w.cues.len
    within = (All-get_or (Good V W w) book k d inside good).inside

    pub too_early : k < f → in_play w h n (get_or book k d) ≡ false
    too_early l =
        let below = from.below k d l in
        let agree = (least_agrees w.cues sound h lo first at within).1 in
        let early : w.cues.rule at < h = elim (cases_lt (w.cues.rule at) h) [ inl x ↦ x | inr x ↦ absurd (let y = agree x in omega arith) ] in
        and_left (leb h (w.cues.rule at)) _ (lt-leb _ _ early)

    pub too_late : u ≤ k → in_play w h n (get_or book k d) ≡ false
    too_late l =
        let above = to.above k d l inside in
        let late : h + n ≤ w.cues.rule at = (least_agrees w.cues sound (h + n) hi last at within).0 above in
        and_right (leb h (w.cues.rule at)) _ (le-ltb _ _ late)

    pub in_time : f ≤ k → k < u → in_play w h n (get_or book k d) ≡ true
    in_time a b =
        let above = from.above k d a inside in
        let below = to.below k d b in
        let reached : h ≤ w.cues.rule at = (least_agrees w.cues sound h lo first at within).0 above in
        let agree = (least_agrees w.cues sound (h + n) hi last at within).1 in
        let before : w.cues.rule at < h + n = elim (cases_lt (w.cues.rule at) (h + n)) [ inl x ↦ x | inr x ↦ absurd (let y = agree x in omega arith) ] in
        and_from _ _ (le-leb _ _ reached) (lt-ltb _ _ before)

  pub crossed_row : filter (in_play w h n) book ≡ between f u book
  crossed_row =
      let o = ordered in
      let i = to.inside in
      kept_row (in_play w h n) book f (u - f) (omega arith)
      (λ k d l. too_early k d (omega arith) l)
      (λ k d a b. in_time k d (omega arith) a (omega arith))
      (λ k d a b. too_late k d b (omega arith))

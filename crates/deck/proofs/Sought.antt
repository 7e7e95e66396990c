-- The cues on a sample are the row of a block of that sample alone; the first of them is found, or there is none.
-- Assumes nothing.
use Rattle.std.proofs.Common.{◌≡◌, ℕ, zero, suc, ◌+◌, ◌<◌, ◌≤◌, Bool, true, false, cond, ltb, leb, List, [], ◌∷◌, length, get_or, Some, None, filter, Option, sym, refl, ap, ◌∙◌, subst, inl, inr, arith}
use Rattle.std.proofs.ByRecursion.{all_kept_by, All-from_get_or, All-get_or}
use Rattle.std.proofs.lemmas.Bool.{and_parts, and_from, and_left, le-leb, lt-leb, lt-ltb, leb-true, ltb-true, eq-eqb, both_ways, cases_lt, cond-true}
use Rattle.std.specs.Option.{MatchOption, IsSomeAnd, option_and_then, option_map, option_to_list}
use Rattle.std.specs.List.{AllByRecursion}
use Rattle.timebase.specs.Meaning.{Sound, Least}
use Rattle.book.specs.declared.cue.Cue.{Cue}
use Rattle.book.specs.Cues.{numbered, Splits}
use Rattle.history.specs.declared.call.Call.{Call}
use Rattle.history.specs.World.{World, sample_of}
use Rattle.history.specs.Accepted.{stands, stands_on}
use Rattle.history.specs.Contents.{cue_of, book_of, in_play}
use Rattle.history.proofs.Kept.{Good, Kept}
use Rattle.history.proofs.Standing.{found, sample_good}
use Rattle.deck.proofs.Ranges.{too_early, too_late, in_time}

-- a block of the sample s alone crosses s and no other
only_sample : {V W : Type 0} (w : World V W) (s : ℕ) (x : Cue V) → in_play w s 1 x ≡ true → w.cues.rule x.position ≡ s
only_sample w s x e =
    let p = and_parts (leb s (w.cues.rule x.position)) (ltb (w.cues.rule x.position) (s + 1)) e in
    omega (arith, leb-true s (w.cues.rule x.position) p.0, ltb-true (w.cues.rule x.position) (s + 1) p.1)

its_sample : {V W : Type 0} (w : World V W) (s : ℕ) (x : Cue V) → w.cues.rule x.position ≡ s → in_play w s 1 x ≡ true
its_sample w s x e =
    let y : ℕ = w.cues.rule x.position in
    and_from (leb s y) (ltb y (s + 1)) (le-leb s y (omega arith)) (lt-ltb y (s + 1) (omega arith))

-- what holds of all that a test keeps holds at each place that passes it
at_kept : {X : Type 0} (t : X → Bool) (P : X → Type 0) (xs : List X) (k : ℕ) (d : X) → k < length xs → t (get_or xs k d) ≡ true
    → AllByRecursion P (filter t xs) → P (get_or xs k d)
at_kept t P [] k d inside is all = absurd (omega arith)
at_kept t P (x ∷ xs) zero d inside is all = (subst (AllByRecursion P) (cond-true (t x) (x ∷ filter t xs) (filter t xs) is) all).0
at_kept t P (x ∷ xs) (suc k) d inside is all = at_kept t P xs k d (omega arith) is (rest (t x) all)
  where
    rest : (b : Bool) → AllByRecursion P (cond b (x ∷ filter t xs) (filter t xs)) → AllByRecursion P (filter t xs)
    rest true h = h.1
    rest false h = h

module _ {V W : Type 0} (w : World V W) (a : List (Call V)) (k : Kept V W w a) (s : ℕ) where
  own_cue : (c : ℕ) (o : Option V) → stands c a ≡ o → AllByRecursion (λ x. stands c a ≡ Some x.at) (option_to_list (option_map (cue_of w c) o))
  own_cue c None is = tt
  own_cue c (Some v) is = (is, tt)

  -- a cue of the book on the sample stands there
  pub on_sample : (i : ℕ) (d : Cue V) → i < length (book_of w a) → in_play w s 1 (get_or (book_of w a) i d) ≡ true
      → stands_on w (get_or (book_of w a) i d).number a ≡ Some s
  on_sample i d inside crossed =
      let x : Cue V = get_or (book_of w a) i d in
      let good : Good V W w x = All-get_or (Good V W w) (book_of w a) i d inside k.good in
      let c : ℕ = x.number in
      let own : AllByRecursion (λ y. stands c a ≡ Some y.at) (filter (numbered c) (book_of w a))
      = subst (AllByRecursion (λ y. stands c a ≡ Some y.at)) (sym (k.only c)) (own_cue c (stands c a) refl) in
      let is : stands c a ≡ Some x.at = at_kept (numbered c) (λ y. stands c a ≡ Some y.at) (book_of w a) i d inside (eq-eqb c c refl) own in
      ap (λ o. option_and_then (sample_of w) o) is ∙ sample_good w x good ∙ ap Some (only_sample w s x crossed)

  -- where no cue of the book is on the sample, no number stands there
  pub none_on : AllByRecursion (λ x. in_play w s 1 x ≡ false) (book_of w a) → (c : ℕ) → stands_on w c a ≡ Some s → ⊥
  none_on none c on = by_value (stands c a) refl
    where
      by_value : (o : Option V) → stands c a ≡ o → ⊥
      by_value None is = let z : None ≡ Some s = sym (ap (λ o. option_and_then (sample_of w) o) is) ∙ on in cc
      by_value (Some v) is =
          let good : Good V W w (cue_of w c v) = found w a k c v is in
          let one : filter (numbered c) (book_of w a) ≡ cue_of w c v ∷ [] = k.only c ∙ ap (λ o. option_to_list (option_map (cue_of w c) o)) is in
          let off : in_play w s 1 (cue_of w c v) ≡ false = (subst (AllByRecursion (λ x. in_play w s 1 x ≡ false)) one (all_kept_by (numbered c) (λ x. in_play w s 1 x ≡ false) (book_of w a) none)).0 in
          let at : Some (w.cues.rule (cue_of w c v).position) ≡ Some s = sym (sample_good w (cue_of w c v) good) ∙ sym (ap (λ o. option_and_then (sample_of w) o) is) ∙ on in
          both_ways (in_play w s 1 (cue_of w c v)) off (its_sample w s (cue_of w c v) (cc))

  -- the row of the sample, from what the halvings answer
  module _ (sound : Sound w.cues) (lo hi f u : ℕ) (first : Least w.cues s lo) (last : Least w.cues (s + 1) hi)
      (from : Splits V (book_of w a) lo f) (to : Splits V (book_of w a) hi u) where
    pub first_found : (d : Cue V) → f < u → stands_on w (get_or (book_of w a) f d).number a ≡ Some s
    first_found d some =
        let i = to.inside in
        on_sample f d (omega arith) (in_time w sound (book_of w a) k.good s 1 lo hi f u first last from to f d (omega arith) (omega arith) some)

    pub none_found : u ≤ f → (c : ℕ) → stands_on w c a ≡ Some s → ⊥
    none_found empty = none_on (every_off (book_of w a) refl)
      where
        every_off : (cs : List (Cue V)) → book_of w a ≡ cs → AllByRecursion (λ x. in_play w s 1 x ≡ false) (book_of w a)
        every_off [] is = rw is tt
        every_off (x ∷ xs) is = All-from_get_or (λ y. in_play w s 1 y ≡ false) (book_of w a) x (λ i inside. off i x inside)
          where
            off : (i : ℕ) (d : Cue V) → i < length (book_of w a) → in_play w s 1 (get_or (book_of w a) i d) ≡ false
            off i d inside = elim (cases_lt i f) [
              | inl l ↦ too_early w sound (book_of w a) k.good s 1 lo hi f u first last from to i d inside l
              | inr l ↦ too_late w sound (book_of w a) k.good s 1 lo hi f u first last from to i d inside (omega arith)
            ]

  -- past the last sample no number stands
  pub none_past : Sound w.cues → 68719476735 < s → (c : ℕ) → stands_on w c a ≡ Some s → ⊥
  none_past sound past = none_on (all_off (book_of w a) k.good)
    where
      all_off : (xs : List (Cue V)) → AllByRecursion (Good V W w) xs → AllByRecursion (λ x. in_play w s 1 x ≡ false) xs
      all_off [] good = tt
      all_off (x ∷ xs) good = (
        (let within = sound.within x.position good.0.inside in and_left (leb s (w.cues.rule x.position)) _ (lt-leb _ _ (omega arith))),
        all_off xs good.1,
      )

-- the number of the cue at a place of the book
pub number_found : {V : Type 0} (cs : List (Cue V)) (i : ℕ) (o : Option (Cue V)) (r : Option ℕ) (P : Cue V → ℕ → Type 0)
    → MatchOption o (length cs ≤ i) (λ x. (i < length cs) × ((d : Cue V) → x ≡ get_or cs i d)) → MatchOption o (r ≡ None) (λ x. IsSomeAnd r (P x))
    → ((x : Cue V) (n : ℕ) → P x n → n ≡ x.number) → i < length cs → (d : Cue V) → r ≡ Some (get_or cs i d).number
number_found cs i None r P at none same within d = absurd (omega arith)
number_found cs i (Some x) None P at some same within d = absurd some
number_found cs i (Some x) (Some n) P at some same within d = ap Some (same x n some ∙ ap (λ y. y.number) (at.1 d))

-- Counting the numbers that stand is counting the cues of the book. Assumes nothing.
use Rattle.std.proofs.Common.{◌≡◌, ℕ, ◌<◌, Bool, true, false, ltb, List, [], ◌∷◌, length, is_some, Some, None, filter, Option, unwrap_or, refl, ap, ◌∙◌, subst, lt-ltb}
use Rattle.std.proofs.lemmas.Bool.{cond-true}
use Rattle.std.proofs.ByRecursion.{all_kept_by}
use Rattle.std.specs.Option.{option_and_then, option_map, option_to_list}
use Rattle.std.specs.Result.{result_ok}
use Rattle.std.specs.List.{AllByRecursion}
use Rattle.refusal.specs.declared.Refusal.{Refusal}
use Rattle.timebase.specs.Meaning.{placed}
use Rattle.book.specs.declared.cue.Cue.{Cue}
use Rattle.book.specs.Cues.{numbered}
use Rattle.history.specs.declared.call.Call.{Call}
use Rattle.history.specs.World.{World, sample_of}
use Rattle.history.specs.Accepted.{head, stands, holds_of, numbers_in, first, crosses, crossed, in_block, numbers}
use Rattle.history.specs.Contents.{cue_of, book_of, in_play}
use Rattle.history.proofs.Kept.{Good, Kept}
use Rattle.history.proofs.Numbers.{tally_same, tally_cues}

pub passed : (b : Bool) (e : Refusal) (checks : List (Bool × Refusal)) → first ((b, e) ∷ checks) ≡ None → (b ≡ false) × (first checks ≡ None)
passed true e checks h = absurd (cc)
passed false e checks h = (refl, h)

pub passed_two : (a b : Bool) (e f : Refusal) → first ((a, e) ∷ (b, f) ∷ []) ≡ None → (a ≡ false) × (b ≡ false)
passed_two a b e f h = let p = passed a e ((b, f) ∷ []) h in (p.0, (passed b f [] p.1).0)

pub passed_five : (a b c d e : Bool) (q r s t u : Refusal) → first ((a, q) ∷ (b, r) ∷ (c, s) ∷ (d, t) ∷ (e, u) ∷ []) ≡ None
    → (a ≡ false) × (b ≡ false) × (c ≡ false) × (d ≡ false) × (e ≡ false)
passed_five a b c d e q r s t u h =
    let one = passed a q ((b, r) ∷ (c, s) ∷ (d, t) ∷ (e, u) ∷ []) h in
    let two = passed b r ((c, s) ∷ (d, t) ∷ (e, u) ∷ []) one.1 in
    let three = passed c s ((d, t) ∷ (e, u) ∷ []) two.1 in
    let four = passed_two d e t u three.1 in
    (one.0, two.0, three.0, four.0, four.1)

pub some_of : {A : Type 0} (o : Option A) (d : A) → is_some o ≡ true → o ≡ Some (unwrap_or o d)
some_of None d h = absurd (cc)
some_of (Some x) d h = refl

pub none_of : {A : Type 0} (o : Option A) → is_some o ≡ false → o ≡ None
none_of None h = refl
none_of (Some x) h = absurd (cc)

keep_all : {X : Type 0} (xs : List X) → filter (λ x. true) xs ≡ xs
keep_all [] = refl
keep_all (x ∷ xs) = ap (λ ys. x ∷ ys) (keep_all xs)

all_few : {V L : Type 0} (w : World V L) (xs : List (Cue V)) → AllByRecursion (Good V L w) xs → AllByRecursion (λ x. x.number < numbers) xs
all_few w [] all = tt
all_few w (x ∷ xs) all = (all.0.few, all_few w xs all.1)

module _ {V L : Type 0} (w : World V L) where
  placed_in : (p : ℕ) → p < w.cues.len → result_ok (placed w.cues p) ≡ Some (w.cues.rule p)
  placed_in p h = ap result_ok (cond-true (ltb p w.cues.len) _ _ (lt-ltb p w.cues.len h))

  -- a good cue falls on the rule's sample
  pub sample_good : (x : Cue V) → Good V L w x → sample_of w x.at ≡ Some (w.cues.rule x.position)
  sample_good x good = ap (λ o. option_and_then (λ p. result_ok (placed w.cues p)) o) good.valid ∙ placed_in x.position good.inside

  module _ (a : List (Call V)) (k : Kept V L w a) where
    -- the cue of a number that stands is a good one
    pub found : (c : ℕ) (v : V) → stands c a ≡ Some v → Good V L w (cue_of w c v)
    found c v is =
        let one : filter (numbered c) (book_of w a) ≡ cue_of w c v ∷ [] = k.only c ∙ ap (λ o. option_to_list (option_map (cue_of w c) o)) is in
        let P : List (Cue V) → Type 0 = λ ys. AllByRecursion (Good V L w) ys in
        (subst P one (all_kept_by (numbered c) (Good V L w) (book_of w a) k.good)).0

    abbrev cue_at : ℕ → Option (Cue V)
    cue_at c = option_map (cue_of w c) (stands c a)

    crosses_cue : (n c : ℕ) (o : Option V) → stands c a ≡ o → holds_of (option_and_then (sample_of w) o) (in_block (head a) n) ≡ holds_of (option_map (cue_of w c) o) (in_play w (head a) n)
    crosses_cue n c None is = refl
    crosses_cue n c (Some v) is = ap (λ o. holds_of o (in_block (head a) n)) (sample_good (cue_of w c v) (found c v is))

    pub crossed_is : (n : ℕ) → crossed w a n ≡ length (filter (in_play w (head a) n) (book_of w a))
    crossed_is n =
        tally_same (crosses w a n) (λ c. holds_of (cue_at c) (in_play w (head a) n)) numbers (λ c. crosses_cue n c (stands c a) refl)
        ∙ tally_cues (in_play w (head a) n) cue_at numbers (book_of w a) k.only (all_few w (book_of w a) k.good)

    in_cue : (c : ℕ) (o : Option V) → is_some o ≡ holds_of (option_map (cue_of w c) o) (λ x. true)
    in_cue c None = refl
    in_cue c (Some v) = refl

    pub numbers_in_is : numbers_in a ≡ length (book_of w a)
    numbers_in_is =
        tally_same (λ c. is_some (stands c a)) (λ c. holds_of (cue_at c) (λ x. true)) numbers (λ c. in_cue c (stands c a))
        ∙ tally_cues (λ x. true) cue_at numbers (book_of w a) k.only (all_few w (book_of w a) k.good)
        ∙ ap length (keep_all (book_of w a))

-- Putting cues to the log, one after the other. Assumes nothing.
use Rattle.std.proofs.Common.{◌≡◌, ℕ, zero, suc, ◌+◌, ◌-◌, ◌<◌, ◌≤◌, Bool, true, false, cond, ltb, leb, List, [], ◌∷◌, ◌++◌, map, length, get_or, is_ok, Some, None, Ok, Err, Result, if◌then◌else◌, sym, refl, ap, ◌∙◌, subst, append_assoc, arith, lt-ltb}
use Rattle.std.proofs.Math.Seq.{get_or-append_seam}
use Rattle.std.proofs.lemmas.Bool.{ltb-false, leb-true, leb-false}
use Rattle.std.proofs.lemmas.List.{map-append, length-append, length-map, get_or_append_left}
use Rattle.std.proofs.lemmas.List.Edits.{get_or-between, length-between}
use Rattle.std.specs.List.{All, between}
use Rattle.refusal.specs.declared.Refusal.{Refusal}
use Rattle.refusal.specs.declared.Refusal.TheVariants.{NoFreeLines}
use Rattle.book.specs.declared.cue.Cue.{Cue}
use Rattle.book.specs.declared.cue.Line.{Line}
use Rattle.book.specs.declared.pages.Log.{Log}
use Rattle.book.specs.Held.{lines, log_room}
use Rattle.history.specs.World.{World}
use Rattle.history.specs.Accepted.{end}
use Rattle.history.specs.Contents.{line_of}
use Rattle.deck.specs.Blocks.{block_end, line_for}
use Rattle.deck.specs.Runs.{Appends}

some_step : {X : Type 0} (x y : X) (b : Bool) → Some x ≡ cond b (Some y) None → x ≡ y
some_step x y true e = cc
some_step x y false e = absurd (cc)

none_step : {X : Type 0} (y : X) (b : Bool) → None ≡ cond b (Some y) None → b ≡ false
none_step y true e = absurd (cc)
none_step y false e = refl

-- the line that a cue has, and why one has none
pub line_some : {V W : Type 0} (w : World V W) (x : Cue V) (l : Line W) → Some l ≡ line_for w x → l ≡ line_of w x
line_some w x l e = some_step l (line_of w x) (ltb x.position w.cues.len) e

pub line_none : {V W : Type 0} (w : World V W) (x : Cue V) → None ≡ line_for w x → w.cues.len ≤ x.position
line_none w x e = ltb-false x.position w.cues.len (none_step (line_of w x) (ltb x.position w.cues.len) e)

-- the end that a block has, and why one has none
pub end_some : (h n until : ℕ) → Some until ≡ block_end h n → (until ≡ h + n) × (h + n ≤ end)
end_some h n until e = by_test (leb (h + n) end) refl e
  where
    by_test : (b : Bool) → leb (h + n) end ≡ b → Some until ≡ cond b (Some (h + n)) None → (until ≡ h + n) × (h + n ≤ end)
    by_test true t is = (cc, leb-true (h + n) end t)
    by_test false t is = absurd (cc)

pub end_none : (h n : ℕ) → None ≡ block_end h n → end < h + n
end_none h n e = leb-false (h + n) end (none_step (h + n) (leb (h + n) end) e)

all_one : {X : Type 0} (P : X → Type 0) (x : X) → P x → All P (x ∷ [])
all_one P x h zero d within = h
all_one P x h (suc k) d within = absurd (omega arith)

module _ {V W : Type 0} (w : World V W) where
  abbrev Inside : Cue V → Type 0
  Inside x = x.position < w.cues.len

  -- one cue more
  pub appends_more : (xs : List (Cue V)) (x : Cue V) (a b e : Log W) → log_room b ≡ log_room a → Appends w xs a b → Appends w (x ∷ []) b e → Appends w (xs ++ (x ∷ [])) a e
  appends_more xs x a b e room front last = λ all fits.
      let size = length-append xs (x ∷ []) in
      let good : All Inside xs = λ k d h. subst Inside (get_or_append_left xs (x ∷ []) d k h) (all k d (omega arith)) in
      let own : All Inside (x ∷ []) = all_one Inside x (subst Inside (get_or-append_seam xs x [] x) (all (length xs) x (omega arith))) in
      let first = front good (omega arith) in
      let long : length (lines b) ≡ length (lines a) + length xs = ap length first ∙ length-append (lines a) (map (line_of w) xs) ∙ ap (λ n. length (lines a) + n) (length-map xs (line_of w)) in
      last own (omega arith) ∙ ap (λ ls. ls ++ (line_of w x ∷ [])) first
      ∙ append_assoc (lines a) (map (line_of w) xs) (line_of w x ∷ []) ∙ ap (λ ls. lines a ++ ls) (sym (map-append (line_of w) xs (x ∷ [])))

  -- one cue more, by what the log answers
  pub appends_line : (x : Cue V) (line : Line W) (a e : Log W) (r : Result (Unit {0}) Refusal) → Some line ≡ line_for w x
      → r ≡ (if ltb (length (lines a)) (log_room a) then Ok tt else Err NoFreeLines) → lines e ≡ (if is_ok r then lines a ++ (line ∷ []) else lines a) → Appends w (x ∷ []) a e
  appends_line x line a e r is told after = λ all fits.
      let free : r ≡ Ok tt = told ∙ ap (λ b. if b then Ok tt else Err NoFreeLines) (lt-ltb _ _ (omega arith)) in
      after ∙ ap (λ s. if is_ok s then lines a ++ (line ∷ []) else lines a) free ∙ ap (λ l. lines a ++ (l ∷ [])) (line_some w x line is)

  -- a cue past the pile's end
  pub appends_past : (x : Cue V) (a : Log W) → None ≡ line_for w x → Appends w (x ∷ []) a a
  appends_past x a none = λ all fits. absurd (let past = line_none w x none in let within = all 0 x (omega arith) in omega arith)

  -- the cues of a row of the book
  pub appends_row : (cs row : List (Cue V)) (from to : ℕ) (a e : Log W) → row ≡ between from to cs → Appends w row a e → from ≤ to → to ≤ length cs
      → ((k : ℕ) (d : Cue V) → from ≤ k → k < to → Inside (get_or cs k d)) → length (lines a) + (to - from) ≤ log_room a
      → lines e ≡ lines a ++ map (line_of w) (between from to cs)
  appends_row cs row from to a e is put up inside good fits =
      let long = length-between cs from to inside in
      let all : All Inside row = subst (All Inside) (sym is) (λ k d h. subst Inside (sym (get_or-between cs from to k d (omega arith))) (good (from + k) d (omega arith) (omega arith))) in
      put all (omega (arith, long, ap length is)) ∙ ap (λ ys. lines a ++ map (line_of w) ys) is

-- A play cut into any parts: nothing shows it.
--   parts_pass    where the whole is accepted, so is each part      whole_passes  and the other way
--   lines_add     the whole adds as many lines as the parts
--   same_parts    nothing tells the whole from the parts
--   cutting       the law
-- Assumes nothing.
use Rattle.std.proofs.Common.{◌≡◌, ℕ, ◌+◌, List, [], ◌∷◌, None, sum, sym, ap, ◌∙◌, subst}
use Rattle.std.proofs.lemmas.List.Sums.{sum_by-cons}
use Rattle.timebase.specs.Meaning.{Sound}
use Rattle.history.specs.declared.call.Call.{Call}
use Rattle.history.specs.declared.call.Call.TheVariants.{Play}
use Rattle.history.specs.World.{World}
use Rattle.history.specs.Accepted.{crossed, refusal, with_call, accepted}
use Rattle.history.specs.Laws.{played, AllAccepted, lines_of_all, CuttingAPlayShowsNowhere}
use Rattle.history.proofs.Keeping.{kept_all}
use Rattle.history.proofs.Same.{Same, same_trans, alike}
use Rattle.history.proofs.TwoPlays.{crossed_cut, crossed_none, cut_accepted, joined_accepted, none_accepted, same_none, same_cut}

sum_cons : (n : ℕ) (ns : List ℕ) → sum (n ∷ ns) ≡ n + sum ns
sum_cons n ns = sum_by-cons (λ x. x) n ns

module _ {V L : Type 0} (w : World V L) where
  play_taken : (calls : List (Call V)) (n : ℕ) → refusal w (accepted w calls) (Play n) ≡ None → accepted w (Play n ∷ calls) ≡ Play n ∷ accepted w calls
  play_taken calls n e = ap (λ r. with_call w r (Play n) (accepted w calls)) e

  parts_pass : (parts : List ℕ) (calls : List (Call V)) → refusal w (accepted w calls) (Play (sum parts)) ≡ None → AllAccepted w calls parts
  parts_pass [] calls e = tt
  parts_pass (n ∷ ns) calls e =
      let whole = subst (λ k. refusal w (accepted w calls) (Play k) ≡ None) (sum_cons n ns) e in
      let two = cut_accepted w (accepted w calls) n (sum ns) whole in
      let rest = subst (λ a. refusal w a (Play (sum ns)) ≡ None) (sym (play_taken calls n two.0)) two.1 in
      (two.0, parts_pass ns (Play n ∷ calls) rest)

  lines_add : (parts : List ℕ) (calls : List (Call V)) → AllAccepted w calls parts → crossed w (accepted w calls) (sum parts) ≡ lines_of_all w calls parts
  lines_add [] calls all = crossed_none w (accepted w calls)
  lines_add (n ∷ ns) calls all =
      let rest = ap (λ a. crossed w a (sum ns)) (sym (play_taken calls n all.0)) ∙ lines_add ns (Play n ∷ calls) all.1 in
      ap (crossed w (accepted w calls)) (sum_cons n ns) ∙ crossed_cut w (accepted w calls) n (sum ns) ∙ ap (λ k. crossed w (accepted w calls) n + k) rest

  module _ (sound : Sound w.cues) where
    whole_passes : (parts : List ℕ) (calls : List (Call V)) → AllAccepted w calls parts → refusal w (accepted w calls) (Play (sum parts)) ≡ None
    whole_passes [] calls all = none_accepted w (accepted w calls) (kept_all w calls).ends
    whole_passes (n ∷ ns) calls all =
        let rest = subst (λ a. refusal w a (Play (sum ns)) ≡ None) (play_taken calls n all.0) (whole_passes ns (Play n ∷ calls) all.1) in
        let whole = joined_accepted w (accepted w calls) n (sum ns) all.0 rest in
        subst (λ k. refusal w (accepted w calls) (Play k) ≡ None) (sym (sum_cons n ns)) whole

    same_parts : (parts : List ℕ) (calls : List (Call V)) → AllAccepted w calls parts
        → Same V L w (accepted w (Play (sum parts) ∷ calls)) (accepted w (played parts calls))
    same_parts [] calls all =
        let whole = play_taken calls 0 (whole_passes [] calls all) in
        subst (λ a. Same V L w a (accepted w calls)) (sym whole) (same_none w (accepted w calls))
    same_parts (n ∷ ns) calls all =
        let a = accepted w calls in
        let whole : accepted w (Play (sum (n ∷ ns)) ∷ calls) ≡ Play (n + sum ns) ∷ a =
        play_taken calls (sum (n ∷ ns)) (whole_passes (n ∷ ns) calls all) ∙ ap (λ k. Play k ∷ a) (sum_cons n ns) in
        let two : accepted w (Play (sum ns) ∷ Play n ∷ calls) ≡ Play (sum ns) ∷ Play n ∷ a =
        play_taken (Play n ∷ calls) (sum ns) (whole_passes ns (Play n ∷ calls) all.1) ∙ ap (λ b. Play (sum ns) ∷ b) (play_taken calls n all.0) in
        let cut = same_cut w a sound (kept_all w calls) n (sum ns) in
        let right = subst (λ b. Same V L w (Play (n + sum ns) ∷ a) b) (sym two) cut in
        let both = subst (λ b. Same V L w b (accepted w (Play (sum ns) ∷ Play n ∷ calls))) (sym whole) right in
        same_trans w both (same_parts ns (Play n ∷ calls) all.1)

pub cutting : (V L : Type 0) → CuttingAPlayShowsNowhere V L
cutting V L w sound calls parts = record {
  parts_accepted = parts_pass w parts calls;
  whole_accepted = whole_passes w sound parts calls;
  counts = lines_add w parts calls;
  later = λ all more. alike w (Play (sum parts) ∷ calls) (played parts calls) (same_parts w sound parts calls all) more;
}

use Rattle.std.proofs.Common.{◌≡◌, ◌+◌, [], ◌∷◌, ◌++◌, take, sym, ap, ◌∙◌, subst}
use Rattle.std.proofs.lemmas.List.{take_all, take_more}
use Rattle.book.specs.Held.{log_room}
use Rattle.deck.specs.Runs.{Appends}
use Rattle.deck.proofs.Rows.{appends_more, appends_line, appends_past}
use Rattle.deck.proofs.playing.log_all.Goals.{in-Some, in_default}
use Rattle.deck.proofs.playing.log_all.Goals as goal

pub loop-cue-preserved : goal.loop-cue-preserved
loop-cue-preserved g c =
    let cs = c.args.cues.now in
    let i = c.loop-cue.cue-index in
    let x = c.cue-item.result in
    let before = c.loop-cue.log in
    let after = c.match-line_for.log in
    let grown : take i cs ++ (x ∷ []) ≡ take (i + 1) cs = ap (λ y. take i cs ++ (y ∷ [])) c.cue-item.is ∙ sym (take_more cs i x c.loop-cue-test.true) in (
      elim c.match-line_for.branch [ in-Some b ↦ ap log_room b.log-is ∙ b.append.ensures.room ∙ c.loop-cue.invariant.0 | in_default b ↦ ap log_room b.log-is ∙ c.loop-cue.invariant.0 ],
      λ w cues label.
          let one : Appends w (x ∷ []) before after = elim c.match-line_for.branch [ in-Some b ↦ subst (Appends w (x ∷ []) before) (sym b.log-is) (appends_line w x b.in-Some.line before b.append.new.self b.append.result (b.in-Some.ensures w cues label) b.append.ensures.value b.append.ensures.after) | in_default b ↦ subst (Appends w (x ∷ []) before) (sym b.log-is) (appends_past w x before (b.in_default.ensures w cues label)) ] in
          subst (λ xs. Appends w xs c.args.log.now after) grown
          (appends_more w (take i cs) x c.args.log.now before after c.loop-cue.invariant.0 (c.loop-cue.invariant.1 w cues label) one),
    )

pub returns-clause-lines : goal.returns-clause-lines
returns-clause-lines g c =
    let cs = c.args.cues.now in
    λ w cues label. subst (λ xs. Appends w xs c.args.log.now c.loop-cue.log) (take_all c.loop-cue.cue-index cs c.loop-cue-test.false) (c.loop-cue.invariant.1 w cues label)

use Rattle.std.proofs.Common.{◌≡◌, ◌+◌, [], ◌∷◌, ◌++◌, length, ◌∙◌, subst, append_assoc, arith, length-append}
use borrow.Author.Tests.{true-leb}
use Rattle.text.specs.Decimal.{digits}
use Rattle.text.specs.Lines.{mark_text}
use Rattle.text.specs.Writer.{Appends}
use Rattle.text.proofs.Chains.{both}
use Rattle.text.proofs.line.write_fields.Goals as goal

pub returns : goal.returns
returns g c =
    let line = c.args.line.now in
    let t = digits line.cue ++ (32 ∷ []) in
    let u = digits line.sample ++ (32 ∷ []) in
    let v = mark_text (g.F.TextForm.text c.args.form.now) line.label in
    let w = c.args.w.now in
    let room = true-leb _ _ c.if-not-has_room.ensures in
    let a : length t ≡ length (digits line.cue) + 1 = length-append (digits line.cue) (32 ∷ []) in
    let b : length u ≡ length (digits line.sample) + 1 = length-append (digits line.sample) (32 ∷ []) in
    let d = length-append t u in
    let e = length-append (t ++ u) v in
    let two = both t u w c.number_then.new.self c.number_then-2.new.self c.number_then.result c.number_then-2.result
    c.number_then.ensures c.number_then-2.ensures (omega arith) in
    let three = both (t ++ u) v w c.number_then-2.new.self c.write_mark.new.w c.number_then-2.result c.write_mark.result two
    (c.write_mark.ensures.taken c.requires) (omega arith) in
    let four = both ((t ++ u) ++ v) (10 ∷ []) w c.write_mark.new.w c.byte.new.self c.write_mark.result c.byte.result three
    c.byte.ensures (omega arith) in
    subst (λ x. Appends x w c.byte.new.self c.byte.result)
    (append_assoc (t ++ u) v (10 ∷ []) ∙ append_assoc t u (v ++ (10 ∷ []))) four

use Rattle.std.proofs.Common.{[], ◌∷◌, ◌++◌, subst, append_assoc, arith, length-append}
use borrow.Author.Tests.{true-leb}
use Rattle.text.specs.Decimal.{digits}
use Rattle.text.specs.Writer.{Appends}
use Rattle.text.proofs.Chains.{both}
use Rattle.operator.proofs.answer.write_number.Goals as goal

pub returns-clause-value : goal.returns-clause-value
returns-clause-value c =
    let room = true-leb _ _ c.if-not-has_room.ensures in
    let lead = c.args.lead.now in
    let e = length-append lead (digits c.args.n) in
    let front = both lead (digits c.args.n) c.args.w.now c.word.new.self c.number.new.self c.word.result c.number.result
    c.word.ensures c.number.ensures (omega arith) in
    let line = both (lead ++ digits c.args.n) (10 ∷ []) c.args.w.now c.number.new.self c.byte.new.self c.number.result c.byte.result
    front c.byte.ensures (omega arith) in
    subst (λ t. Appends t c.args.w.now c.byte.new.self c.byte.result) (append_assoc lead (digits c.args.n) (10 ∷ [])) line

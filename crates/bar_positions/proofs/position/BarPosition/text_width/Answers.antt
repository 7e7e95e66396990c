use Rattle.std.proofs.Common.{arith}
use Rattle.std.proofs.lemmas.Fmt.{length-decimal-le}
use Rattle.bar_positions.proofs.Threes.{text_word}
use Rattle.bar_positions.proofs.position.BarPosition.text_width.Goals as goal

pub returns-clause-short : goal.returns-clause-short
returns-clause-short c =
    let bar = length-decimal-le 5 c.from.result (omega arith) (omega arith) (omega arith) in
    let beat = length-decimal-le 3 c.from-2.result (omega arith) (omega arith) (omega arith) in
    let tick = length-decimal-le 10 c.from-3.result (omega arith) (omega arith) (omega arith) in
    omega arith

pub returns-clause-word : goal.returns-clause-word
returns-clause-word c = text_word c.args.self (omega arith) (omega arith) (omega arith)

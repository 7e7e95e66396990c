use Rattle.std.proofs.Common.{◌<◌, length, rules, arith, false-eqb}
use Rattle.text.proofs.Figures.{plain_of}
use Rattle.text.proofs.Reading.{numbers}
use Rattle.text.proofs.decimal.read_number.Goals as goal

pub returns : goal.returns
returns c =
    let word = c.args.word.now in
    let some : 0 < length word = omega (arith, false-eqb (length word) 0 c.if-is_empty.ensures) in
    plain_of word c.try_fold.result some c.if-word-gt-MOST_DIGITS.false
    (numbers _ _ _ (λ f n x v q k. search rules) word _ _ _ c.try_fold.result c.iter.ensures.rest c.try_fold.ensures.ran)

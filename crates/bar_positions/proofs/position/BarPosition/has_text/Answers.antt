use Rattle.std.proofs.Common.{◌≤◌, length, is_ok, ap, ◌∙◌, arith}
use Rattle.std.proofs.lemmas.Bool.{both_ways}
use Rattle.bar_positions.specs.Spellings.{position_text}
use Rattle.bar_positions.proofs.Threes.{text_short, alone}
use Rattle.bar_positions.proofs.position.BarPosition.has_text.Goals as goal

pub returns-else-is_ok : goal.returns-else-is_ok
returns-else-is_ok c =
    let v = c.args.self in
    let few = text_short v (omega arith) (omega arith) (omega arith) in
    let room : length (position_text v) ≤ length c.new-w.result.out.now = rw c.new-w.ensures.buffer few in
    let own = alone (position_text v) c.new-w.result c.write_text.new.w c.write_text.result
    c.new-w.ensures.len room c.write_text.ensures in
    absurd (both_ways c.is_ok.result c.if-is_ok.false (c.is_ok.ensures.value ∙ ap is_ok own.0))

use Rattle.std.proofs.Common.{arith}
use Rattle.std.proofs.lemmas.Grind.{common_steps}
use Rattle.std.proofs.lemmas.Str.{IsCharBoundary-after_ascii}
use Rattle.std.proofs.lemmas.List.Sums.{position_or_len_is}
use Rattle.std.proofs.lemmas.List.Splits.{slice_split_first, slice_split_none}
use Rattle.operator.proofs.words.cut.Goals as goal

pub range_from-requires : goal.range_from-requires
range_from-requires c = grind (arith, common_steps, IsCharBoundary-after_ascii)

pub returns-in-Some : goal.returns-in-Some
returns-in-Some c = grind (arith, common_steps, slice_split_first, position_or_len_is)

pub returns-in-None : goal.returns-in-None
returns-in-None c = grind (arith, common_steps, slice_split_none)

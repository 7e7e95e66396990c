use Rattle.std.proofs.Common.{◌≡◌, min, length, ap, ◌∙◌, arith}
use Rattle.std.proofs.lemmas.List.{length-take}
use Rattle.book.proofs.Moves.{after_remove}
use Rattle.book.proofs.lent.Lent.remove.Goals as goal

pub returns-clause-after : goal.returns-clause-after
returns-clause-after g c =
    let xs = c.args.self.now.memory.now in
    let len = c.args.self.now.len in
    let n = length c.held-n.result.now in
    let capped : n ≡ min len (length xs) = ap length c.held-n.ensures ∙ length-take len xs in
    let used = length-take len xs in
    after_remove xs len n capped c.args.i _ (omega (arith, used, c.requires)) c.copy_within.ensures.after

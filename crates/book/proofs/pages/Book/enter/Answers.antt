use Rattle.std.proofs.Common.{ap, ◌∙◌, arith}
use Rattle.std.proofs.lemmas.List.Sums.{prefix_len-le-length}
use Rattle.std.specs.List.{insert}
use Rattle.book.specs.Cues.{earlier}
use Rattle.book.specs.Held.{cues}
use Rattle.book.proofs.Found.{entered_at}
use Rattle.book.proofs.pages.Book.enter.Goals as goal

pub insert-requires : goal.insert-requires
insert-requires g c = let le = prefix_len-le-length (λ x. earlier x c.args.cue) (cues c.args.self.now) in (omega arith, (omega arith, omega arith))

pub returns-clause-after : goal.returns-clause-after
returns-clause-after g c =
    let x = c.args.cue in
    let cs = cues c.args.self.now in
    c.insert.ensures.after ∙ ap (λ i. insert cs i x) c.entry_of-i.ensures ∙ entered_at x cs

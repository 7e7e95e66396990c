use Rattle.std.proofs.Common.{◌-◌, length, get_or, ap, ◌∙◌, arith}
use Rattle.tempo.specs.Micros.{no_row, stretch}
use Rattle.tempo.proofs.Summing.{Ending, ending, whole_sum}
use Rattle.tempo.proofs.draft.Draft.end_micros.Goals as goal

pub whole_stretches-requires : goal.whole_stretches-requires
whole_stretches-requires c =
    let rows = c.args.self.now.rows.now in
    let e : Ending rows c.args.self.now.last = ending rows c.args.self.now.last c.requires in
    omega (arith, whole_sum rows e.some, e.small)

pub overflow_add-result : goal.overflow_add-result
overflow_add-result c =
    let rows = c.args.self.now.rows.now in
    let e : Ending rows c.args.self.now.last = ending rows c.args.self.now.last c.requires in
    let at = c.stretch.ensures ∙ ap (stretch (get_or rows (length rows - 1) no_row)) c.from.ensures in
    record { fits = omega (arith, c.whole_stretches.ensures, whole_sum rows e.some, at, e.small, e.short) }

pub returns : goal.returns
returns c =
    let rows = c.args.self.now.rows.now in
    let e : Ending rows c.args.self.now.last = ending rows c.args.self.now.last c.requires in
    let at = c.stretch.ensures ∙ ap (stretch (get_or rows (length rows - 1) no_row)) c.from.ensures in
    omega (arith, c.whole_stretches.ensures, whole_sum rows e.some, at, e.sum)

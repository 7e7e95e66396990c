use Rattle.std.proofs.Common.{ap, ◌+◌, ◌∙◌, arith}
use Rattle.tempo.specs.Maps.{samples_of}
use Rattle.tempo.specs.Held.{in_day}
use Rattle.tempo.proofs.Answering.{tick_value}
use Rattle.tempo.proofs.map.TempoMap.sample_at.Goals as goal

pub sample_after-requires : goal.sample_after-requires
sample_after-requires c =
    let m = c.args.self.now in
    let held = c.row_of_tick-held.ensures in
    let at = tick_value m held.0 c.args.p c.row_of_tick-held.result held.1 held.2 in
    omega (arith, at, c.stretch.ensures, in_day m c.args.p c.requires)

pub returns : goal.returns
returns c =
    let m = c.args.self.now in
    let held = c.row_of_tick-held.ensures in
    let at = tick_value m held.0 c.args.p c.row_of_tick-held.result held.1 held.2 in
    c.sample_after.ensures
    ∙ ap (samples_of m) (ap (λ x. c.row_of_tick-held.result.sum + x) c.stretch.ensures ∙ at)

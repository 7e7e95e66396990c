use Rattle.std.proofs.Common.{◌≡◌, ◌-◌, ◌^◌, ◌<◌, ◌≤◌, min, ap, arith}
use Rattle.timebase.specs.Meaning.{last_sample}
use Rattle.timebase.specs.Scale.{scaled}
use Rattle.timebase.specs.Ratios.{ratio_within}
use Rattle.timebase.proofs.ratio.Ratio.new.Goals as goal
use Rattle.timebase.proofs.ratio.Ratio.new.Goals.{else-len-gt0-via-then-len-gt0+else-up-gt-LAST_SAMPLE, else-len-gt0-via-else-len-gt0}

pub invariant_of-result-clause-within : goal.invariant_of-result-clause-within
invariant_of-result-clause-within c =
    let f = c.in_ok-step.step in
    let end = c.args.len - 1 in
    let capped : min end (2 ^ 36) ≡ end = omega arith in
    let last : 0 < c.args.len → scaled f.n f.d end ≤ last_sample =
    λ some. elim c.else-len-gt0.branch [
      | else-len-gt0-via-then-len-gt0+else-up-gt-LAST_SAMPLE w ↦ (let same = ap (scaled f.n f.d) capped in let up = w.up.ensures in omega arith)
      | else-len-gt0-via-else-len-gt0 w ↦ absurd (omega (arith, w.if-len-gt0.false))
    ] in
    ratio_within f.n f.d c.args.len f.some f.whole last

use Rattle.std.proofs.Common.{◌≡◌, ◌+◌, ◌-◌, vec_items, refl, ap, ◌∙◌, arith}
use Rattle.tempo.specs.Micros.{micros_before}
use Rattle.tempo.proofs.Summing.{Turn, turn, summed_more}
use Rattle.tempo.proofs.sums.summed_rows.Goals as goal

pub sum_after-sum-requires-clause-later : goal.sum_after-sum-requires-clause-later
sum_after-sum-requires-clause-later c =
    let t : Turn c.args.rows.now c.loop-i.i = turn c.args.rows.now c.requires.0 c.loop-i.i c.requires.1 (omega arith) (omega arith) in
    t.later

pub sum_after-sum-requires-clause-fits : goal.sum_after-sum-requires-clause-fits
sum_after-sum-requires-clause-fits c =
    let t : Turn c.args.rows.now c.loop-i.i = turn c.args.rows.now c.requires.0 c.loop-i.i c.requires.1 (omega arith) (omega arith) in
    omega (arith, c.loop-i.invariant.sum, t.sum, t.small)

pub loop-i-preserved : goal.loop-i-preserved
loop-i-preserved c =
    let rows = c.args.rows.now in
    let i = c.loop-i.i in
    let t : Turn rows i = turn rows c.requires.0 i c.requires.1 (omega arith) (omega arith) in
    let here : i ≡ i + 1 - 1 = omega arith in
    let sum : c.sum_after-sum.result ≡ micros_before rows i =
    omega (arith, c.sum_after-sum.ensures, c.loop-i.invariant.sum, t.sum) in
    record {
      summed = summed_more rows (vec_items c.loop-i.summed) _ i _ c.sum_after-sum.result (omega arith) c.loop-i.invariant.summed refl
          sum c.push_reserved-in-loop-i.ensures.items;
      room = omega (arith, c.loop-i.invariant.room, c.push_reserved-in-loop-i.ensures.capacity);
      sum = sum ∙ ap (micros_before rows) here;
    }

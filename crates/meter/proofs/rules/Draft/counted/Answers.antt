use Rattle.std.proofs.Common.{◌≡◌, ◌+◌, ◌-◌, ◌∙◌, ◌<◌, length, get_or, refl, sym, ap, arith}
use Rattle.std.proofs.lemmas.List.{length-set}
use Rattle.rows.proofs.Adding.{none_before}
use Rattle.meter.specs.BarLines.{no_row, gap_of, bars_before}
use Rattle.meter.proofs.Counting.{turn, rows_on, counts_on}
use Rattle.meter.proofs.rules.Draft.counted.Goals as goal

pub loop-i-init : goal.loop-i-init
loop-i-init c =
    record {
      room = refl;
      turn = λ h. turn c.args.self.now.division c.args.self.now.rows.now 0 _ c.requires h refl;
      before = sym (none_before (gap_of c.args.self.now.division) c.args.self.now.rows.now);
      rows = refl;
      counts = λ k h. absurd (omega arith);
    }

pub loop-i-preserved : goal.loop-i-preserved
loop-i-preserved c =
    let rows = c.args.self.now.rows.now in
    let here : c.loop-i.i ≡ c.loop-i.i + 1 - 1 = omega arith in
    let count : c.loop-i.last.before + c.bars_to.result ≡ bars_before c.args.self.now.division rows c.loop-i.i =
    omega (arith, (c.loop-i.invariant.turn c.loop-i-test.true).sum) in
    let room : c.loop-i.i < length c.loop-i.held = omega (arith, (c.loop-i.invariant.turn c.loop-i-test.true).room) in
    record {
      room = length-set _ _ _ ∙ c.loop-i.invariant.room;
      turn = λ h. turn c.args.self.now.division rows (c.loop-i.i + 1) _ c.requires h (ap (λ k. get_or rows k no_row) here);
      before = count ∙ ap (bars_before c.args.self.now.division rows) here;
      rows = rows_on rows c.loop-i.held c.loop-i.i _ c.loop-i-test.true room refl c.loop-i.invariant.rows;
      counts = counts_on c.args.self.now.division rows c.loop-i.held c.loop-i.i _ room count c.loop-i.invariant.counts;
    }

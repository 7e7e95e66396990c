use Rattle.std.proofs.Common.{◌≡◌, ℕ, ◌<◌, get_or, subst, arith}
use Rattle.rows.specs.Begun.{Begun}
use Rattle.rows.proofs.Counted.{counted}
use Rattle.rows.proofs.halving.begun_by.Goals as goal

pub returns : goal.returns
returns g c =
    let rows = c.args.rows.now in
    let begins = g.R.Row.begins in
    let same : c.loop-low.high ≡ c.loop-low.low = omega (arith, c.loop-low.invariant.0) in
    let parted : Begun begins rows c.args.x c.loop-low.low = record {
      inside = omega (arith, c.loop-low.invariant.0, c.loop-low.invariant.1);
      last = c.loop-low.invariant.2;
      next = λ d h. subst (λ (k : ℕ). c.args.x < begins (get_or rows k d)) same (c.loop-low.invariant.3 d (omega arith));
    } in
    record { parted = parted; value = counted begins c.args.x rows c.loop-low.low parted }

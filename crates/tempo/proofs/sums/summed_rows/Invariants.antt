use Rattle.std.proofs.Common.{◌≡◌, ◌-◌, ◌≤◌, length, vec_items, vec_capacity}
use Rattle.tempo.specs.Micros.{micros_before}
use Rattle.tempo.proofs.Summing.{SummedTo}
use Rattle.tempo.proofs.sums.summed_rows.Given as goal

abbrev pub invariant-loop-i : goal.invariant-loop-i
invariant-loop-i l =
    record {
      summed : SummedTo l.rows (vec_items l.summed) l.i;
      room : length l.rows ≤ vec_capacity l.summed;
      sum : l.sum ≡ micros_before l.rows (l.i - 1);
    }

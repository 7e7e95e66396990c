use Rattle.std.proofs.Common.{◌≡◌, ℕ, ◌-◌, ◌<◌, length, get_or, take}
use Rattle.meter.specs.BarLines.{bars_before}
use Rattle.meter.specs.Counted.{no_counted, rows_in}
use Rattle.meter.proofs.Counting.{Turn}
use Rattle.meter.proofs.rules.Draft.counted.Given as goal

-- the last row is the one before this turn's, but for the first turn, where it is the first row itself
abbrev pub invariant-loop-i : goal.invariant-loop-i
invariant-loop-i l =
    record {
      room : length l.held ≡ 64;
      turn : l.i < length l.self.rows.now → Turn l.self.division l.self.rows.now l.i l.last.row;
      before : l.last.before ≡ bars_before l.self.division l.self.rows.now (l.i - 1);
      rows : rows_in l.i l.held ≡ take l.i l.self.rows.now;
      counts : (k : ℕ) → k < l.i → (get_or l.held k no_counted).before ≡ bars_before l.self.division l.self.rows.now k;
    }

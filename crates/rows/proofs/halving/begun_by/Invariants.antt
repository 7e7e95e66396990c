use Rattle.std.proofs.Common.{◌≡◌, ℕ, ◌+◌, ◌-◌, ◌<◌, ◌≤◌, length, get_or}
use Rattle.rows.proofs.halving.begun_by.Given as goal

abbrev pub invariant-loop-low : goal.invariant-loop-low
invariant-loop-low g l =
    (l.low ≤ l.high) × (l.high ≤ length l.rows)
    × ((i : ℕ) (d : g.row.R.Denot) → i + 1 ≡ l.low → g.R.Row.begins (get_or l.rows i d) ≤ l.x)
    × ((d : g.row.R.Denot) → l.high < length l.rows → l.x < g.R.Row.begins (get_or l.rows l.high d))

abbrev pub decreases-loop-low : goal.decreases-loop-low
decreases-loop-low g l = l.high - l.low

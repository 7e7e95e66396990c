-- Where bars begin, by the rows of a meter table.
--   no_row       stands where there is no row; no table has one
--   gap_of       the bars of a row before the next row
--   bar_from     the tick at which bar p begins, counted from 0 at a row, by that row and those after it
--   bar_start    the same by a whole table: the tick at which bar p + 1 of the show begins
--   bars_before  the bars before row i of a table
--   bars_begun   the bars that begin before tick t; no more than t, since a bar has a tick at least
--   tick_of      where a row begins
--   row_at       the last row of a table that does not lie past tick t: its meter is current there
--   FirstAt      r is the least argument at which f is at least t
-- Assumes nothing.
use Rattle.std.specs.Prelude.{ℕ, ◌+◌, ◌-◌, ◌*◌, ◌/◌, ◌<◌, ◌≤◌, cond, List, [], ◌∷◌, nat_lt}
use Rattle.timebase.specs.Meaning.{tally}
use Rattle.rows.specs.Current.{current}
use Rattle.rows.specs.Sums.{sum_before}
use Rattle.meter.specs.Rules.{bar_of}
use Rattle.meter.specs.declared.row.MeterRow.{MeterRow}

abbrev pub no_row : MeterRow
no_row = record { tick = 0; nn = 0; dd = 0 }

abbrev pub gap_of : ℕ → MeterRow → MeterRow → ℕ
gap_of division r s = (s.tick - r.tick) / bar_of division r

abbrev pub bar_from : ℕ → MeterRow → List MeterRow → ℕ → ℕ
bar_from division r [] p = r.tick + p * bar_of division r
bar_from division r (s ∷ rest) p =
    cond (nat_lt p (gap_of division r s))
    (r.tick + p * bar_of division r)
    (bar_from division s rest (p - gap_of division r s))

abbrev pub bar_start : ℕ → List MeterRow → ℕ → ℕ
bar_start division [] p = p
bar_start division (r ∷ rest) p = bar_from division r rest p

abbrev pub bars_before : ℕ → List MeterRow → ℕ → ℕ
bars_before division rows i = sum_before (gap_of division) rows i

abbrev pub bars_begun : ℕ → List MeterRow → ℕ → ℕ
bars_begun division rows t = tally (λ p. nat_lt (bar_start division rows p) t) t

abbrev pub tick_of : MeterRow → ℕ
tick_of r = r.tick

abbrev pub row_at : List MeterRow → ℕ → MeterRow
row_at rows t = current tick_of no_row rows t

pub record FirstAt (f : ℕ → ℕ) (t r : ℕ) : Type 0 where
  pub reaches : t ≤ f r
  pub before : (p : ℕ) → p < r → f p < t

-- How far a tick lies from tick 0 by the rows of a tempo map, in microseconds times the ticks of a quarter: so counted,
-- each tick is as long as the microseconds of its row's quarter say, and nothing is rounded.
--   no_row         stands where there is no row; no map has one
--   stretch        from a row's own tick to tick p, at that row's tempo
--   whole_stretch  from a row's own tick to that of the next
--   micros_from    from a row's own tick to tick p, by that row and those after it
--   micros         the same by a whole map, from tick 0
--   micros_before  from tick 0 to row i of a map: its running sum
--   no_sum         stands where a map holds no row
--   rows_in        the rows without their running sums
--   sum_after      the sum at a row's tick, from the row before it, if there is one
--   Summed         with each row stands its running sum
--   row_at         the last row of a map that does not lie past tick t: its tempo is current there
-- Assumes nothing.
use Rattle.std.specs.Prelude.{◌≡◌, ℕ, ◌+◌, ◌-◌, ◌*◌, ◌<◌, cond, Option, Some, None, List, [], ◌∷◌, length, map, nat_lt, slice_index_or}
use Rattle.rows.specs.Current.{current}
use Rattle.rows.specs.Sums.{sum_before}
use Rattle.tempo.specs.declared.row.TempoRow.{TempoRow}
use Rattle.tempo.specs.declared.row.SummedRow.{SummedRow}

abbrev pub no_row : TempoRow
no_row = record { tick = 0; q = 0 }

abbrev pub stretch : TempoRow → ℕ → ℕ
stretch r p = (p - r.tick) * r.q

abbrev pub micros_from : TempoRow → List TempoRow → ℕ → ℕ
micros_from r [] p = stretch r p
micros_from r (s ∷ rest) p = cond (nat_lt p s.tick) (stretch r p) (stretch r s.tick + micros_from s rest p)

abbrev pub micros : List TempoRow → ℕ → ℕ
micros [] p = 0
micros (r ∷ rest) p = micros_from r rest p

abbrev pub whole_stretch : TempoRow → TempoRow → ℕ
whole_stretch r s = stretch r s.tick

abbrev pub micros_before : List TempoRow → ℕ → ℕ
micros_before rows i = sum_before whole_stretch rows i

abbrev pub no_sum : SummedRow
no_sum = record { row = no_row; sum = 0 }

abbrev pub rows_in : List SummedRow → List TempoRow
rows_in rows = map (λ (r : SummedRow). r.row) rows

abbrev pub sum_after : Option SummedRow → TempoRow → ℕ
sum_after None r = 0
sum_after (Some s) r = s.sum + whole_stretch s.row r

abbrev pub Summed : List SummedRow → Type 0
Summed rows = (k : ℕ) → k < length rows → (slice_index_or rows k no_sum).sum ≡ micros_before (rows_in rows) k

abbrev pub row_at : List TempoRow → ℕ → TempoRow
row_at rows t = current (λ (r : TempoRow). r.tick) no_row rows t

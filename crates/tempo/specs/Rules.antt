-- The rules of a tempo map, as tests on its rows, its division and its last tick.
--   row_kept   a row's quarter is from 1 to 16,777,215 microseconds
--   next_kept  a row is in range, and another lies after it
--   last_kept  a row is in range, and does not lie past the last tick
--   all_kept   a row and those after it keep the rules
--   ends_kept  there is a last row, and it keeps the rule for the last
--   chain_kept the same of a list of rows, of which there is one at least
--   rows_kept  the rows of a whole map keep the rules: 1 to 1,024 of them, the first at tick 0
--   kept       a whole map keeps the rules: its last tick falls within 24 hours
-- Assumes nothing.
use Rattle.std.specs.Prelude.{ℕ, ◌*◌, Bool, false, ◌&&◌, Option, Some, None, List, [], ◌∷◌, length, ◌==◌, nat_le, nat_lt}
use Rattle.rows.specs.Chains.{chained}
use Rattle.tempo.specs.Micros.{micros}
use Rattle.tempo.specs.declared.row.TempoRow.{TempoRow}

abbrev pub row_kept : TempoRow → Bool
row_kept r = nat_le 1 r.q && nat_le r.q 16777215

abbrev pub next_kept : TempoRow → TempoRow → Bool
next_kept r s = row_kept r && nat_lt r.tick s.tick

abbrev pub last_kept : TempoRow → ℕ → Bool
last_kept r last = row_kept r && nat_le r.tick last

abbrev pub all_kept : TempoRow → List TempoRow → ℕ → Bool
all_kept r rest last = chained next_kept (λ x. last_kept x last) r rest

abbrev pub ends_kept : Option TempoRow → ℕ → Bool
ends_kept None last = false
ends_kept (Some r) last = last_kept r last

abbrev pub chain_kept : List TempoRow → ℕ → Bool
chain_kept [] last = false
chain_kept (r ∷ rest) last = all_kept r rest last

abbrev pub rows_kept : List TempoRow → ℕ → Bool
rows_kept [] last = false
rows_kept (r ∷ rest) last =
    nat_le (length (r ∷ rest)) 1024 && r.tick == 0 && nat_le last 1073741823
    && all_kept r rest last

abbrev pub kept : ℕ → List TempoRow → ℕ → Bool
kept division rows last =
    (nat_le 1 division && nat_le division 32767)
    && (rows_kept rows last && nat_le (micros rows last) (division * 86400000000))

-- The rules of a meter table, as tests on its division and its rows.
--   beat_of     the ticks of a beat of a row: the 2^dd th part of a whole note
--   bar_of      the ticks of a bar of a row: nn beats
--   row_kept    a row is in range on its own, and its beat is a whole number of ticks
--   meter_kept  the same, at a division that is in range
--   next_kept   a row lies after the one before it, on a bar line of that one
--   both_kept   a row is in range, and the next lies on a bar line of it
--   all_kept    a row and those after it keep the rules
--   ends_kept   there is a last row, in range, at a division that is
--   rows_kept   there are rows, and they keep the rules, at a division that is in range
--   kept        a whole table keeps the rules
-- Assumes nothing.
use Rattle.std.specs.Prelude.{ℕ, ◌-◌, ◌*◌, ◌/◌, ◌%◌, ◌^◌, Bool, false, ◌&&◌, Option, Some, None, List, [], ◌∷◌, length, ◌==◌, nat_le, nat_lt}
use Rattle.rows.specs.Chains.{chained}
use Rattle.meter.specs.declared.row.MeterRow.{MeterRow}

abbrev pub beat_of : ℕ → MeterRow → ℕ
beat_of division r = 4 * division / 2 ^ r.dd

abbrev pub bar_of : ℕ → MeterRow → ℕ
bar_of division r = r.nn * beat_of division r

abbrev pub row_kept : ℕ → MeterRow → Bool
row_kept division r =
    nat_le 1 r.nn && nat_le r.nn 64 && nat_le r.dd 6
    && 4 * division % 2 ^ r.dd == 0
    && nat_le r.tick 1073741823

abbrev pub meter_kept : ℕ → MeterRow → Bool
meter_kept division r = nat_le 1 division && nat_le division 32767 && row_kept division r

abbrev pub next_kept : ℕ → MeterRow → MeterRow → Bool
next_kept division r s = nat_lt r.tick s.tick && (s.tick - r.tick) % bar_of division r == 0

abbrev pub both_kept : ℕ → MeterRow → MeterRow → Bool
both_kept division r s = row_kept division r && next_kept division r s

abbrev pub all_kept : ℕ → MeterRow → List MeterRow → Bool
all_kept division r rest = chained (both_kept division) (row_kept division) r rest

abbrev pub ends_kept : ℕ → Option MeterRow → Bool
ends_kept division None = false
ends_kept division (Some r) = meter_kept division r

abbrev pub rows_kept : ℕ → List MeterRow → Bool
rows_kept division [] = false
rows_kept division (r ∷ rest) = nat_le 1 division && nat_le division 32767 && all_kept division r rest

abbrev pub kept : ℕ → List MeterRow → Bool
kept division [] = false
kept division (r ∷ rest) =
    nat_le 1 division && nat_le division 32767
    && nat_le (length (r ∷ rest)) 64
    && r.tick == 0
    && all_kept division r rest

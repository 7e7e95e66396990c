-- The row of a table in which a bar or a tick lies: the last that has begun.
--   counts_rise, ticks_rise  the rows of a table begin one after another, by bars and by ticks
--   count_first, tick_first  the first at 0
--   bar_in, tick_in          so a bar or a tick lies in the last that has begun
-- Assumes nothing.
use Rattle.std.proofs.Common.{◌≡◌, ℕ, ◌+◌, ◌-◌, ◌<◌, ◌≤◌, length, get_or, sym, ap, ◌∙◌, arith}
use Rattle.std.specs.List.Sorted.{IsNonDecreasingBy}
use Rattle.std.proofs.lemmas.List.Sorted.{IsNonDecreasingBy-from_all_adjacent}
use Rattle.rows.proofs.Adding.{none_before}
use Rattle.rows.proofs.Beginning.{Last}
use Rattle.meter.specs.BarLines.{no_row, gap_of, row_at}
use Rattle.meter.specs.Counted.{no_counted}
use Rattle.meter.specs.Tables.{rows_of}
use Rattle.meter.specs.Lies.{BarIn, TickIn}
use Rattle.meter.specs.declared.row.CountedRow.{CountedRow}
use Rattle.meter.specs.declared.row.MeterRow.{MeterRow}
use Rattle.meter.specs.declared.table.MeterTable.{MeterTable}
use Rattle.meter.specs.Whole.{Linked, linked_at}
use Rattle.meter.specs.Found.{first_at_0, row_found}
use Rattle.meter.proofs.Held.{held, at, rows_long, some_held, held_at, row_held}

abbrev pub count_of : CountedRow → ℕ
count_of c = c.before

abbrev pub tick_of : CountedRow → ℕ
tick_of c = c.row.tick

tick_held : (m : MeterTable) (i : ℕ) → i < m.len → (get_or (rows_of m) i no_row).tick ≡ tick_of (at m i)
tick_held m i h = ap (λ (r : MeterRow). r.tick) (row_held m i h)

pub count_first : (m : MeterTable) → count_of (get_or (held m) 0 no_counted) ≡ 0
count_first m =
    ap count_of (held_at m 0 no_counted (some_held m))
    ∙ m.counted 0 (some_held m) ∙ none_before (gap_of m.division) (rows_of m)

pub tick_first : (m : MeterTable) → tick_of (get_or (held m) 0 no_counted) ≡ 0
tick_first m =
    ap tick_of (held_at m 0 no_counted (some_held m))
    ∙ sym (tick_held m 0 (some_held m)) ∙ first_at_0 m.division (rows_of m) m.lawful

rises_by : (m : MeterTable) (n : CountedRow → ℕ) → ((k : ℕ) → k + 1 < m.len → n (at m k) ≤ n (at m (k + 1))) →
    IsNonDecreasingBy n (held m)
rises_by m n up =
    IsNonDecreasingBy-from_all_adjacent n (held m) (λ k d h.
    let l : k + 1 < m.len = omega (arith, m.held) in
    omega (arith, up k l, ap n (held_at m k d (omega arith)), ap n (held_at m (k + 1) d l)))

linked : (m : MeterTable) (k : ℕ) → k + 1 < m.len → Linked m.division (rows_of m) k
linked m k h = linked_at m.division (rows_of m) k m.lawful (omega (arith, rows_long m))

pub counts_rise : (m : MeterTable) → IsNonDecreasingBy count_of (held m)
counts_rise m =
    rises_by m count_of (λ k h. omega (arith, (linked m k h).sum, m.counted k (omega arith), m.counted (k + 1) h))

pub ticks_rise : (m : MeterTable) → IsNonDecreasingBy tick_of (held m)
ticks_rise m =
    rises_by m tick_of (λ k h. omega (arith, (linked m k h).later, tick_held m k (omega arith), tick_held m (k + 1) h))

pub bar_in : (m : MeterTable) (p r : ℕ) → Last count_of (held m) no_counted p r → BarIn m p (r - 1)
bar_in m p r last =
    let there : r - 1 < m.len = omega (arith, last.there, m.held) in
    record {
      there = there;
      begun = omega (arith, last.begun, ap count_of (held_at m (r - 1) no_counted there));
      not_next = λ h. omega (arith, last.not_next (omega (arith, m.held)), ap count_of (held_at m (r - 1 + 1) no_counted h));
    }

pub tick_in : (m : MeterTable) (t r : ℕ) → Last tick_of (held m) no_counted t r → TickIn m t (r - 1)
tick_in m t r last =
    let there : r - 1 < m.len = omega (arith, last.there, m.held) in
    let begun : tick_of (at m (r - 1)) ≤ t = omega (arith, last.begun, ap tick_of (held_at m (r - 1) no_counted there)) in
    let next : r - 1 + 1 < m.len → t < tick_of (at m (r - 1 + 1)) =
    λ h. omega (arith, last.not_next (omega (arith, m.held)), ap tick_of (held_at m (r - 1 + 1) no_counted h)) in
    let after : r - 1 + 1 < length (rows_of m) → t < (get_or (rows_of m) (r - 1 + 1) no_row).tick =
    λ h. let h' : r - 1 + 1 < m.len = omega (arith, rows_long m) in omega (arith, tick_held m (r - 1 + 1) h', next h') in
    let found : row_at (rows_of m) t ≡ get_or (rows_of m) (r - 1) no_row =
    row_found m.division (rows_of m) (r - 1) t m.lawful (omega (arith, rows_long m)) (omega (arith, tick_held m (r - 1) there)) after in
    record { there = there; begun = begun; current = sym (row_held m (r - 1) there) ∙ sym found; not_next = next }

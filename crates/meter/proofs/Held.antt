-- What a meter table holds: its rows are lawful, and the looked-up row gives the bar or the tick.
--   held, at   the rows in use, and a row by its place
--   row_held   a row of the table by its place
--   RowFacts   what the rules say of a row with so many bars before it
--   bar_held   the tick at which a bar begins, by the row in which it lies
--   tick_held  the first bar that reaches a tick, alike
--   reached    the same as the code computes it, by a quotient rounded up
-- Assumes nothing.
use Rattle.std.proofs.Common.{◌≡◌, ℕ, ◌+◌, ◌-◌, ◌*◌, ◌<◌, ◌≤◌, true, List, length, get_or, take, sym, ap, ◌∙◌, subst, arith}
use Rattle.std.specs.Int.{div_ceil}
use Rattle.std.proofs.lemmas.List.{get_or-take, get_or-map, get_or_default, length-map}
use Rattle.rows.proofs.Ceiling.{Fewest, fewest, fewest_le}
use Rattle.meter.specs.Rules.{bar_of, row_kept}
use Rattle.meter.specs.BarLines.{no_row, bars_before, FirstAt}
use Rattle.meter.specs.Counted.{no_counted}
use Rattle.meter.specs.Tables.{rows_of, bar_tick}
use Rattle.meter.specs.Lies.{BarIn, TickIn}
use Rattle.meter.specs.declared.row.CountedRow.{CountedRow}
use Rattle.meter.specs.declared.row.MeterRow.{MeterRow}
use Rattle.meter.specs.declared.table.MeterTable.{MeterTable}
use Rattle.meter.specs.Whole.{Placed, placed_at}
use Rattle.meter.specs.Found.{some_rows, bar_found, tick_found}

abbrev pub held : MeterTable → List CountedRow
held m = take m.len m.rows

abbrev pub at : MeterTable → ℕ → CountedRow
at m i = get_or m.rows i no_counted

pub rows_long : (m : MeterTable) → length (rows_of m) ≡ m.len
rows_long m = length-map (held m) (λ (c : CountedRow). c.row) ∙ m.held

pub some_held : (m : MeterTable) → 0 < m.len
some_held m = omega (arith, some_rows m.division (rows_of m) m.lawful, rows_long m)

pub held_at : (m : MeterTable) (i : ℕ) (d : CountedRow) → i < m.len → get_or (held m) i d ≡ at m i
held_at m i d h = get_or_default _ i d no_counted (omega (arith, m.held)) ∙ get_or-take m.len m.rows i no_counted h

pub row_held : (m : MeterTable) (i : ℕ) → i < m.len → get_or (rows_of m) i no_row ≡ (at m i).row
row_held m i h =
    get_or-map (λ (c : CountedRow). c.row) (held m) i no_counted no_row (omega (arith, m.held))
    ∙ ap (λ (c : CountedRow). c.row) (held_at m i no_counted h)

pub record RowFacts (d : ℕ) (r : MeterRow) (before : ℕ) : Type 0 where
  pub low : 1 ≤ d
  pub high : d ≤ 32767
  pub ok : row_kept d r ≡ true
  pub bar : 1 ≤ bar_of d r
  pub bars : before ≤ r.tick

pub row_facts : (m : MeterTable) (i : ℕ) → i < m.len → RowFacts m.division (at m i).row (at m i).before
row_facts m i h =
    let p : Placed m.division (rows_of m) i = placed_at m.division (rows_of m) i m.lawful (omega (arith, rows_long m)) in
    subst (λ (r : MeterRow). RowFacts m.division r (at m i).before) (row_held m i h) record {
      low = p.low;
      high = p.high;
      ok = p.ok;
      bar = p.bar;
      bars = omega (arith, p.bars, m.counted i h);
    }

pub bar_held : (m : MeterTable) (i p : ℕ) → BarIn m p i →
    bar_tick m p ≡ (at m i).row.tick + (p - (at m i).before) * bar_of m.division (at m i).row
bar_held m i p b =
    let d : ℕ = m.division in
    let l : i < length (rows_of m) = omega (arith, rows_long m, b.there) in
    let n : (at m i).before ≡ bars_before d (rows_of m) i = m.counted i b.there in
    let next : i + 1 < length (rows_of m) → p < bars_before d (rows_of m) (i + 1) =
    λ h. let h' : i + 1 < m.len = omega (arith, rows_long m) in omega (arith, m.counted (i + 1) h', b.not_next h') in
    bar_found d (rows_of m) i p l (omega (arith, b.begun)) next
    ∙ ap (λ (r : MeterRow). r.tick + (p - bars_before d (rows_of m) i) * bar_of d r) (row_held m i b.there)
    ∙ ap (λ x. (at m i).row.tick + (p - x) * bar_of d (at m i).row) (sym n)

pub tick_held : (m : MeterTable) (i t c : ℕ) → TickIn m t i →
    Fewest (t - (at m i).row.tick) (bar_of m.division (at m i).row) c → FirstAt (bar_tick m) t ((at m i).before + c)
tick_held m i t c b w =
    let d : ℕ = m.division in
    let l : i < length (rows_of m) = omega (arith, rows_long m, b.there) in
    let tick-at : (j : ℕ) → j < m.len → (get_or (rows_of m) j no_row).tick ≡ (at m j).row.tick =
    λ j h. ap (λ (r : MeterRow). r.tick) (row_held m j h) in
    let next : i + 1 < length (rows_of m) → t < (get_or (rows_of m) (i + 1) no_row).tick =
    λ h. let h' : i + 1 < m.len = omega (arith, rows_long m) in omega (arith, tick-at (i + 1) h', b.not_next h') in
    let w' : Fewest (t - (get_or (rows_of m) i no_row).tick) (bar_of d (get_or (rows_of m) i no_row)) c =
    subst (λ (r : MeterRow). Fewest (t - r.tick) (bar_of d r) c) (sym (row_held m i b.there)) w in
    subst (λ x. FirstAt (bar_tick m) t (x + c)) (sym (m.counted i b.there))
    (tick_found d (rows_of m) i t c m.lawful l (omega (arith, tick-at i b.there, b.begun)) next w')

-- it is no later than the tick's own number
pub reached : (m : MeterTable) (i t c : ℕ) → TickIn m t i →
    c ≡ div_ceil (t - (at m i).row.tick) (bar_of m.division (at m i).row) →
    FirstAt (bar_tick m) t ((at m i).before + c) × ((at m i).before + c ≤ t)
reached m i t c h q =
    let x : ℕ = t - (at m i).row.tick in
    let b : ℕ = bar_of m.division (at m i).row in
    let f : RowFacts m.division (at m i).row (at m i).before = row_facts m i h.there in
    let w : Fewest x b c = subst (Fewest x b) (sym q) (fewest x b f.bar) in
    (tick_held m i t c h w, omega (arith, fewest_le x b c f.bar w, f.bars, h.begun))

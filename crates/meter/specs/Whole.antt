-- A whole lawful table: what its rows are by place, where its bars begin, and how a bar and a tick are looked up.
-- Assumes nothing.
use Rattle.std.specs.Prelude.{◌≡◌, ℕ, ◌+◌, ◌<◌, ◌≤◌, true, ◌&&◌, List, [], ◌∷◌, length, ◌==◌, nat_le, slice_index_or}
use Rattle.std.proofs.Common.{arith, add-one}
use Rattle.std.proofs.lemmas.Bool.{and_parts}
use Rattle.std.proofs.lemmas.Bool.Decides.{nat_tests}
use Rattle.rows.proofs.Adding.{sum_after}
use Rattle.meter.specs.Rules.{bar_of, row_kept, all_kept, kept}
use Rattle.meter.specs.BarLines.{no_row, gap_of, bars_before}
use Rattle.meter.specs.declared.row.MeterRow.{MeterRow}
use Rattle.meter.specs.Ranges.{InRange, in_range, bar_pos, bar_below}
use Rattle.meter.specs.Places.{row_at, link_at, bars_le}

-- the rules of a whole table, one by one
pub record Lawful (d : ℕ) (r : MeterRow) (rest : List MeterRow) : Type 0 where
  pub low : 1 ≤ d
  pub high : d ≤ 32767
  pub few : length (r ∷ rest) ≤ 64
  pub first : r.tick ≡ 0
  pub all : all_kept d r rest ≡ true

numbers : (d n t : ℕ) → (nat_le 1 d && nat_le d 32767 && nat_le n 64 && t == 0) ≡ true →
    (1 ≤ d) × (d ≤ 32767) × (n ≤ 64) × (t ≡ 0)
numbers d n t h = (grind (arith, nat_tests), grind (arith, nat_tests), grind (arith, nat_tests), grind (arith, nat_tests))

pub lawful : (d : ℕ) (r : MeterRow) (rest : List MeterRow) → kept d (r ∷ rest) ≡ true → Lawful d r rest
lawful d r rest k =
    let ab = and_parts (nat_le 1 d && nat_le d 32767 && nat_le (length (r ∷ rest)) 64 && r.tick == 0) (all_kept d r rest) k in
    let n = numbers d (length (r ∷ rest)) r.tick ab.0 in
    record { low = n.0; high = n.1; few = n.2; first = n.3; all = ab.1 }

-- a row by its place
pub record Placed (d : ℕ) (rows : List MeterRow) (i : ℕ) : Type 0 where
  pub low : 1 ≤ d
  pub high : d ≤ 32767
  pub few : length rows ≤ 64
  pub ok : row_kept d (slice_index_or rows i no_row) ≡ true
  pub range : InRange d (slice_index_or rows i no_row)
  pub bar : 1 ≤ bar_of d (slice_index_or rows i no_row)
  pub short : bar_of d (slice_index_or rows i no_row) ≤ 8388352
  pub bars : bars_before d rows i ≤ (slice_index_or rows i no_row).tick

pub placed_at : (d : ℕ) (rows : List MeterRow) (i : ℕ) → kept d rows ≡ true → i < length rows → Placed d rows i
placed_at d [] i k l = absurd (omega arith)
placed_at d (r ∷ rest) i k l =
    let w : Lawful d r rest = lawful d r rest k in
    let ok : row_kept d (slice_index_or (r ∷ rest) i no_row) ≡ true = row_at d r rest i w.low w.all l in
    let range : InRange d (slice_index_or (r ∷ rest) i no_row) = in_range d (slice_index_or (r ∷ rest) i no_row) ok in
    record {
      low = w.low;
      high = w.high;
      few = w.few;
      ok = ok;
      range = range;
      bar = bar_pos d (slice_index_or (r ∷ rest) i no_row) w.low ok;
      short = bar_below d (slice_index_or (r ∷ rest) i no_row) w.high range.few_beats;
      bars = omega (arith, bars_le d r rest i w.low w.all l);
    }

-- a row and the next by their places
pub record Linked (d : ℕ) (rows : List MeterRow) (i : ℕ) : Type 0 where
  pub later : (slice_index_or rows i no_row).tick < (slice_index_or rows (i + 1) no_row).tick
  pub sum : bars_before d rows (i + 1) ≡ bars_before d rows i + gap_of d (slice_index_or rows i no_row) (slice_index_or rows (i + 1) no_row)

pub linked_at : (d : ℕ) (rows : List MeterRow) (i : ℕ) → kept d rows ≡ true → i + 1 < length rows → Linked d rows i
linked_at d [] i k l = absurd (omega arith)
linked_at d (r ∷ rest) i k l =
    let w : Lawful d r rest = lawful d r rest k in
    record {
      later = rw add-one (link_at d r rest i w.low w.all (omega arith)).later;
      sum = sum_after (gap_of d) (r ∷ rest) i no_row l;
    }

pub few_rows : (d : ℕ) (rows : List MeterRow) → kept d rows ≡ true → length rows ≤ 64
few_rows d [] k = omega arith
few_rows d (r ∷ rest) k = (lawful d r rest k).few

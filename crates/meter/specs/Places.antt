-- The rows of a lawful table by their places: each is in range, and has no more bars before it than ticks.
-- Assumes nothing.
use Rattle.std.specs.Prelude.{◌≡◌, ℕ, zero, suc, ◌+◌, ◌<◌, ◌≤◌, true, List, [], ◌∷◌, length, slice_index_or}
use Rattle.std.proofs.Common.{arith, mul-le-mul_left}
use Rattle.std.proofs.lemmas.Bool.{and_parts}
use Rattle.rows.specs.Sums.{sum_from}
use Rattle.rows.proofs.Linking.{joined_at}
use Rattle.meter.specs.Rules.{row_kept, next_kept, both_kept, all_kept}
use Rattle.meter.specs.BarLines.{no_row, gap_of}
use Rattle.meter.specs.declared.row.MeterRow.{MeterRow}
use Rattle.meter.specs.Stretch.{Link, link, Parts, parts}

pub row_at : (d : ℕ) (r : MeterRow) (rest : List MeterRow) (i : ℕ) → 1 ≤ d → all_kept d r rest ≡ true →
    i < length (r ∷ rest) → row_kept d (slice_index_or (r ∷ rest) i no_row) ≡ true
row_at d r [] zero h k l = k
row_at d r (s ∷ rest) zero h k l = (parts d r s rest h k).row
row_at d r [] (suc i) h k l = absurd (omega arith)
row_at d r (s ∷ rest) (suc i) h k l = row_at d s rest i h (parts d r s rest h k).others (omega arith)

pub link_at : (d : ℕ) (r : MeterRow) (rest : List MeterRow) (i : ℕ) → 1 ≤ d → all_kept d r rest ≡ true →
    suc i < length (r ∷ rest) → Link d (slice_index_or (r ∷ rest) i no_row) (slice_index_or (r ∷ rest) (suc i) no_row)
link_at d r rest i h k l =
    let here : MeterRow = slice_index_or (r ∷ rest) i no_row in
    let next : MeterRow = slice_index_or (r ∷ rest) (suc i) no_row in
    let both = and_parts (row_kept d here) (next_kept d here next)
    (joined_at (both_kept d) (row_kept d) r rest i no_row k l) in
    link d here next h both.0 both.1

-- a bar has a tick at least, so no row has more bars before it than ticks
pub bars_le : (d : ℕ) (r : MeterRow) (rest : List MeterRow) (i : ℕ) → 1 ≤ d → all_kept d r rest ≡ true →
    i < length (r ∷ rest) → sum_from (gap_of d) r rest i + r.tick ≤ (slice_index_or (r ∷ rest) i no_row).tick
bars_le d r rest zero h k l = omega arith
bars_le d r [] (suc i) h k l = absurd (omega arith)
bars_le d r (s ∷ rest) (suc i) h k l =
    let ks : Parts d r s rest = parts d r s rest h k in
    let j : Link d r s = ks.joint in
    omega (arith, bars_le d s rest i h ks.others (omega arith), mul-le-mul_left (gap_of d r s) j.bar)

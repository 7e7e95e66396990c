-- A tick found in a whole lawful map by the row in which it lies.
--   micros_found  how far the tick lies is the row's running sum and a stretch of the row
--   row_found     the row's tempo is the current one
--   micros_end    the last tick lies in the last row
--   micros_row    a row's own tick lies at the row's running sum
-- Assumes nothing.
use Rattle.std.specs.Prelude.{◌≡◌, ℕ, suc, ◌+◌, ◌-◌, ◌<◌, ◌≤◌, true, List, [], ◌∷◌, length, get_or, slice_index_or}
use Rattle.std.proofs.Common.{arith, add-one}
use Rattle.rows.proofs.Currents.{rises_by, current_at}
use Rattle.tempo.specs.Rules.{rows_kept}
use Rattle.tempo.specs.Micros.{no_row, stretch, micros, micros_before, row_at}
use Rattle.tempo.specs.declared.row.TempoRow.{TempoRow}
use Rattle.tempo.specs.Stretch.{tick_of, no_stretch}
use Rattle.tempo.specs.Adding.{found}
use Rattle.tempo.specs.Whole.{lawful, some_rows, placed_at, linked_at}

micros_suc : (rows : List TempoRow) (last i p : ℕ) → rows_kept rows last ≡ true → i < length rows →
    (get_or rows i no_row).tick ≤ p → (suc i < length rows → p ≤ (get_or rows (suc i) no_row).tick) →
    micros rows p ≡ micros_before rows i + stretch (slice_index_or rows i no_row) p
micros_suc [] last i p k l a b = absurd (omega arith)
micros_suc (r ∷ rest) last i p k l a b = found r rest last i p (lawful r rest last k).all l a b

pub micros_found : (rows : List TempoRow) (last i p : ℕ) → rows_kept rows last ≡ true → i < length rows →
    (get_or rows i no_row).tick ≤ p → (i + 1 < length rows → p ≤ (get_or rows (i + 1) no_row).tick) →
    micros rows p ≡ micros_before rows i + stretch (slice_index_or rows i no_row) p
micros_found rows last i p k l a b = micros_suc rows last i p k l a (λ h. rw add-one at (b (omega arith)))

pub row_found : (rows : List TempoRow) (last i t : ℕ) → rows_kept rows last ≡ true → i < length rows →
    (get_or rows i no_row).tick ≤ t → (i + 1 < length rows → t < (get_or rows (i + 1) no_row).tick) →
    row_at rows t ≡ slice_index_or rows i no_row
row_found rows last i t k l a b =
    let up = rises_by tick_of rows no_row (λ j h. (linked_at rows last j k h).later) in
    current_at tick_of no_row rows i t no_row up l a b

pub micros_end : (rows : List TempoRow) (last : ℕ) → rows_kept rows last ≡ true →
    micros rows last ≡ micros_before rows (length rows - 1) + stretch (slice_index_or rows (length rows - 1) no_row) last
micros_end rows last k =
    let i = length rows - 1 in
    let l : i < length rows = omega (arith, some_rows rows last k) in
    micros_found rows last i last k l (placed_at rows last i k l).early (λ h. omega arith)

pub micros_row : (rows : List TempoRow) (last i : ℕ) → rows_kept rows last ≡ true → i < length rows →
    micros rows (get_or rows i no_row).tick ≡ micros_before rows i
micros_row rows last i k l =
    let t = (get_or rows i no_row).tick in
    let at = micros_found rows last i t k l (omega arith) (λ h. omega (arith, (linked_at rows last i k h).later)) in
    omega (arith, at, no_stretch (slice_index_or rows i no_row))

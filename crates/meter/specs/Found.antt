-- A bar and a tick found in a whole lawful table, and that its bar lines rise from 0.
-- Assumes nothing.
use Rattle.std.specs.Prelude.{◌≡◌, ℕ, ◌+◌, ◌-◌, ◌*◌, ◌<◌, ◌≤◌, true, List, [], ◌∷◌, length, slice_index_or}
use Rattle.std.proofs.Common.{◌∙◌, arith, add-one}
use Rattle.std.proofs.lemmas.Bool.{false≢true}
use Rattle.rows.proofs.Ceiling.{Fewest}
use Rattle.rows.proofs.Currents.{rises_by, current_at}
use Rattle.meter.specs.Rules.{bar_of, kept}
use Rattle.meter.specs.BarLines.{no_row, bar_start, bars_before, tick_of, row_at, FirstAt}
use Rattle.meter.specs.declared.row.MeterRow.{MeterRow}
use Rattle.meter.specs.Rising.{starts, rises}
use Rattle.meter.specs.Lookup.{bar_at, reach_at}
use Rattle.meter.specs.Current.{follows}
use Rattle.meter.specs.Whole.{Lawful, lawful, linked_at}

pub some_rows : (d : ℕ) (rows : List MeterRow) → kept d rows ≡ true → 0 < length rows
some_rows d [] k = absurd (false≢true k)
some_rows d (r ∷ rest) k = omega arith

pub first_at_0 : (d : ℕ) (rows : List MeterRow) → kept d rows ≡ true → (slice_index_or rows 0 no_row).tick ≡ 0
first_at_0 d [] k = absurd (false≢true k)
first_at_0 d (r ∷ rest) k = (lawful d r rest k).first

pub lines_start : (d : ℕ) (rows : List MeterRow) → kept d rows ≡ true → bar_start d rows 0 ≡ 0
lines_start d [] k = absurd (false≢true k)
lines_start d (r ∷ rest) k =
    let w : Lawful d r rest = lawful d r rest k in
    starts d r rest w.low w.all ∙ w.first

pub lines_rise : (d : ℕ) (rows : List MeterRow) (p : ℕ) → kept d rows ≡ true →
    bar_start d rows p < bar_start d rows (p + 1)
lines_rise d [] p k = absurd (false≢true k)
lines_rise d (r ∷ rest) p k =
    let w : Lawful d r rest = lawful d r rest k in
    rises d r rest p w.low w.all

pub bar_found : (d : ℕ) (rows : List MeterRow) (i p : ℕ) → i < length rows → bars_before d rows i ≤ p →
    (i + 1 < length rows → p < bars_before d rows (i + 1)) →
    bar_start d rows p ≡ (slice_index_or rows i no_row).tick + (p - bars_before d rows i) * bar_of d (slice_index_or rows i no_row)
bar_found d [] i p l a b = absurd (omega arith)
bar_found d (r ∷ rest) i p l a b = bar_at d r rest i p l a (λ h. rw add-one at (b (omega arith)))

pub tick_found : (d : ℕ) (rows : List MeterRow) (i t c : ℕ) → kept d rows ≡ true → i < length rows →
    (slice_index_or rows i no_row).tick ≤ t → (i + 1 < length rows → t < (slice_index_or rows (i + 1) no_row).tick) →
    Fewest (t - (slice_index_or rows i no_row).tick) (bar_of d (slice_index_or rows i no_row)) c →
    FirstAt (bar_start d rows) t (bars_before d rows i + c)
tick_found d [] i t c k l a b w = absurd (omega arith)
tick_found d (r ∷ rest) i t c k l a b w =
    let law : Lawful d r rest = lawful d r rest k in
    reach_at d r rest i t c law.low law.all l a (λ h. rw add-one at (b (omega arith))) w

pub lines_follow : (d : ℕ) (rows : List MeterRow) (p : ℕ) → kept d rows ≡ true →
    bar_start d rows (p + 1) ≡ bar_start d rows p + bar_of d (row_at rows (bar_start d rows p))
lines_follow d [] p k = absurd (false≢true k)
lines_follow d (r ∷ rest) p k =
    let w : Lawful d r rest = lawful d r rest k in
    follows d r rest p w.low w.all

pub row_found : (d : ℕ) (rows : List MeterRow) (i t : ℕ) → kept d rows ≡ true → i < length rows →
    (slice_index_or rows i no_row).tick ≤ t → (i + 1 < length rows → t < (slice_index_or rows (i + 1) no_row).tick) →
    row_at rows t ≡ slice_index_or rows i no_row
row_found d rows i t k l a b =
    let up = rises_by tick_of rows no_row (λ j h. (linked_at d rows j k h).later) in
    current_at tick_of no_row rows i t no_row up l a b

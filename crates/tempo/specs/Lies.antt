-- The row of a map in which a tick, or so many microseconds times ticks, lie.
--   TickIn    tick t lies in row i: the row has begun, and the next has not; the row's tempo is the one current there
--   MicrosIn  x lies in row i, alike by the running sums
--   Parted    f is at least x exactly from r on
-- Assumes nothing.
use Rattle.std.specs.Prelude.{◌≡◌, ℕ, ◌+◌, ◌<◌, ◌≤◌, length, vec_items, slice_index_or}
use Rattle.tempo.specs.Micros.{no_row, no_sum, row_at}
use Rattle.tempo.specs.Maps.{rows_of}
use Rattle.tempo.specs.declared.map.TempoMap.{TempoMap}

pub record TickIn (m : TempoMap) (t i : ℕ) : Type 0 where
  pub there : i < length (rows_of m)
  pub begun : (slice_index_or (rows_of m) i no_row).tick ≤ t
  pub current : slice_index_or (rows_of m) i no_row ≡ row_at (rows_of m) t
  pub not_next : i + 1 < length (rows_of m) → t < (slice_index_or (rows_of m) (i + 1) no_row).tick

pub record MicrosIn (m : TempoMap) (x i : ℕ) : Type 0 where
  pub there : i < length (rows_of m)
  pub begun : (slice_index_or (vec_items m.rows) i no_sum).sum ≤ x
  pub not_next : i + 1 < length (rows_of m) → x < (slice_index_or (vec_items m.rows) (i + 1) no_sum).sum

abbrev pub Parted : (ℕ → ℕ) → ℕ → ℕ → Type 0
Parted f x r = (p : ℕ) → (r ≤ p → x ≤ f p) × (x ≤ f p → r ≤ p)

-- The two lookups as the code computes them, with r for the row read and c for a quotient rounded up.
-- Assumes nothing.
use Rattle.std.proofs.Common.{◌≡◌, ℕ, ◌+◌, ◌-◌, ◌*◌, ◌/◌, ◌%◌, ◌<◌, ◌≤◌, min, Bool, true, false, leb, List, length, get_or, vec_items, Bor, sym, ap, ◌∙◌, subst, arith}
use denote.Param.Members.{Mut}
use Rattle.std.specs.Fn.{Called, ComputesKey}
use Rattle.std.specs.List.Sorted.{IsNonDecreasingBy, IsPartitionedBy, IsPartitionPoint}
use Rattle.std.proofs.lemmas.List.{get_or_default}
use Rattle.std.proofs.lemmas.List.Sorted.{IsNonDecreasingBy-from_all_adjacent}
use Rattle.rows.specs.Begun.{Begun}
use Rattle.rows.proofs.Ceiling.{fewest, fewest_parts}
use Rattle.rows.proofs.Cutting.{begun_from_clause}
use Rattle.tempo.specs.Micros.{no_row, no_sum, stretch}
use Rattle.tempo.specs.Maps.{rows_of, map_micros}
use Rattle.tempo.specs.Lies.{TickIn, MicrosIn, Parted}
use Rattle.tempo.specs.declared.row.TempoRow.{TempoRow}
use Rattle.tempo.specs.declared.row.SummedRow.{SummedRow}
use Rattle.tempo.specs.declared.map.TempoMap.{TempoMap}
use Rattle.tempo.specs.Whole.{Linked, linked_at}
use Rattle.tempo.specs.Held.{held_tick, held_sum, kept_of, all_held, row_held, placed_in, ticks_begun, tick_in, sums_begun, sum_in, tick_held, sum_held}

-- the ticks and the sums of a map rise
rises : (begins : SummedRow → ℕ) (m : TempoMap) →
    ((i : ℕ) → i + 1 < length (vec_items m.rows) → begins (get_or (vec_items m.rows) i no_sum) ≤ begins (get_or (vec_items m.rows) (i + 1) no_sum)) →
    IsNonDecreasingBy begins (vec_items m.rows)
rises begins m up =
    let rows = vec_items m.rows in
    IsNonDecreasingBy-from_all_adjacent begins rows
    (λ i d l. rw (get_or_default rows i d no_sum (omega arith), get_or_default rows (i + 1) d no_sum l) (up i l))

linked : (m : TempoMap) (i : ℕ) → i + 1 < length (vec_items m.rows) → Linked (rows_of m) i
linked m i l = linked_at (rows_of m) m.last i (kept_of m).all (omega (arith, all_held m))

ticks_rise : (m : TempoMap) → IsNonDecreasingBy held_tick (vec_items m.rows)
ticks_rise m = rises held_tick m (λ i l. omega (
  arith,
  (linked m i l).later,
  ap (λ (x : TempoRow). x.tick) (row_held m i),
  ap (λ (x : TempoRow). x.tick) (row_held m (i + 1)),
))

sums_rise : (m : TempoMap) → IsNonDecreasingBy held_sum (vec_items m.rows)
sums_rise m = rises held_sum m (λ i l. omega (arith, (linked m i l).sum, m.summed i (omega arith), m.summed (i + 1) l))

-- the row before the place where a search by `partition_point` parts the rows: the tick, and the sum, lies in it
module _ (m : TempoMap) (x : ℕ) {F : Type 0} (g : Mut F (Bor SummedRow × Unit {0}) Bool) (f : F) (rows : List SummedRow) (r : ℕ) where
  abbrev Searched : (SummedRow → ℕ) → Type 0
  Searched begins =
      (rows ≡ vec_items m.rows) × (r ≤ length rows)
      × ((q : SummedRow → Bool) → ComputesKey g q f → IsPartitionedBy q rows → IsPartitionPoint (λ y. q y ≡ true) (λ y. q y ≡ false) rows r)
      × ((a : Bor SummedRow × Unit {0}) (b : Bool) (f' : F) → Called g f a b f' → (b ≡ leb (begins a.0.now) x) × (f' ≡ f))

  begun_of : (begins : SummedRow → ℕ) → IsNonDecreasingBy begins (vec_items m.rows) → Searched begins → Begun begins rows x r
  begun_of begins up s =
      begun_from_clause begins x {g = g} {f = f} rows r s.1 s.2 (subst (IsNonDecreasingBy begins) (sym s.0) up) s.3

  pub tick_searched : Searched held_tick → (1 ≤ r) × TickIn m x (r - 1)
  tick_searched s =
      let last = ticks_begun m rows x r s.0 (begun_of held_tick (ticks_rise m) s) in
      (last.some, tick_in m x r last)

  pub sum_searched : Searched held_sum → (1 ≤ r) × MicrosIn m x (r - 1)
  sum_searched s =
      let last = sums_begun m rows x r s.0 (begun_of held_sum (sums_rise m) s) in
      (last.some, sum_in m x r last)

-- the row as the code reads it
pub row_read : (m : TempoMap) (i : ℕ) (r : SummedRow) → i < length (rows_of m) → r ≡ get_or (vec_items m.rows) i r →
    r ≡ get_or (vec_items m.rows) i no_sum
row_read m i r l e = e ∙ get_or_default (vec_items m.rows) i r no_sum (omega (arith, all_held m))

pub tick_value : (m : TempoMap) (i p : ℕ) (r : SummedRow) → TickIn m p i → r ≡ get_or (vec_items m.rows) i no_sum →
    r.sum + stretch r.row p ≡ map_micros m p
tick_value m i p r h e =
    ap (λ (x : SummedRow). x.sum + stretch x.row p) e
    ∙ ap (λ x. (get_or (vec_items m.rows) i no_sum).sum + stretch x p) (sym (row_held m i)) ∙ tick_held m i p h

pub row_some : (m : TempoMap) (i : ℕ) (r : SummedRow) → i < length (rows_of m) → r ≡ get_or (vec_items m.rows) i no_sum →
    1 ≤ r.row.q
row_some m i r l e =
    subst (λ (x : TempoRow). 1 ≤ x.q) (row_held m i ∙ ap (λ (x : SummedRow). x.row) (sym e)) (placed_in m i l).some

pub sum_value : (m : TempoMap) (i x : ℕ) (r : SummedRow) (c : ℕ) → MicrosIn m x i → r ≡ get_or (vec_items m.rows) i no_sum →
    c ≡ (x - r.sum) / r.row.q + min 1 ((x - r.sum) % r.row.q) → Parted (map_micros m) x (r.row.tick + c)
sum_value m i x r c h e q =
    let parted : Parted (λ n. n * r.row.q) (x - r.sum) c =
    subst (Parted (λ n. n * r.row.q) (x - r.sum)) (sym q)
    (fewest_parts (x - r.sum) r.row.q _ (fewest (x - r.sum) r.row.q (row_some m i r h.there e))) in
    let held : SummedRow = get_or (vec_items m.rows) i no_sum in
    let there : Parted (λ n. n * held.row.q) (x - held.sum) c =
    subst (λ (y : SummedRow). Parted (λ n. n * y.row.q) (x - y.sum) c) e parted in
    let made : Parted (λ n. n * (get_or (rows_of m) i no_row).q) (x - held.sum) c =
    subst (λ (y : TempoRow). Parted (λ n. n * y.q) (x - held.sum) c) (sym (row_held m i)) there in
    subst (λ (y : TempoRow). Parted (map_micros m) x (y.tick + c)) (row_held m i ∙ ap (λ (y : SummedRow). y.row) (sym e))
    (sum_held m i x c h made)

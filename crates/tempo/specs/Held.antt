-- What a tempo map holds: its rows are lawful, its rate is one of the four, and the looked-up row gives tick and sum.
-- Assumes nothing.
use Rattle.std.specs.Prelude.{◌≡◌, ℕ, ◌+◌, ◌-◌, ◌*◌, ◌<◌, ◌≤◌, true, ◌&&◌, leb, List, length, get_or, vec_items, nat_le, slice_index_or}
use Rattle.std.proofs.Common.{sym, ap, ◌∙◌, subst, arith}
use Rattle.std.proofs.Math.ListN.{get_or-map}
use Rattle.std.proofs.lemmas.List.{length-map}
use Rattle.std.proofs.lemmas.Bool.{and_parts}
use Rattle.std.proofs.lemmas.Bool.Decides.{nat_tests}
use Rattle.rows.specs.Begun.{Begun}
use Rattle.rows.proofs.Adding.{none_before}
use Rattle.rows.proofs.Beginning.{Last, last_begun}
use Rattle.tempo.specs.Rules.{rows_kept, kept}
use Rattle.tempo.specs.Micros.{no_row, no_sum, stretch, whole_stretch, micros}
use Rattle.tempo.specs.Maps.{rows_of, map_micros}
use Rattle.tempo.specs.Rates.{samples_at}
use Rattle.tempo.specs.Lies.{TickIn, MicrosIn, Parted}
use Rattle.tempo.specs.declared.row.TempoRow.{TempoRow}
use Rattle.tempo.specs.declared.row.SummedRow.{SummedRow}
use Rattle.tempo.specs.declared.map.TempoMap.{TempoMap}
use Rattle.tempo.specs.Stretch.{tick_of}
use Rattle.tempo.specs.Whole.{Placed, placed_at, some_rows, first_at_0}
use Rattle.tempo.specs.Found.{micros_found, row_found}
use Rattle.tempo.specs.Rising.{micros_not_fall}
use Rattle.tempo.specs.Lookup.{tick_parts}
use Rattle.tempo.specs.Scaling.{Rated, rated_at}

abbrev pub held_tick : SummedRow → ℕ
held_tick r = r.row.tick

abbrev pub held_sum : SummedRow → ℕ
held_sum r = r.sum

pub record Kept (division : ℕ) (rows : List TempoRow) (last : ℕ) : Type 0 where
  pub low : 1 ≤ division
  pub high : division ≤ 32767
  pub all : rows_kept rows last ≡ true
  pub day : micros rows last ≤ division * 86400000000

low_high : (d : ℕ) → (nat_le 1 d && nat_le d 32767) ≡ true → (1 ≤ d) × (d ≤ 32767)
low_high d h = (grind (arith, nat_tests), grind (arith, nat_tests))

at_most : (a b : ℕ) → nat_le a b ≡ true → a ≤ b
at_most a b h = grind (arith, nat_tests)

parts_of : (division : ℕ) (rows : List TempoRow) (last : ℕ) → kept division rows last ≡ true → Kept division rows last
parts_of division rows last k =
    let day = leb (micros rows last) (division * 86400000000) in
    let ab = and_parts (nat_le 1 division && nat_le division 32767) (rows_kept rows last && day) k in
    let cd = and_parts (rows_kept rows last) day ab.1 in
    let n = low_high division ab.0 in
    record { low = n.0; high = n.1; all = cd.0; day = at_most _ _ cd.1 }

pub kept_of : (m : TempoMap) → Kept m.division (rows_of m) m.last
kept_of m = parts_of m.division (rows_of m) m.last m.lawful

pub rated_of : (m : TempoMap) → Rated m.rate.sample_rate m.rate.samples m.rate.micros
rated_of m =
    let r = m.rate in
    subst (λ n. Rated r.sample_rate n r.micros) (sym r.rated)
    (subst (λ k. Rated r.sample_rate (samples_at r.sample_rate) k) (sym r.timed) (rated_at r.sample_rate r.known))

pub placed_in : (m : TempoMap) (i : ℕ) → i < length (rows_of m) → Placed (rows_of m) m.last i
placed_in m i l = placed_at (rows_of m) m.last i (kept_of m).all l

pub some_held : (m : TempoMap) → 0 < length (rows_of m)
some_held m = some_rows (rows_of m) m.last (kept_of m).all

pub tick_first : (m : TempoMap) → (get_or (rows_of m) 0 no_row).tick ≡ 0
tick_first m = first_at_0 (rows_of m) m.last (kept_of m).all

-- as many rows as a map was made of, and each of them
pub all_held : (m : TempoMap) → length (rows_of m) ≡ length (vec_items m.rows)
all_held m = length-map (vec_items m.rows) (λ (r : SummedRow). r.row)

pub row_held : (m : TempoMap) (i : ℕ) → slice_index_or (rows_of m) i no_row ≡ (slice_index_or (vec_items m.rows) i no_sum).row
row_held m i = get_or-map (λ (r : SummedRow). r.row) (vec_items m.rows) i no_sum

pub sum_first : (m : TempoMap) → (slice_index_or (vec_items m.rows) 0 no_sum).sum ≡ 0
sum_first m = m.summed 0 (omega (arith, some_held m, all_held m)) ∙ none_before whole_stretch (rows_of m)

-- no tick up to the last lies past a day
pub in_day : (m : TempoMap) (p : ℕ) → p ≤ m.last → map_micros m p ≤ m.division * 86400000000
in_day m p h = omega (arith, micros_not_fall (rows_of m) m.last p m.last (kept_of m).all h, (kept_of m).day)

-- the last row that has begun at tick t, of the rows as the code reads them
pub ticks_begun : (m : TempoMap) (rows : List SummedRow) (t r : ℕ) → rows ≡ vec_items m.rows →
    Begun held_tick rows t r → Last tick_of (rows_of m) no_row t r
ticks_begun m rows t r e b =
    let held = vec_items m.rows in
    let tick : (i : ℕ) → (slice_index_or (rows_of m) i no_row).tick ≡ (slice_index_or (vec_items m.rows) i no_sum).row.tick =
    λ i. ap tick_of (row_held m i) in
    let last : Last held_tick held no_sum t r =
    last_begun held_tick held no_sum t r (omega (arith, some_held m, all_held m))
    (omega (arith, tick_first m, tick 0)) (subst (λ xs. Begun held_tick xs t r) e b) in
    record {
      some = last.some;
      there = omega (arith, last.there, all_held m);
      begun = omega (arith, last.begun, tick (r - 1));
      not_next = λ h. omega (arith, last.not_next (omega (arith, all_held m)), tick (r - 1 + 1));
    }

pub tick_in : (m : TempoMap) (t r : ℕ) → Last tick_of (rows_of m) no_row t r → TickIn m t (r - 1)
tick_in m t r last =
    record {
      there = last.there;
      begun = last.begun;
      current = sym (row_found (rows_of m) m.last (r - 1) t (kept_of m).all
          last.there last.begun last.not_next);
      not_next = last.not_next;
    }

-- the last row whose sum has begun at x, alike
pub sums_begun : (m : TempoMap) (rows : List SummedRow) (x r : ℕ) → rows ≡ vec_items m.rows →
    Begun held_sum rows x r → Last held_sum (vec_items m.rows) no_sum x r
sums_begun m rows x r e b =
    last_begun held_sum (vec_items m.rows) no_sum x r (omega (arith, some_held m, all_held m)) (omega (arith, sum_first m))
    (subst (λ xs. Begun held_sum xs x r) e b)

pub sum_in : (m : TempoMap) (x r : ℕ) → Last held_sum (vec_items m.rows) no_sum x r → MicrosIn m x (r - 1)
sum_in m x r last =
    record {
      there = omega (arith, last.there, all_held m);
      begun = last.begun;
      not_next = λ h. last.not_next (omega (arith, all_held m));
    }

-- tick p as the code finds it
pub tick_held : (m : TempoMap) (i p : ℕ) → TickIn m p i →
    (slice_index_or (vec_items m.rows) i no_sum).sum + stretch (slice_index_or (rows_of m) i no_row) p ≡ map_micros m p
tick_held m i p h =
    omega (
      arith,
      micros_found (rows_of m) m.last i p (kept_of m).all h.there h.begun (λ l. omega (arith, h.not_next l)),
      m.summed i (omega (arith, h.there, all_held m)),
    )

-- the tick of a sum x as the code finds it, c ticks after its row's
pub sum_held : (m : TempoMap) (i x c : ℕ) → MicrosIn m x i →
    Parted (λ n. n * (get_or (rows_of m) i no_row).q) (x - (slice_index_or (vec_items m.rows) i no_sum).sum) c →
    Parted (map_micros m) x ((get_or (rows_of m) i no_row).tick + c)
sum_held m i x c h parted =
    let sum = m.summed i (omega (arith, h.there, all_held m)) in
    tick_parts (rows_of m) m.last i x c (kept_of m).all h.there (omega (arith, sum, h.begun))
    (λ l. omega (arith, m.summed (i + 1) (omega (arith, all_held m)), h.not_next l))
    (subst (λ y. Parted (λ n. n * (get_or (rows_of m) i no_row).q) (x - y) c) sum parted)

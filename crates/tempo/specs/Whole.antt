-- A whole lawful map: what its rows and its running sums are by place, and how its ticks add up.
--   Lawful  the rules of the rows of a whole map, one by one
--   Placed  a row by its place
--   Linked  a row and the next by their places
-- Assumes nothing.
use Rattle.std.specs.Prelude.{◌≡◌, ℕ, zero, suc, ◌+◌, ◌-◌, ◌*◌, ◌<◌, ◌≤◌, true, ◌&&◌, leb, List, [], ◌∷◌, length, get_or, ◌==◌, nat_le, slice_index_or}
use Rattle.std.proofs.Common.{sym, ◌∙◌, ap, arith, add-one}
use Rattle.std.proofs.lemmas.Nat.{mul-le}
use Rattle.std.proofs.lemmas.Bool.{and_parts, false≢true}
use Rattle.std.proofs.lemmas.Bool.Decides.{nat_tests}
use Rattle.rows.proofs.Adding.{none_before, sum_suc, sum_after}
use Rattle.rows.proofs.Currents.{current_keeps}
use Rattle.tempo.specs.Rules.{all_kept, rows_kept}
use Rattle.tempo.specs.Micros.{no_row, stretch, whole_stretch, micros, micros_before, row_at}
use Rattle.tempo.specs.declared.row.TempoRow.{TempoRow}
use Rattle.tempo.specs.Stretch.{tick_of}
use Rattle.tempo.specs.Places.{Ranged, ranged, rising}
use Rattle.tempo.specs.Adding.{starts, follows}

pub record Lawful (r : TempoRow) (rest : List TempoRow) (last : ℕ) : Type 0 where
  pub few : length (r ∷ rest) ≤ 1024
  pub first : r.tick ≡ 0
  pub short : last ≤ 1073741823
  pub all : all_kept r rest last ≡ true

numbers : (n t last : ℕ) → (nat_le n 1024 && t == 0 && nat_le last 1073741823) ≡ true →
    (n ≤ 1024) × (t ≡ 0) × (last ≤ 1073741823)
numbers n t last h = (grind (arith, nat_tests), grind (arith, nat_tests), grind (arith, nat_tests))

pub lawful : (r : TempoRow) (rest : List TempoRow) (last : ℕ) → rows_kept (r ∷ rest) last ≡ true → Lawful r rest last
lawful r rest last k =
    let n = nat_le (length (r ∷ rest)) 1024 && r.tick == 0 && leb last 1073741823 in
    let ab = and_parts n (all_kept r rest last) k in
    let n' = numbers (length (r ∷ rest)) r.tick last ab.0 in
    record { few = n'.0; first = n'.1; short = n'.2; all = ab.1 }

pub some_rows : (rows : List TempoRow) (last : ℕ) → rows_kept rows last ≡ true → 0 < length rows
some_rows [] last k = absurd (false≢true k)
some_rows (r ∷ rest) last k = omega arith

pub few_rows : (rows : List TempoRow) (last : ℕ) → rows_kept rows last ≡ true → length rows ≤ 1024
few_rows [] last k = omega arith
few_rows (r ∷ rest) last k = (lawful r rest last k).few

pub first_at_0 : (rows : List TempoRow) (last : ℕ) → rows_kept rows last ≡ true → (get_or rows 0 no_row).tick ≡ 0
first_at_0 [] last k = absurd (false≢true k)
first_at_0 (r ∷ rest) last k = (lawful r rest last k).first

pub record Placed (rows : List TempoRow) (last i : ℕ) : Type 0 where
  pub some : 1 ≤ (get_or rows i no_row).q
  pub few : (get_or rows i no_row).q ≤ 16777215
  pub early : (get_or rows i no_row).tick ≤ last
  pub short : last ≤ 1073741823

pub placed_at : (rows : List TempoRow) (last i : ℕ) → rows_kept rows last ≡ true → i < length rows → Placed rows last i
placed_at [] last i k l = absurd (omega arith)
placed_at (r ∷ rest) last i k l =
    let w : Lawful r rest last = lawful r rest last k in
    let n : Ranged r rest last i = ranged r rest last i w.all l in
    record { some = n.some; few = n.few; early = n.early; short = w.short }

pub record Linked (rows : List TempoRow) (i : ℕ) : Type 0 where
  pub later : (get_or rows i no_row).tick < (get_or rows (i + 1) no_row).tick
  pub sum : micros_before rows (i + 1) ≡
      micros_before rows i + stretch (slice_index_or rows i no_row) (get_or rows (i + 1) no_row).tick

later_suc : (rows : List TempoRow) (last i : ℕ) → rows_kept rows last ≡ true → suc i < length rows →
    (get_or rows i no_row).tick < (get_or rows (suc i) no_row).tick
later_suc [] last i k l = absurd (omega arith)
later_suc (r ∷ rest) last i k l = rising r rest last i (lawful r rest last k).all l

pub linked_at : (rows : List TempoRow) (last i : ℕ) → rows_kept rows last ≡ true → i + 1 < length rows → Linked rows i
linked_at rows last i k l =
    record { later = rw add-one (later_suc rows last i k (omega arith)); sum = sum_after whole_stretch rows i no_row l }

-- a tick takes 16,777,215 at most
stretch_le : (r : TempoRow) (p : ℕ) → r.q ≤ 16777215 → stretch r p ≤ (p - r.tick) * 16777215
stretch_le r p h = mul-le (p - r.tick) r.q (p - r.tick) 16777215 (omega arith) h

pub sum_le : (rows : List TempoRow) (last i : ℕ) → rows_kept rows last ≡ true → i < length rows →
    micros_before rows i ≤ (get_or rows i no_row).tick * 16777215
sum_le rows last zero k l = omega (arith, none_before whole_stretch rows)
sum_le rows last (suc i) k l =
    let p : Placed rows last i = placed_at rows last i k (omega arith) in
    omega (
      arith,
      later_suc rows last i k l,
      sum_suc whole_stretch rows i no_row l,
      sum_le rows last i k (omega arith),
      stretch_le (slice_index_or rows i no_row) (get_or rows (suc i) no_row).tick p.few,
    )

pub micros_start : (rows : List TempoRow) (last : ℕ) → rows_kept rows last ≡ true → micros rows 0 ≡ 0
micros_start [] last k = absurd (false≢true k)
micros_start (r ∷ rest) last k =
    let w : Lawful r rest last = lawful r rest last k in
    ap (micros (r ∷ rest)) (sym w.first) ∙ starts r rest last w.all

pub micros_follow : (rows : List TempoRow) (last p : ℕ) → rows_kept rows last ≡ true →
    micros rows (p + 1) ≡ micros rows p + (row_at rows p).q
micros_follow [] last p k = absurd (false≢true k)
micros_follow (r ∷ rest) last p k =
    let w : Lawful r rest last = lawful r rest last k in
    follows r rest last p w.all (omega (arith, w.first))

pub never_still : (rows : List TempoRow) (last p : ℕ) → rows_kept rows last ≡ true → 1 ≤ (row_at rows p).q
never_still rows last p k =
    current_keeps tick_of (λ (r : TempoRow). 1 ≤ r.q) no_row rows p no_row
    (some_rows rows last k) (λ i l. (placed_at rows last i k l).some)

-- The running sums, made row by row.
--   whole_sum    what the rows before the last come to, added up, is the sum at the last
--   Ending       with the last row's stretch it is the sum at the last tick, and both are small
--   SummedTo     the first i rows, each with its sum
--   sum_at_next  the sum at the next row
--   sum_fits     which is small
--   summed_more  one more row with its sum, put last
--   Turn         a row after the first: it lies later than the row before, and what its sum is made of is small
-- Assumes nothing.
use Rattle.std.proofs.Common.{◌≡◌, ℕ, zero, suc, ◌+◌, ◌-◌, ◌^◌, ◌<◌, ◌≤◌, true, List, [], ◌∷◌, ◌++◌, length, get_or, map, sum, take, drop, refl, sym, ap, ◌∙◌, subst, arith, below_more}
use Rattle.std.proofs.Math.ListN.{get_or-map}
use Rattle.std.proofs.lemmas.List.{length_push, get_or_push, get_or_append_left, get_or-take, take_more, take_rest, map-append}
use Rattle.std.proofs.lemmas.List.Sums.{sum_by-cons}
use Rattle.std.proofs.lemmas.Nat.{mul-le}
use Rattle.std.proofs.lemmas.Option.{slice_get-get_or}
use Rattle.std.specs.List.{slice_get, zip}
use Rattle.rows.specs.Sums.{sum_from}
use Rattle.rows.proofs.Adding.{none_before, sum_suc}
use Rattle.tempo.specs.Rules.{rows_kept}
use Rattle.tempo.specs.Micros.{no_row, no_sum, rows_in, stretch, whole_stretch, sum_after, micros, micros_before}
use Rattle.tempo.specs.declared.row.TempoRow.{TempoRow}
use Rattle.tempo.specs.declared.row.SummedRow.{SummedRow}
use Rattle.tempo.specs.Whole.{Placed, Linked, placed_at, linked_at, some_rows, sum_le}
use Rattle.tempo.specs.Found.{micros_end}

from_sum : (r : TempoRow) (rest : List TempoRow) →
    sum (map (λ p. whole_stretch p.0 p.1) (zip (r ∷ rest) rest)) ≡ sum_from whole_stretch r rest (length rest)
from_sum r [] = refl
from_sum r (s ∷ rest) =
    sum_by-cons (λ n. n) (whole_stretch r s) (map (λ p. whole_stretch p.0 p.1) (zip (s ∷ rest) rest))
    ∙ ap (λ n. whole_stretch r s + n) (from_sum s rest)

pub whole_sum : (rows : List TempoRow) → 1 ≤ length rows →
    sum (map (λ p. whole_stretch p.0 p.1) (zip rows (take (length rows - 1) (drop 1 rows)))) ≡ micros_before rows (length rows - 1)
whole_sum [] l = absurd (omega arith)
whole_sum (r ∷ rest) l =
    let same : length rest ≡ length (r ∷ rest) - 1 = omega arith in
    ap (λ xs. sum (map (λ p. whole_stretch p.0 p.1) (zip (r ∷ rest) xs))) (take_rest (r ∷ rest) 1)
    ∙ from_sum r rest ∙ ap (sum_from whole_stretch r rest) same

pub record Ending (rows : List TempoRow) (last : ℕ) : Type 0 where
  pub some : 1 ≤ length rows
  pub sum : micros rows last ≡ micros_before rows (length rows - 1) + stretch (get_or rows (length rows - 1) no_row) last
  pub small : micros_before rows (length rows - 1) ≤ 2 ^ 54
  pub short : stretch (get_or rows (length rows - 1) no_row) last ≤ 2 ^ 54

pub ending : (rows : List TempoRow) (last : ℕ) → rows_kept rows last ≡ true → Ending rows last
ending rows last k =
    let i = length rows - 1 in
    let l : i < length rows = omega (arith, some_rows rows last k) in
    let p : Placed rows last i = placed_at rows last i k l in
    let far : last - (get_or rows i no_row).tick ≤ 1073741823 = omega (arith, p.short) in
    record {
      some = omega (arith, some_rows rows last k);
      sum = micros_end rows last k;
      small = omega (arith, p.early, p.short, sum_le rows last i k l);
      short = omega (arith, mul-le (last - (get_or rows i no_row).tick) (get_or rows i no_row).q 1073741823 16777215 far p.few);
    }

pub record SummedTo (rows : List TempoRow) (items : List SummedRow) (i : ℕ) : Type 0 where
  pub same : rows_in items ≡ take i rows
  pub long : length items ≡ i
  pub sums : (k : ℕ) → k < i → (get_or items k no_sum).sum ≡ micros_before rows k

pub sum_at_next : (rows : List TempoRow) (last i : ℕ) (items : List SummedRow) → rows_kept rows last ≡ true → i < length rows →
    SummedTo rows items i → sum_after (slice_get items (length items - 1)) (get_or rows i no_row) ≡ micros_before rows i
sum_at_next rows last zero [] k l w = sym (none_before whole_stretch rows)
sum_at_next rows last zero (x ∷ items) k l w = absurd (omega (arith, w.long))
sum_at_next rows last (suc j) items k l w =
    let end : length items - 1 ≡ j = omega (arith, w.long) in
    let in_list : j < length items = omega (arith, w.long) in
    let at = ap (slice_get items) end ∙ slice_get-get_or items j no_sum in_list in
    let row : (get_or items j no_sum).row ≡ get_or rows j no_row =
    sym (get_or-map (λ (r : SummedRow). r.row) items j no_sum)
    ∙ ap (λ xs. get_or xs j no_row) w.same ∙ get_or-take (suc j) rows j no_row (omega arith) in
    let next = get_or rows (suc j) no_row in
    ap (λ x. sum_after x next) at
    ∙ ap (λ x. (get_or items j no_sum).sum + whole_stretch x next) row
    ∙ ap (λ n. n + whole_stretch (get_or rows j no_row) next) (w.sums j (omega arith))
    ∙ sym (sum_suc whole_stretch rows j no_row l)

pub sum_fits : (rows : List TempoRow) (last i : ℕ) → rows_kept rows last ≡ true → i < length rows → micros_before rows i ≤ 2 ^ 54
sum_fits rows last i k l =
    let p : Placed rows last i = placed_at rows last i k l in
    omega (arith, p.early, p.short, sum_le rows last i k l)

pub summed_more : (rows : List TempoRow) (items after : List SummedRow) (i : ℕ) (r : TempoRow) (v : ℕ) → i < length rows →
    SummedTo rows items i → r ≡ get_or rows i no_row → v ≡ micros_before rows i →
    after ≡ items ++ record { row = r; sum = v } ∷ [] → SummedTo rows after (i + 1)
summed_more rows items after i r v l w is at e =
    let held : SummedRow = record { row = r; sum = v } in
    record {
      same = ap rows_in e ∙ map-append (λ (x : SummedRow). x.row) items (held ∷ [])
          ∙ ap (λ xs. xs ++ r ∷ []) w.same ∙ ap (λ x. take i rows ++ x ∷ []) is ∙ sym (take_more rows i no_row l);
      long = ap length e ∙ length_push items held ∙ ap (λ n. n + 1) w.long;
      sums = below_more (λ k. (get_or after k no_sum).sum ≡ micros_before rows k) i
          (λ k h. ap (λ xs. (get_or xs k no_sum).sum) e
          ∙ ap (λ (x : SummedRow). x.sum) (get_or_append_left items (held ∷ []) no_sum k (omega (arith, w.long))) ∙ w.sums k h)
          (ap (λ xs. (get_or xs i no_sum).sum) e ∙ ap (λ (x : SummedRow). x.sum) (get_or_push items held no_sum i w.long) ∙ at);
    }

pub record Turn (rows : List TempoRow) (i : ℕ) : Type 0 where
  pub later : (get_or rows (i - 1) no_row).tick ≤ (get_or rows i no_row).tick
  pub sum : micros_before rows i ≡ micros_before rows (i - 1) + whole_stretch (get_or rows (i - 1) no_row) (get_or rows i no_row)
  pub small : micros_before rows i ≤ 2 ^ 54

pub turn : (rows : List TempoRow) (last i : ℕ) → rows_kept rows last ≡ true → 1 ≤ i → i < length rows → Turn rows i
turn rows last i k a l =
    let e : i - 1 + 1 ≡ i = omega arith in
    let h : Linked rows (i - 1) = linked_at rows last (i - 1) k (omega arith) in
    let before = get_or rows (i - 1) no_row in
    let later = subst (λ n. before.tick < (get_or rows n no_row).tick) e h.later in
    record {
      later = omega (arith, later);
      sum = subst (λ n. micros_before rows n ≡ micros_before rows (i - 1) + whole_stretch before (get_or rows n no_row)) e h.sum;
      small = sum_fits rows last i k l;
    }

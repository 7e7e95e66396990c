-- The rows of a table counted one by one: each turn counts row i, from the row before it.
--   Turn       what the rules say of the two rows; the first turn takes the first row for both
--   turn       they say it of every lawful table
--   rows_on    the row is kept
--   counts_on  and the bars before it
-- Assumes nothing.
use Rattle.std.proofs.Common.{◌≡◌, ℕ, ◌+◌, ◌-◌, ◌/◌, ◌<◌, ◌≤◌, true, ◌≢◌, List, [], ◌∷◌, ◌++◌, length, get_or, take, map, set, sym, ap, ◌∙◌, subst, inl, inr, arith, below_more}
use Rattle.std.proofs.lemmas.List.{get_or-set_same, get_or-set_other, take_more, take_more_set, map-append}
use Rattle.std.proofs.lemmas.Bool.{cases_lt}
use Rattle.std.proofs.Math.Nat.{zero-div}
use Rattle.meter.specs.Rules.{bar_of, row_kept, kept}
use Rattle.meter.specs.BarLines.{no_row, gap_of, bars_before}
use Rattle.meter.specs.Counted.{no_counted, rows_in}
use Rattle.meter.specs.declared.row.CountedRow.{CountedRow}
use Rattle.meter.specs.declared.row.MeterRow.{MeterRow}
use Rattle.meter.specs.Whole.{Placed, placed_at, Linked, linked_at, few_rows}

pub record Turn (d : ℕ) (rows : List MeterRow) (i : ℕ) (last : MeterRow) : Type 0 where
  pub room : i < 64
  pub low : 1 ≤ d
  pub high : d ≤ 32767
  pub ok : row_kept d last ≡ true
  pub later : last.tick ≤ (get_or rows i no_row).tick
  pub sum : bars_before d rows (i - 1) + gap_of d last (get_or rows i no_row) ≡ bars_before d rows i
  pub early : bars_before d rows i ≤ 1073741823

no_gap : (d : ℕ) (r : MeterRow) → gap_of d r r ≡ 0
no_gap d r = let z : r.tick - r.tick ≡ 0 = omega arith in ap (λ x. x / bar_of d r) z ∙ zero-div (bar_of d r)

record Step (d : ℕ) (rows : List MeterRow) (p i : ℕ) : Type 0 where
  later : (get_or rows p no_row).tick ≤ (get_or rows i no_row).tick
  sum : bars_before d rows p + gap_of d (get_or rows p no_row) (get_or rows i no_row) ≡ bars_before d rows i

step_at : (d : ℕ) (rows : List MeterRow) (i : ℕ) → kept d rows ≡ true → i < length rows → Step d rows (i - 1) i
step_at d rows i k l =
    let first : i ≡ 0 → Step d rows (i - 1) i =
    λ z. subst (λ x. Step d rows (x - 1) x) (sym z)
    record { later = omega arith; sum = omega (arith, no_gap d (get_or rows 0 no_row)) } in
    let next : 0 < i → Step d rows (i - 1) i =
    λ h. let e : i - 1 + 1 ≡ i = omega arith in
    let j : Linked d rows (i - 1) = linked_at d rows (i - 1) k (omega arith) in
    subst (Step d rows (i - 1)) e record { later = omega (arith, j.later); sum = sym j.sum } in
    elim (cases_lt 0 i) [ inl h ↦ next h | inr z ↦ first (omega arith) ]

pub turn : (d : ℕ) (rows : List MeterRow) (i : ℕ) (last : MeterRow) → kept d rows ≡ true → i < length rows →
    last ≡ get_or rows (i - 1) no_row → Turn d rows i last
turn d rows i last k l e =
    let before : Placed d rows (i - 1) = placed_at d rows (i - 1) k (omega arith) in
    let here : Placed d rows i = placed_at d rows i k l in
    let step : Step d rows (i - 1) i = step_at d rows i k l in
    subst (Turn d rows i) (sym e) record {
      room = omega (arith, few_rows d rows k);
      low = here.low;
      high = here.high;
      ok = before.ok;
      later = step.later;
      sum = step.sum;
      early = omega (arith, here.bars, here.range.early);
    }

pub rows_on : (rows : List MeterRow) (held : List CountedRow) (i : ℕ) (c : CountedRow) → i < length rows → i < length held →
    c.row ≡ get_or rows i no_row → rows_in i held ≡ take i rows → rows_in (i + 1) (set held i c) ≡ take (i + 1) rows
rows_on rows held i c l room e so_far =
    ap (map (λ (x : CountedRow). x.row)) (take_more_set held i c room)
    ∙ map-append (λ (x : CountedRow). x.row) (take i held) (c ∷ [])
    ∙ (ap (λ xs. xs ++ c.row ∷ []) so_far ∙ ap (λ r. take i rows ++ r ∷ []) e)
    ∙ sym (take_more rows i no_row l)

pub counts_on : (d : ℕ) (rows : List MeterRow) (held : List CountedRow) (i : ℕ) (c : CountedRow) → i < length held →
    c.before ≡ bars_before d rows i →
    ((k : ℕ) → k < i → (get_or held k no_counted).before ≡ bars_before d rows k) →
    (k : ℕ) → k < i + 1 → (get_or (set held i c) k no_counted).before ≡ bars_before d rows k
counts_on d rows held i c room e so_far =
    let count : CountedRow → ℕ = λ x. x.before in
    below_more (λ k. (get_or (set held i c) k no_counted).before ≡ bars_before d rows k) i
    (λ k h. let ne : k ≢ i = omega arith in ap count (get_or-set_other held i k c no_counted ne) ∙ so_far k h)
    (ap count (get_or-set_same held i c no_counted room) ∙ e)

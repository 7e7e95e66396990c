-- A bar and a tick looked up by the row in which they lie.
-- Assumes nothing.
use Rattle.std.specs.Prelude.{◌≡◌, ℕ, zero, suc, ◌+◌, ◌-◌, ◌*◌, ◌<◌, ◌≤◌, true, List, [], ◌∷◌, length, slice_index_or}
use Rattle.std.proofs.Common.{sym, ◌∙◌, ap, subst, inl, inr, arith, mul-le-mul_right, add-mul, zero-add}
use Rattle.std.proofs.lemmas.Bool.{cases_lt}
use Rattle.rows.specs.Sums.{sum_from}
use Rattle.rows.proofs.Ceiling.{Fewest}
use Rattle.meter.specs.Rules.{bar_of, all_kept}
use Rattle.meter.specs.BarLines.{no_row, gap_of, bar_from, FirstAt}
use Rattle.meter.specs.declared.row.MeterRow.{MeterRow}
use Rattle.meter.specs.Stretch.{Link, Parts, parts, inside, past}
use Rattle.meter.specs.Rising.{starts}
use Rattle.meter.specs.Places.{bars_le}

-- bar p lies in row i: it begins so many bars after the row's tick
pub bar_at : (d : ℕ) (r : MeterRow) (rest : List MeterRow) (i p : ℕ) → i < length (r ∷ rest) →
    sum_from (gap_of d) r rest i ≤ p → (suc i < length (r ∷ rest) → p < sum_from (gap_of d) r rest (suc i)) →
    bar_from d r rest p ≡ (slice_index_or (r ∷ rest) i no_row).tick + (p - sum_from (gap_of d) r rest i) * bar_of d (slice_index_or (r ∷ rest) i no_row)
bar_at d r [] zero p l a b = ap (λ x. r.tick + x * bar_of d r) (omega arith)
bar_at d r (s ∷ rest) zero p l a b =
    inside d r s rest p (omega (arith, b (omega arith))) ∙ ap (λ x. r.tick + x * bar_of d r) (omega arith)
bar_at d r [] (suc i) p l a b = absurd (omega arith)
bar_at d r (s ∷ rest) (suc i) p l a b =
    let m : MeterRow = slice_index_or (s ∷ rest) i no_row in
    past d r s rest p (omega arith)
    ∙ bar_at d s rest i (p - gap_of d r s) (omega arith) (omega arith) (λ l'. omega (arith, b (omega arith)))
    ∙ ap (λ x. m.tick + x * bar_of d m) (omega arith)

-- tick t lies in row i: the first bar at or after it is so many bars after the row's first
pub reach_at : (d : ℕ) (r : MeterRow) (rest : List MeterRow) (i t c : ℕ) → 1 ≤ d → all_kept d r rest ≡ true →
    i < length (r ∷ rest) → (slice_index_or (r ∷ rest) i no_row).tick ≤ t → (suc i < length (r ∷ rest) →
    t < (slice_index_or (r ∷ rest) (suc i) no_row).tick) →
    Fewest (t - (slice_index_or (r ∷ rest) i no_row).tick) (bar_of d (slice_index_or (r ∷ rest) i no_row)) c →
    FirstAt (bar_from d r rest) t (sum_from (gap_of d) r rest i + c)
reach_at d r [] zero t c h k l a b w =
    subst (FirstAt (bar_from d r []) t) (sym (zero-add c)) record {
      reaches = omega (arith, w.enough);
      before = λ p lt. omega (arith, w.fewer p lt);
    }
reach_at d r (s ∷ rest) zero t c h k l a b w =
    let ks : Parts d r s rest = parts d r s rest h k in
    let j : Link d r s = ks.joint in
    let below : t < s.tick = b (omega arith) in
    let early : c ≤ gap_of d r s = elim (cases_lt (gap_of d r s) c) [ inl lt ↦ omega (arith, w.fewer (gap_of d r s) lt) | inr le ↦ le ] in
    let on : c ≡ gap_of d r s → t ≤ bar_from d r (s ∷ rest) c =
    λ e. let z : c - gap_of d r s ≡ 0 = omega arith in
    omega (arith, past d r s rest c (omega arith), ap (bar_from d s rest) z, starts d s rest h ks.others) in
    subst (FirstAt (bar_from d r (s ∷ rest)) t) (sym (zero-add c)) record {
      reaches = elim (cases_lt c (gap_of d r s)) [
        | inl lt ↦ omega (arith, inside d r s rest c lt, w.enough)
        | inr ge ↦ on (omega arith)
      ];
      before = λ p lt. omega (arith, inside d r s rest p (omega arith), w.fewer p lt);
    }
reach_at d r [] (suc i) t c h k l a b w = absurd (omega arith)
reach_at d r (s ∷ rest) (suc i) t c h k l a b w =
    let ks : Parts d r s rest = parts d r s rest h k in
    let j : Link d r s = ks.joint in
    let m : ℕ = sum_from (gap_of d) s rest i + c in
    let ih : FirstAt (bar_from d s rest) t m =
    reach_at d s rest i t c h ks.others (omega arith) a (λ l'. b (omega arith)) w in
    let e : gap_of d r s + sum_from (gap_of d) s rest i + c - gap_of d r s ≡ m = omega arith in
    let low : (p : ℕ) → p < gap_of d r s → bar_from d r (s ∷ rest) p < t =
    λ p lt. omega (
      arith,
      inside d r s rest p lt,
      bars_le d s rest i h ks.others (omega arith),
      mul-le-mul_right (bar_of d r) (let f : p + 1 ≤ gap_of d r s = omega arith in f),
      add-mul p 1 (bar_of d r),
    ) in
    record {
      reaches = omega (arith, past d r s rest (gap_of d r s + sum_from (gap_of d) s rest i + c) (omega arith), ap (bar_from d s rest) e, ih.reaches);
      before = λ p lt. elim (cases_lt p (gap_of d r s)) [
        | inl in_row ↦ low p in_row
        | inr ge ↦ omega (arith, past d r s rest p ge, ih.before (p - gap_of d r s) (omega arith))
      ];
    }

-- The meter that is current at a tick, and that each bar is as long as the meter current at its line says.
-- Assumes nothing.
use Rattle.std.specs.Prelude.{◌≡◌, ℕ, suc, ◌+◌, ◌-◌, ◌*◌, ◌<◌, ◌≤◌, true, List, [], ◌∷◌, length, slice_index_or}
use Rattle.std.proofs.Common.{sym, ◌∙◌, ap, inl, inr, arith, add-one, add-mul, mul-le-mul_right}
use Rattle.std.proofs.lemmas.Bool.{cases_lt}
use Rattle.rows.specs.Current.{current_from}
use Rattle.rows.proofs.Currents as currents
use Rattle.rows.proofs.Currents.{before_next, from_next, rises_by}
use Rattle.rows.proofs.Strict.{never_falls}
use Rattle.meter.specs.Rules.{bar_of, all_kept}
use Rattle.meter.specs.BarLines.{no_row, gap_of, bar_from, tick_of}
use Rattle.meter.specs.declared.row.MeterRow.{MeterRow}
use Rattle.meter.specs.Stretch.{Link, Parts, parts, inside, past}
use Rattle.meter.specs.Rising.{starts, rises}
use Rattle.meter.specs.Places.{link_at}

abbrev row_from : MeterRow → List MeterRow → ℕ → MeterRow
row_from r rest t = current_from tick_of r rest t

pub current_at : (d : ℕ) (r : MeterRow) (rest : List MeterRow) (i t : ℕ) → 1 ≤ d → all_kept d r rest ≡ true →
    i < length (r ∷ rest) → (slice_index_or (r ∷ rest) i no_row).tick ≤ t → (suc i < length (r ∷ rest) →
    t < (slice_index_or (r ∷ rest) (suc i) no_row).tick) → row_from r rest t ≡ slice_index_or (r ∷ rest) i no_row
current_at d r rest i t h k l a b =
    let up = rises_by tick_of (r ∷ rest) no_row (λ j g. rw add-one (link_at d r rest j h k (omega arith)).later) in
    currents.current_at tick_of no_row (r ∷ rest) i t no_row up l a (λ g. rw add-one (b (omega arith)))

-- no bar from a row on begins before the row
not_before : (d : ℕ) (r : MeterRow) (rest : List MeterRow) (p : ℕ) → 1 ≤ d → all_kept d r rest ≡ true →
    r.tick ≤ bar_from d r rest p
not_before d r rest p h k =
    omega (arith, never_falls (bar_from d r rest) (λ q. rises d r rest q h k) 0 p (omega arith), starts d r rest h k)

-- the line after bar p of a row, also where the next row begins there
next_line : (d : ℕ) (r s : MeterRow) (rest : List MeterRow) (p : ℕ) → 1 ≤ d → all_kept d r (s ∷ rest) ≡ true →
    p < gap_of d r s → bar_from d r (s ∷ rest) (p + 1) ≡ r.tick + (p + 1) * bar_of d r
next_line d r s rest p h k lt =
    let ks : Parts d r s rest = parts d r s rest h k in
    let on : p + 1 ≡ gap_of d r s → bar_from d r (s ∷ rest) (p + 1) ≡ r.tick + (p + 1) * bar_of d r =
    λ e. let z : p + 1 - gap_of d r s ≡ 0 = omega arith in
    omega (
      arith,
      past d r s rest (p + 1) (omega arith),
      ap (bar_from d s rest) z,
      starts d s rest h ks.others,
      ks.joint.whole,
      ap (λ x. x * bar_of d r) e,
    ) in
    elim (cases_lt (p + 1) (gap_of d r s)) [ inl in_row ↦ inside d r s rest (p + 1) in_row | inr ge ↦ on (omega arith) ]

pub follows : (d : ℕ) (r : MeterRow) (rest : List MeterRow) (p : ℕ) → 1 ≤ d → all_kept d r rest ≡ true →
    bar_from d r rest (p + 1) ≡ bar_from d r rest p + bar_of d (row_from r rest (bar_from d r rest p))
follows d r [] p h k = omega (arith, add-mul p 1 (bar_of d r))
follows d r (s ∷ rest) p h k =
    let ks : Parts d r s rest = parts d r s rest h k in
    let j : Link d r s = ks.joint in
    let q : ℕ = p - gap_of d r s in
    let within : p < gap_of d r s →
    bar_from d r (s ∷ rest) (p + 1) ≡ bar_from d r (s ∷ rest) p + bar_of d (row_from r (s ∷ rest) (bar_from d r (s ∷ rest) p)) =
    λ lt. let here = inside d r s rest p lt in
    let early : bar_from d r (s ∷ rest) p < s.tick =
    omega (arith, here, mul-le-mul_right (bar_of d r) (let f : p + 1 ≤ gap_of d r s = omega arith in f), add-mul p 1 (bar_of d r)) in
    omega (arith, next_line d r s rest p h k lt, here, ap (bar_of d) (before_next tick_of r s rest (bar_from d r (s ∷ rest) p) early), add-mul p 1 (bar_of d r)) in
    let beyond : gap_of d r s ≤ p →
    bar_from d r (s ∷ rest) (p + 1) ≡ bar_from d r (s ∷ rest) p + bar_of d (row_from r (s ∷ rest) (bar_from d r (s ∷ rest) p)) =
    λ ge. let z : p + 1 - gap_of d r s ≡ q + 1 = omega arith in
    let here = past d r s rest p ge in
    let late : s.tick ≤ bar_from d r (s ∷ rest) p = omega (arith, here, not_before d s rest q h ks.others) in
    past d r s rest (p + 1) (omega arith) ∙ (ap (bar_from d s rest) z ∙ (follows d s rest q h ks.others
    ∙ (ap (λ x. x + bar_of d (row_from s rest x)) (sym here)
    ∙ ap (λ x. bar_from d r (s ∷ rest) p + bar_of d x) (sym (from_next tick_of r s rest (bar_from d r (s ∷ rest) p) late))))) in
    elim (cases_lt p (gap_of d r s)) [ inl lt ↦ within lt | inr ge ↦ beyond ge ]

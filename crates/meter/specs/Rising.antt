-- The ticks of bar lines rise strictly, from the first row's.
-- Assumes nothing.
use Rattle.std.specs.Prelude.{◌≡◌, ℕ, ◌+◌, ◌-◌, ◌*◌, ◌<◌, ◌≤◌, true, List, [], ◌∷◌}
use Rattle.std.proofs.Common.{◌∙◌, ap, inl, inr, add-mul, arith}
use Rattle.std.proofs.lemmas.Bool.{cases_order}
use Rattle.meter.specs.Rules.{bar_of, all_kept}
use Rattle.meter.specs.BarLines.{gap_of, bar_from}
use Rattle.meter.specs.declared.row.MeterRow.{MeterRow}
use Rattle.meter.specs.Ranges.{bar_pos}
use Rattle.meter.specs.Stretch.{Link, Parts, parts, inside, past}

pub starts : (d : ℕ) (r : MeterRow) (rest : List MeterRow) → 1 ≤ d → all_kept d r rest ≡ true →
    bar_from d r rest 0 ≡ r.tick
starts d r [] h k = omega arith
starts d r (s ∷ rest) h k =
    let j : Link d r s = (parts d r s rest h k).joint in
    inside d r s rest 0 j.some ∙ omega arith

pub rises : (d : ℕ) (r : MeterRow) (rest : List MeterRow) (p : ℕ) → 1 ≤ d → all_kept d r rest ≡ true →
    bar_from d r rest p < bar_from d r rest (p + 1)
rises d r [] p h k = omega (arith, bar_pos d r h k, add-mul p 1 (bar_of d r))
rises d r (s ∷ rest) p h k =
    let ks : Parts d r s rest = parts d r s rest h k in
    let j : Link d r s = ks.joint in
    let within : p + 1 < gap_of d r s → bar_from d r (s ∷ rest) p < bar_from d r (s ∷ rest) (p + 1) =
    λ lt. omega (arith, inside d r s rest p (omega arith), inside d r s rest (p + 1) lt, add-mul p 1 (bar_of d r)) in
    let across : p + 1 ≡ gap_of d r s → bar_from d r (s ∷ rest) p < bar_from d r (s ∷ rest) (p + 1) =
    λ e. let z : p + 1 - gap_of d r s ≡ 0 = omega arith in
    omega (
      arith,
      inside d r s rest p (omega arith),
      past d r s rest (p + 1) (omega arith),
      ap (bar_from d s rest) z,
      starts d s rest h ks.others,
      ap (λ x. x * bar_of d r) e,
      add-mul p 1 (bar_of d r),
    ) in
    let beyond : gap_of d r s ≤ p → bar_from d r (s ∷ rest) p < bar_from d r (s ∷ rest) (p + 1) =
    λ ge. let z : p + 1 - gap_of d r s ≡ p - gap_of d r s + 1 = omega arith in
    omega (
      arith,
      past d r s rest p ge,
      past d r s rest (p + 1) (omega arith),
      ap (bar_from d s rest) z,
      rises d s rest (p - gap_of d r s) h ks.others,
    ) in
    elim (cases_order (p + 1) (gap_of d r s)) [
      | inl e ↦ across e
      | inr o ↦ elim o [ inl lt ↦ within lt | inr gt ↦ beyond (omega arith) ]
    ]

-- Ticks added up: each lies a tick of the current tempo after the one before, and is found by the row in which it lies.
-- Assumes nothing.
use Rattle.std.specs.Prelude.{◌≡◌, ℕ, zero, suc, ◌+◌, ◌<◌, ◌≤◌, true, List, [], ◌∷◌, length, get_or, slice_index_or}
use Rattle.std.proofs.Common.{◌∙◌, ap, inl, inr, arith}
use Rattle.std.proofs.lemmas.Bool.{cases_lt}
use Rattle.rows.specs.Current.{current_from}
use Rattle.rows.specs.Sums.{sum_from}
use Rattle.rows.proofs.Currents.{before_next, from_next}
use Rattle.tempo.specs.Rules.{all_kept}
use Rattle.tempo.specs.Micros.{no_row, stretch, micros_from, whole_stretch}
use Rattle.tempo.specs.declared.row.TempoRow.{TempoRow}
use Rattle.tempo.specs.Stretch.{tick_of, Parts, parts, inside, past, stretch_more, no_stretch}
use Rattle.tempo.specs.Places.{ranged}

abbrev row_from : TempoRow → List TempoRow → ℕ → TempoRow
row_from r rest t = current_from tick_of r rest t

pub starts : (r : TempoRow) (rest : List TempoRow) (last : ℕ) → all_kept r rest last ≡ true →
    micros_from r rest r.tick ≡ 0
starts r [] last k = no_stretch r
starts r (s ∷ rest) last k = inside r s rest r.tick (parts r s rest last k).later ∙ no_stretch r

-- up to the next row's tick, and at it, the row's own tempo says it
up_to : (r s : TempoRow) (rest : List TempoRow) (last p : ℕ) → all_kept r (s ∷ rest) last ≡ true → p ≤ s.tick →
    micros_from r (s ∷ rest) p ≡ stretch r p
up_to r s rest last p k h =
    let on : p ≡ s.tick → micros_from r (s ∷ rest) p ≡ stretch r p =
    λ e. omega (
      arith,
      past r s rest p (omega arith),
      ap (micros_from s rest) e,
      starts s rest last (parts r s rest last k).others,
      ap (stretch r) e,
    ) in
    elim (cases_lt p s.tick) [ inl lt ↦ inside r s rest p lt | inr ge ↦ on (omega arith) ]

pub follows : (r : TempoRow) (rest : List TempoRow) (last p : ℕ) → all_kept r rest last ≡ true → r.tick ≤ p →
    micros_from r rest (p + 1) ≡ micros_from r rest p + (row_from r rest p).q
follows r [] last p k h = stretch_more r p h
follows r (s ∷ rest) last p k h =
    let ks : Parts r s rest last = parts r s rest last k in
    let f : ℕ → ℕ = micros_from r (s ∷ rest) in
    let within : p < s.tick → f (p + 1) ≡ f p + (row_from r (s ∷ rest) p).q =
    λ lt. omega (
      arith,
      up_to r s rest last (p + 1) k (omega arith),
      up_to r s rest last p k (omega arith),
      stretch_more r p h,
      ap (λ (x : TempoRow). x.q) (before_next tick_of r s rest p lt),
    ) in
    let beyond : s.tick ≤ p → f (p + 1) ≡ f p + (row_from r (s ∷ rest) p).q =
    λ ge. omega (
      arith,
      past r s rest (p + 1) (omega arith),
      past r s rest p ge,
      follows s rest last p ks.others ge,
      ap (λ (x : TempoRow). x.q) (from_next tick_of r s rest p ge),
    ) in
    elim (cases_lt p s.tick) [ inl lt ↦ within lt | inr ge ↦ beyond ge ]

-- tick p lies in row i, or at the next row's tick: it is so far after the row's own
pub found : (r : TempoRow) (rest : List TempoRow) (last i p : ℕ) → all_kept r rest last ≡ true → i < length (r ∷ rest) →
    (get_or (r ∷ rest) i no_row).tick ≤ p → (suc i < length (r ∷ rest) → p ≤ (get_or (r ∷ rest) (suc i) no_row).tick) →
    micros_from r rest p ≡ sum_from whole_stretch r rest i + stretch (slice_index_or (r ∷ rest) i no_row) p
found r [] last zero p k l a b = omega arith
found r (s ∷ rest) last zero p k l a b = omega (arith, up_to r s rest last p k (b (omega arith)))
found r [] last (suc i) p k l a b = absurd (omega arith)
found r (s ∷ rest) last (suc i) p k l a b =
    let ks : Parts r s rest last = parts r s rest last k in
    let late : s.tick ≤ p = omega (arith, (ranged s rest last i ks.others (omega arith)).later) in
    omega (arith, past r s rest p late, found s rest last i p ks.others (omega arith) a (λ l'. b (omega arith)))

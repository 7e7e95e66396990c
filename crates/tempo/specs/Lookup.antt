-- The first tick at or after a sum, looked up by the row in which the sum lies.
--   tick_parts  the tick so found parts the ticks that reach
-- Assumes nothing.
use Rattle.std.specs.Prelude.{◌≡◌, ℕ, ◌+◌, ◌-◌, ◌*◌, ◌<◌, ◌≤◌, true, List, length, slice_index_or}
use Rattle.std.proofs.Common.{inl, inr, arith}
use Rattle.std.proofs.lemmas.Bool.{cases_lt}
use Rattle.tempo.specs.Rules.{rows_kept}
use Rattle.tempo.specs.Micros.{no_row, micros, micros_before}
use Rattle.tempo.specs.Lies.{Parted}
use Rattle.tempo.specs.declared.row.TempoRow.{TempoRow}
use Rattle.tempo.specs.Whole.{Linked, linked_at}
use Rattle.tempo.specs.Found.{micros_found, micros_row}
use Rattle.tempo.specs.Rising.{micros_rise, micros_not_fall}

-- from the row on, up to the next row's tick
within : (rows : List TempoRow) (last i x c p : ℕ) → rows_kept rows last ≡ true → i < length rows →
    micros_before rows i ≤ x → Parted (λ n. n * (slice_index_or rows i no_row).q) (x - micros_before rows i) c →
    (slice_index_or rows i no_row).tick ≤ p → (i + 1 < length rows → p ≤ (slice_index_or rows (i + 1) no_row).tick) →
    ((slice_index_or rows i no_row).tick + c ≤ p → x ≤ micros rows p) × (x ≤ micros rows p → (slice_index_or rows i no_row).tick + c ≤ p)
within rows last i x c p k l a parted from upto =
    let at = micros_found rows last i p k l from upto in
    let both = parted (p - (slice_index_or rows i no_row).tick) in
    (λ le. omega (arith, at, both.0 (omega arith)), λ le. omega (arith, at, both.1 (omega (arith, at))))

-- past the next row's tick
beyond : (rows : List TempoRow) (last i x c p : ℕ) → rows_kept rows last ≡ true → i + 1 < length rows →
    micros_before rows i ≤ x → x < micros_before rows (i + 1) →
    Parted (λ n. n * (slice_index_or rows i no_row).q) (x - micros_before rows i) c → (slice_index_or rows (i + 1) no_row).tick < p →
    ((slice_index_or rows i no_row).tick + c ≤ p → x ≤ micros rows p) × (x ≤ micros rows p → (slice_index_or rows i no_row).tick + c ≤ p)
beyond rows last i x c p k l a b parted late =
    let link : Linked rows i = linked_at rows last i k l in
    let next = micros_row rows last (i + 1) k l in
    let up = micros_not_fall rows last (slice_index_or rows (i + 1) no_row).tick p k (omega arith) in
    let gap = parted ((slice_index_or rows (i + 1) no_row).tick - (slice_index_or rows i no_row).tick) in
    (λ le. omega (arith, next, up), λ le. omega (arith, link.later, gap.1 (omega (arith, link.sum))))

pub tick_parts : (rows : List TempoRow) (last i x c : ℕ) → rows_kept rows last ≡ true → i < length rows →
    micros_before rows i ≤ x → (i + 1 < length rows → x < micros_before rows (i + 1)) →
    Parted (λ n. n * (slice_index_or rows i no_row).q) (x - micros_before rows i) c →
    Parted (micros rows) x ((slice_index_or rows i no_row).tick + c)
tick_parts rows last i x c k l a b parted p =
    let here = micros_row rows last i k l in
    let early : p < (slice_index_or rows i no_row).tick → micros rows p < x =
    λ lt. omega (arith, here, micros_rise rows last p (slice_index_or rows i no_row).tick k lt) in
    elim (cases_lt p (slice_index_or rows i no_row).tick) [
      | inl lt ↦ (λ le. absurd (omega arith), λ le. absurd (omega (arith, early lt)))
      | inr from ↦
          elim (cases_lt (i + 1) (length rows)) [
            | inl more ↦
                elim (cases_lt (slice_index_or rows (i + 1) no_row).tick p) [
                  | inl late ↦ beyond rows last i x c p k more a (b more) parted late
                  | inr upto ↦ within rows last i x c p k l a parted from (λ h. upto)
                ]
            | inr end ↦ within rows last i x c p k l a parted from (λ h. absurd (omega arith))
          ]
    ]

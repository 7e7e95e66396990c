-- What a row's test says in numbers, and that a bar has at least one tick and not too many.
-- Assumes nothing.
use Rattle.std.specs.Prelude.{◌≡◌, ℕ, ◌*◌, ◌/◌, ◌%◌, ◌^◌, ◌≤◌, true}
use Rattle.std.proofs.Common.{inl, inr, div-le_self, arith}
use Rattle.std.proofs.lemmas.Nat.{mul-le, div-add-mod'}
use Rattle.std.proofs.lemmas.Bool.{cases_lt}
use Rattle.std.proofs.lemmas.Bool.Decides.{nat_tests}
use Rattle.meter.specs.Rules.{beat_of, bar_of, row_kept}
use Rattle.meter.specs.declared.row.MeterRow.{MeterRow}

pub record InRange (division : ℕ) (r : MeterRow) : Type 0 where
  pub some_beats : 1 ≤ r.nn
  pub few_beats : r.nn ≤ 64
  pub note : r.dd ≤ 6
  pub whole : 4 * division % 2 ^ r.dd ≡ 0
  pub early : r.tick ≤ 1073741823

pub in_range : (division : ℕ) (r : MeterRow) → row_kept division r ≡ true → InRange division r
in_range division r h = record {
  some_beats = grind (arith, nat_tests);
  few_beats = grind (arith, nat_tests);
  note = grind (arith, nat_tests);
  whole = grind (arith, nat_tests);
  early = grind (arith, nat_tests);
}

-- a whole beat has a tick at least
pub beat_pos : (n m : ℕ) → 1 ≤ n → n % m ≡ 0 → 1 ≤ n / m
beat_pos n m h z =
    let none : n / m ≡ 0 → 1 ≤ n / m = λ e. omega (arith, rw e at (div-add-mod' n m)) in
    elim (cases_lt 0 (n / m)) [ inl some ↦ some | inr few ↦ none (omega arith) ]

pub bar_pos : (division : ℕ) (r : MeterRow) → 1 ≤ division → row_kept division r ≡ true → 1 ≤ bar_of division r
bar_pos division r d h =
    let i : InRange division r = in_range division r h in
    let beat : 1 ≤ beat_of division r = beat_pos (4 * division) (2 ^ r.dd) (omega arith) i.whole in
    omega (arith, mul-le 1 1 r.nn (beat_of division r) i.some_beats beat)

pub bar_below : (division : ℕ) (r : MeterRow) → division ≤ 32767 → r.nn ≤ 64 → bar_of division r ≤ 8388352
bar_below division r d n =
    let beat : beat_of division r ≤ 131068 = omega (arith, div-le_self (4 * division) (2 ^ r.dd)) in
    omega (arith, mul-le r.nn (beat_of division r) 64 131068 n beat)

-- How far ticks lie rises strictly.
-- Assumes nothing.
use Rattle.std.specs.Prelude.{◌≡◌, ℕ, ◌<◌, ◌≤◌, true, List}
use Rattle.std.proofs.Common.{arith}
use Rattle.rows.proofs.Strict.{Strict, rises_over, never_falls}
use Rattle.tempo.specs.Rules.{rows_kept}
use Rattle.tempo.specs.Micros.{micros}
use Rattle.tempo.specs.declared.row.TempoRow.{TempoRow}
use Rattle.tempo.specs.Whole.{micros_follow, never_still}

strict : (rows : List TempoRow) (last : ℕ) → rows_kept rows last ≡ true → Strict (micros rows)
strict rows last k p = omega (arith, micros_follow rows last p k, never_still rows last p k)

pub micros_rise : (rows : List TempoRow) (last p q : ℕ) → rows_kept rows last ≡ true → p < q →
    micros rows p < micros rows q
micros_rise rows last p q k h = rises_over (micros rows) (strict rows last k) p q h

pub micros_not_fall : (rows : List TempoRow) (last p q : ℕ) → rows_kept rows last ≡ true → p ≤ q →
    micros rows p ≤ micros rows q
micros_not_fall rows last p q k h = never_falls (micros rows) (strict rows last k) p q h

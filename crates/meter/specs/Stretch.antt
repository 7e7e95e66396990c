-- A row and the one after it: the rules as numbers, and what the first bars of a row are.
-- Assumes nothing.
use Rattle.std.specs.Prelude.{◌≡◌, ℕ, ◌+◌, ◌-◌, ◌*◌, ◌%◌, ◌<◌, ◌≤◌, true, ◌&&◌, List, ◌∷◌}
use Rattle.std.proofs.Common.{sym, arith}
use Rattle.std.proofs.lemmas.Nat.{div-add-mod'}
use Rattle.std.proofs.lemmas.Bool.{and_parts, cond_below, cond-false, le-ltb}
use Rattle.std.proofs.lemmas.Bool.Decides.{nat_tests}
use Rattle.meter.specs.Rules.{bar_of, row_kept, next_kept, all_kept}
use Rattle.meter.specs.BarLines.{gap_of, bar_from}
use Rattle.meter.specs.declared.row.MeterRow.{MeterRow}
use Rattle.meter.specs.Ranges.{beat_pos, bar_pos}

-- the second row lies a whole number of bars after the first, at least one
pub record Link (d : ℕ) (r s : MeterRow) : Type 0 where
  pub bar : 1 ≤ bar_of d r
  pub later : r.tick < s.tick
  pub some : 1 ≤ gap_of d r s
  pub whole : r.tick + gap_of d r s * bar_of d r ≡ s.tick

next_later : (d : ℕ) (r s : MeterRow) → next_kept d r s ≡ true → r.tick < s.tick
next_later d r s n = grind (arith, nat_tests)

next_whole : (d : ℕ) (r s : MeterRow) → next_kept d r s ≡ true → (s.tick - r.tick) % bar_of d r ≡ 0
next_whole d r s n = grind (arith, nat_tests)

pub link : (d : ℕ) (r s : MeterRow) → 1 ≤ d → row_kept d r ≡ true → next_kept d r s ≡ true → Link d r s
link d r s h k n =
    let later : r.tick < s.tick = next_later d r s n in
    let z : (s.tick - r.tick) % bar_of d r ≡ 0 = next_whole d r s n in
    record {
      bar = bar_pos d r h k;
      later = later;
      some = beat_pos (s.tick - r.tick) (bar_of d r) (omega arith) z;
      whole = omega (arith, div-add-mod' (s.tick - r.tick) (bar_of d r));
    }

-- the parts of the rules of a row with others after it
pub record Parts (d : ℕ) (r s : MeterRow) (rest : List MeterRow) : Type 0 where
  pub row : row_kept d r ≡ true
  pub joint : Link d r s
  pub others : all_kept d s rest ≡ true

pub parts : (d : ℕ) (r s : MeterRow) (rest : List MeterRow) → 1 ≤ d → all_kept d r (s ∷ rest) ≡ true → Parts d r s rest
parts d r s rest h k =
    let ab = and_parts (row_kept d r && next_kept d r s) (all_kept d s rest) k in
    let a = and_parts (row_kept d r) (next_kept d r s) ab.0 in
    record { row = a.0; joint = link d r s h a.0 a.1; others = ab.1 }

pub inside : (d : ℕ) (r s : MeterRow) (rest : List MeterRow) (p : ℕ) → p < gap_of d r s →
    bar_from d r (s ∷ rest) p ≡ r.tick + p * bar_of d r
inside d r s rest p h = sym (cond_below p (gap_of d r s) (r.tick + p * bar_of d r) (bar_from d s rest (p - gap_of d r s)) h)

pub past : (d : ℕ) (r s : MeterRow) (rest : List MeterRow) (p : ℕ) → gap_of d r s ≤ p →
    bar_from d r (s ∷ rest) p ≡ bar_from d s rest (p - gap_of d r s)
past d r s rest p h = cond-false _ _ _ (le-ltb p (gap_of d r s) h)

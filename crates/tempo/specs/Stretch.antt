-- A row and the one after it: the rules as numbers, and what lies before the second row's tick and from it on.
--   tick_of  where a row begins
--   Parts    the rules of a row with others after it, one by one
--   inside   before the second row's tick the first row's tempo holds
--   past     from it on, what the first row takes is behind
-- Assumes nothing.
use Rattle.std.specs.Prelude.{◌≡◌, ℕ, ◌+◌, ◌-◌, ◌*◌, ◌<◌, ◌≤◌, true, List, ◌∷◌}
use Rattle.std.proofs.Common.{arith, add-mul}
use Rattle.std.proofs.lemmas.Bool.{and_parts, cond-true, cond-false, lt-ltb, le-ltb}
use Rattle.std.proofs.lemmas.Bool.Decides.{nat_tests}
use Rattle.tempo.specs.Rules.{next_kept, last_kept, all_kept}
use Rattle.tempo.specs.Micros.{stretch, micros_from}
use Rattle.tempo.specs.declared.row.TempoRow.{TempoRow}

abbrev pub tick_of : TempoRow → ℕ
tick_of r = r.tick

pub record Parts (r s : TempoRow) (rest : List TempoRow) (last : ℕ) : Type 0 where
  pub some : 1 ≤ r.q
  pub few : r.q ≤ 16777215
  pub later : r.tick < s.tick
  pub others : all_kept s rest last ≡ true

pub next_numbers : (r s : TempoRow) → next_kept r s ≡ true → (1 ≤ r.q) × (r.q ≤ 16777215) × (r.tick < s.tick)
next_numbers r s h = (grind (arith, nat_tests), grind (arith, nat_tests), grind (arith, nat_tests))

pub last_numbers : (r : TempoRow) (last : ℕ) → last_kept r last ≡ true →
    (1 ≤ r.q) × (r.q ≤ 16777215) × (r.tick ≤ last)
last_numbers r last h = (grind (arith, nat_tests), grind (arith, nat_tests), grind (arith, nat_tests))

pub parts : (r s : TempoRow) (rest : List TempoRow) (last : ℕ) → all_kept r (s ∷ rest) last ≡ true → Parts r s rest last
parts r s rest last k =
    let ab = and_parts (next_kept r s) (all_kept s rest last) k in
    let n = next_numbers r s ab.0 in
    record { some = n.0; few = n.1; later = n.2; others = ab.1 }

pub inside : (r s : TempoRow) (rest : List TempoRow) (p : ℕ) → p < s.tick →
    micros_from r (s ∷ rest) p ≡ stretch r p
inside r s rest p h = cond-true _ _ _ (lt-ltb p s.tick h)

pub past : (r s : TempoRow) (rest : List TempoRow) (p : ℕ) → s.tick ≤ p →
    micros_from r (s ∷ rest) p ≡ stretch r s.tick + micros_from s rest p
past r s rest p h = cond-false _ _ _ (le-ltb p s.tick h)

-- a tick more takes a tick's time
pub stretch_more : (r : TempoRow) (p : ℕ) → r.tick ≤ p → stretch r (p + 1) ≡ stretch r p + r.q
stretch_more r p h =
    let e : p + 1 - r.tick ≡ p - r.tick + 1 = omega arith in
    omega (arith, (let f : stretch r (p + 1) ≡ (p - r.tick + 1) * r.q = rw e in f), add-mul (p - r.tick) 1 r.q)

pub no_stretch : (r : TempoRow) → stretch r r.tick ≡ 0
no_stretch r =
    let e : r.tick - r.tick ≡ 0 = omega arith in
    let f : stretch r r.tick ≡ 0 * r.q = rw e in
    omega arith

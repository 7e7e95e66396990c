-- Layers that change positions, by any g that is never below its argument, with its least argument that reaches.
--   positions_length  the length is back of the lower length
--   positions_inside, positions_outside
--                     a position is below the layer's length exactly where the changed one is below the lower length
--   positions_sound   the layer keeps the law of a timebase
--   positions_least   back of what the lower timebase locates locates
--   positions_agree   so place and locate agree
--   positions_placed  placing the changed position below places
--   positions_far     past 2^36 nothing is placed
-- Assumes nothing.
use Rattle.std.specs.Prelude.{◌≡◌, ℕ, ◌^◌, ◌<◌, ◌≤◌, Err, nat_lt}
use Rattle.std.proofs.Common.{arith}
use Rattle.std.proofs.lemmas.Grind.{common_steps}
use Rattle.refusal.specs.declared.Refusal.TheVariants.{NoPosition}
use Rattle.timebase.specs.Meaning.{Meaning, Sound, Least, Agree, placed}
use Rattle.timebase.specs.Tally.{Cut, tally_cut}
use Rattle.timebase.specs.Locates.{least_agrees}
use Rattle.layers.specs.Layers.{Pair, Ahead, on_positions}
use Rattle.layers.specs.Changes.{pair_rises, pair_before}

pub positions_length : {g back : ℕ → ℕ} → Pair g back → Ahead g → (m : Meaning) → (on_positions g m).len ≡ back m.len
positions_length {g} {back} pair ahead m =
    let n = m.len in
    let cut : Cut (λ p. nat_lt (g p) n) (back n) n =
    record {
      inside = pair.reaches n n (ahead n);
      passes = λ p h. grind (arith, common_steps, pair_before pair h);
      fails = λ p h _. grind (arith, common_steps, pair.reached n p h);
    } in
    tally_cut _ _ _ cut

pub positions_inside : {g back : ℕ → ℕ} → Pair g back → Ahead g → (m : Meaning) (p : ℕ) →
    p < (on_positions g m).len → g p < m.len
positions_inside pair ahead m p h = pair_before pair (omega (arith, positions_length pair ahead m))

pub positions_outside : {g back : ℕ → ℕ} → Pair g back → Ahead g → (m : Meaning) (p : ℕ) →
    (on_positions g m).len ≤ p → m.len ≤ g p
positions_outside pair ahead m p h = pair.reached m.len p (omega (arith, positions_length pair ahead m))

pub positions_sound : {g back : ℕ → ℕ} → Pair g back → Ahead g → {m : Meaning} → Sound m → Sound (on_positions g m)
positions_sound {g} pair ahead {m} sound =
    let inside = positions_inside pair ahead m in
    record {
      short = omega (arith, positions_length pair ahead m, pair.reaches m.len m.len (ahead m.len), sound.short);
      within = λ p h. sound.within (g p) (inside p h);
      never_falls = λ p q h k. sound.never_falls (g p) (g q) (pair_rises pair h) (inside q k);
    }

pub positions_least : {g back : ℕ → ℕ} → Pair g back → Ahead g → {m : Meaning} → Sound m → {s r : ℕ} → Least m s r →
    Least (on_positions g m) s (back r)
positions_least {g} {back} pair ahead {m} sound {s} {r} least =
    let length = positions_length pair ahead m in
    let n = back m.len in
    let inside = positions_inside pair ahead m (back r) in
    record {
      inside = grind (arith, length, pair.reaches r n, pair.reached m.len n, least.inside);
      reaches = λ h. grind (arith, inside h, pair.reached r (back r), least.reaches, sound.never_falls r (g (back r)));
      before = λ p h. least.before (g p) (pair_before pair h);
    }

pub positions_agree : {g back : ℕ → ℕ} → Pair g back → Ahead g → {m : Meaning} → Sound m → {s r : ℕ} → Least m s r →
    Agree (on_positions g m) s (back r)
positions_agree pair ahead sound least =
    least_agrees _ (positions_sound pair ahead sound) _ _ (positions_least pair ahead sound least)

pub positions_placed : {g back : ℕ → ℕ} → Pair g back → Ahead g → (m : Meaning) (p : ℕ) →
    placed m (g p) ≡ placed (on_positions g m) p
positions_placed pair ahead m p =
    grind (arith, common_steps, positions_inside pair ahead m p, positions_outside pair ahead m p)

-- no timebase is longer than 2^36
pub positions_far : {g back : ℕ → ℕ} → Pair g back → Ahead g → {m : Meaning} → Sound m → (p : ℕ) → 2 ^ 36 ≤ p →
    Err NoPosition ≡ placed (on_positions g m) p
positions_far pair ahead sound p h = grind (arith, common_steps, (positions_sound pair ahead sound).short)

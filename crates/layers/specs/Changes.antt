-- What every layer's proof uses: a change with its least argument that reaches, and what placing answers.
--   pair_rises                 such a change never falls
--   pair_before                before the least argument that reaches s, the result lies before s
--   uncapped                   up to 2^36 a change takes the number as it is
--   placed_below, placed_past  what placing answers below the length, and past it
--   placed_within              what is placed is a sample
-- Assumes nothing.
use Rattle.std.specs.Prelude.{◌≡◌, ℕ, ◌^◌, ◌<◌, ◌≤◌, min, Ok, Err}
use Rattle.std.proofs.Common.{arith}
use Rattle.std.proofs.lemmas.Grind.{common_steps}
use Rattle.refusal.specs.declared.Refusal.TheVariants.{NoPosition}
use Rattle.timebase.specs.Meaning.{Meaning, Sound, placed, last_sample}
use Rattle.layers.specs.Layers.{Pair}

pub pair_rises : {g back : ℕ → ℕ} → Pair g back → {t u : ℕ} → t ≤ u → g t ≤ g u
pair_rises pair h = grind (arith, pair.reached, pair.reaches)

pub pair_before : {g back : ℕ → ℕ} → Pair g back → {s t : ℕ} → t < back s → g t < s
pair_before pair h = grind (arith, pair.reaches)

pub uncapped : (f : ℕ → ℕ) {n : ℕ} → n ≤ 2 ^ 36 → f (min n (2 ^ 36)) ≡ f n
uncapped f h = grind arith

pub placed_below : (m : Meaning) (p : ℕ) → p < m.len → placed m p ≡ Ok (m.rule p)
placed_below m p h = grind (arith, common_steps)

pub placed_past : (m : Meaning) (p : ℕ) → m.len ≤ p → placed m p ≡ Err NoPosition
placed_past m p h = grind (arith, common_steps)

pub placed_within : (m : Meaning) → Sound m → (p s : ℕ) → Ok s ≡ placed m p → s ≤ last_sample
placed_within m sound p s e = grind (arith, common_steps, sound.within)

-- Layers that change samples, by any g with its least argument that reaches.
--   samples_cut     the positions whose result is a sample are those below the layer's length
--   samples_sound   the layer keeps the law of a timebase
--   samples_least   asking the lower timebase for back s locates s
--   samples_agree   so place and locate agree
--   samples_end     the length is what is located for the sample after the last
--   samples_length  so it is what the lower timebase locates for back of that sample
--   samples_placed  placing below, then changing and checking the sample, places
-- Assumes nothing.
use Rattle.std.specs.Prelude.{◌≡◌, ℕ, ◌^◌, min, Result, nat_le}
use Rattle.std.proofs.Common.{arith}
use Rattle.std.proofs.lemmas.Grind.{common_steps}
use Rattle.refusal.specs.declared.Refusal.{Refusal}
use Rattle.timebase.specs.Meaning.{Meaning, Sound, Least, Agree, placed, last_sample}
use Rattle.timebase.specs.Tally.{Cut, tally_cuts}
use Rattle.timebase.specs.Locates.{least_agrees}
use Rattle.layers.specs.Layers.{Pair, on_samples, checked}
use Rattle.layers.specs.Changes.{pair_rises, pair_before}

pub samples_cut : {g back : ℕ → ℕ} → Pair g back → {m : Meaning} → Sound m →
    Cut (λ p. nat_le (g (m.rule p)) last_sample) (on_samples g m).len m.len
samples_cut {g} pair {m} sound =
    tally_cuts (λ p. nat_le (g (m.rule p)) last_sample) m.len (λ p q h inside e.
    grind (arith, common_steps, pair_rises pair (sound.never_falls p q h inside)))

pub samples_sound : {g back : ℕ → ℕ} → Pair g back → {m : Meaning} → Sound m → Sound (on_samples g m)
samples_sound pair sound =
    let cut = samples_cut pair sound in
    record {
      short = omega (arith, cut.inside, sound.short);
      within = λ p h. grind (arith, common_steps, cut.passes p h);
      never_falls = λ p q h k. pair_rises pair (sound.never_falls p q h (omega (arith, cut.inside)));
    }

pub samples_least : {g back : ℕ → ℕ} → Pair g back → {m : Meaning} → Sound m → {s r : ℕ} →
    Least m (back (min s (2 ^ 36))) r → Least (on_samples g m) s r
samples_least {g} pair {m} sound {s} {r} least =
    let cut = samples_cut pair sound in
    let n = (on_samples g m).len in
    let t = min s (2 ^ 36) in
    record {
      inside = grind (arith, common_steps, cut.inside, cut.fails n, least.inside, least.before n, pair_before pair {s = t} {t = m.rule n});
      reaches = λ h. grind (arith, common_steps, cut.inside, cut.passes r h, least.reaches, pair.reached t (m.rule r));
      before = λ p h. omega (arith, pair_before pair (least.before p h));
    }

pub samples_agree : {g back : ℕ → ℕ} → Pair g back → {m : Meaning} → Sound m → {s r : ℕ} →
    Least m (back (min s (2 ^ 36))) r → Agree (on_samples g m) s r
samples_agree pair sound least = least_agrees _ (samples_sound pair sound) _ _ (samples_least pair sound least)

pub samples_end : {g back : ℕ → ℕ} → Pair g back → {m : Meaning} → Sound m → {r : ℕ} →
    Least (on_samples g m) (2 ^ 36) r → r ≡ (on_samples g m).len
samples_end pair sound {r} least = grind (arith, least.inside, least.reaches, (samples_sound pair sound).within r)

pub samples_length : {g back : ℕ → ℕ} → Pair g back → {m : Meaning} → Sound m → {r : ℕ} →
    Least m (back (2 ^ 36)) r → r ≡ (on_samples g m).len
samples_length pair sound least = samples_end pair sound (samples_least pair sound least)

pub samples_placed : {g back : ℕ → ℕ} → Pair g back → {m : Meaning} → Sound m → (p : ℕ) {r : Result ℕ Refusal} →
    r ≡ placed m p → checked g r ≡ placed (on_samples g m) p
samples_placed pair sound p e =
    let cut = samples_cut pair sound in
    grind (arith, common_steps, e, cut.inside, cut.passes p, cut.fails p)

-- The law over any list of layers, from the two lemmas on layers and the pairs of the layers.
--   lawful           a layer whose numbers are in range shows its pair
--   change_answers   a lawful change on what answers answers
--   answers_agree    what answers agrees
--   piles_agree      the law, by induction over the list
-- Assumes nothing.
use Rattle.std.proofs.Common.{◌≡◌, ℕ, ◌^◌, ◌<◌, min, true, List, [], ◌∷◌, Result, ◌∙◌, arith}
use Rattle.std.proofs.lemmas.Grind.{common_steps}
use Rattle.refusal.specs.declared.Refusal.{Refusal}
use Rattle.timebase.specs.Meaning.{Meaning}
use Rattle.timebase.specs.Scale.{in_range}
use Rattle.timebase.specs.Locates.{least_agrees}
use Rattle.layers.specs.Layers.{Pair, Ahead}
use Rattle.layers.specs.Piles.{Layer, delay, varispeed, start, pulldown, bars, Fits, AllFit, Change, samples, positions, change, layered, asks_locate, asks_place, piled, located_through, placed_through, Answers, Agreement, PlaceAndLocateAgree}
use Rattle.layers.specs.Samples.{samples_sound, samples_least, samples_placed}
use Rattle.layers.specs.Positions.{positions_sound, positions_least, positions_placed}
use Rattle.layers.specs.Pairs.{shift_pair, shift_ahead, varispeed_pair, pull_pair, pull_ahead}

abbrev Lawful : Change → Type 0
Lawful (samples g back) = Pair g back
Lawful (positions g back) = Pair g back × Ahead g

some : (a b most : ℕ) → in_range a b most ≡ true → (0 < a) × (0 < b)
some a b most e = (grind (arith, common_steps), grind (arith, common_steps))

lawful : (l : Layer) → Fits l → Lawful (change l)
lawful (delay k) fit = shift_pair k
lawful (varispeed a b) fit = let h = some a b (2 ^ 20) fit in varispeed_pair a b h.0 h.1
lawful (start m) fit = (shift_pair m, shift_ahead m)
lawful pulldown fit = (pull_pair, pull_ahead)
lawful (bars begins back) fit = fit

change_answers : (x : Change) → Lawful x → (m : Meaning) (locate : ℕ → ℕ) (place : ℕ → Result ℕ Refusal) →
    Answers m locate place → Answers (layered x m) (asks_locate x locate) (asks_place x place)
change_answers (samples g back) pair m locate place a =
    record {
      sound = samples_sound pair a.sound;
      locates = λ s. samples_least pair a.sound (a.locates (back (min s (2 ^ 36))));
      places = λ p. samples_placed pair a.sound p (a.places p);
    }
change_answers (positions g back) (pair, ahead) m locate place a =
    record {
      sound = positions_sound pair ahead a.sound;
      locates = λ s. positions_least pair ahead a.sound (a.locates s);
      places = λ p. a.places (g p) ∙ positions_placed pair ahead m p;
    }

answers_agree : (m : Meaning) (locate : ℕ → ℕ) (place : ℕ → Result ℕ Refusal) → Answers m locate place →
    Agreement locate place
answers_agree m locate place a p s t e =
    grind (arith, common_steps, a.places p, least_agrees m a.sound s (locate s) (a.locates s) p)

through : (m : Meaning) (locate : ℕ → ℕ) (place : ℕ → Result ℕ Refusal) → Answers m locate place →
    (ls : List Layer) → AllFit ls → Answers (piled ls m) (located_through ls locate) (placed_through ls place)
through m locate place a [] fit = a
through m locate place a (l ∷ ls) (fit, rest) =
    change_answers (change l) (lawful l fit) (piled ls m) (located_through ls locate) (placed_through ls place)
    (through m locate place a ls rest)

pub piles_agree : PlaceAndLocateAgree
piles_agree m locate place a ls fit =
    let all = through m locate place a ls fit in
    record { answers = all; agreement = answers_agree (piled ls m) (located_through ls locate) (placed_through ls place) all }

-- Piles: any layers in any order on any base, and the law that they keep.
--   Layer           the five layers with their numbers; a bars layer by the tick at which each bar begins, and back
--   Fits            a layer's numbers are in range; bar p + 1 never begins before bar p, nor before tick p
--   Change, change  what a layer changes: samples or positions, by g and back
--   layered, piled  the meaning of one layer, and of a list of them, the uppermost first
--   asks_locate, located_through
--                   what locate answers layer by layer, from what it answers below
--   asks_place, placed_through
--                   what place answers layer by layer, from what it answers below
--   Answers         locate and place answer for a sound meaning
--   Agreement       locate(s) is at or before p exactly where s is at or before place(p)
--   PlaceAndLocateAgree
--                   the law: whatever is piled on a base that answers, answers, and its two answers agree
-- Assumes nothing.
use Rattle.std.specs.Prelude.{◌≡◌, ℕ, ◌^◌, ◌≤◌, min, true, List, [], ◌∷◌, Ok, Result}
use Rattle.refusal.specs.declared.Refusal.{Refusal}
use Rattle.timebase.specs.Meaning.{Meaning, Sound, Least, placed, last_sample}
use Rattle.timebase.specs.Scale.{scaled, reached, in_range}
use Rattle.layers.specs.Layers.{Pair, Ahead, on_samples, on_positions, checked, delayed, slid, started, begun, pulled, pulled_back}

pub data Layer : Type 0 where
  delay : ℕ → Layer
  varispeed : ℕ → ℕ → Layer
  start : ℕ → Layer
  pulldown : Layer
  bars : (ℕ → ℕ) → (ℕ → ℕ) → Layer

abbrev pub Fits : Layer → Type 0
Fits (delay k) = k ≤ last_sample
Fits (varispeed a b) = in_range a b (2 ^ 20) ≡ true
Fits (start m) = m ≤ 2 ^ 36
Fits pulldown = Unit {0}
Fits (bars begins back) = Pair begins back × Ahead begins

abbrev pub AllFit : List Layer → Type 0
AllFit [] = Unit {0}
AllFit (l ∷ ls) = Fits l × AllFit ls

pub data Change : Type 0 where
  samples : (ℕ → ℕ) → (ℕ → ℕ) → Change
  positions : (ℕ → ℕ) → (ℕ → ℕ) → Change

abbrev pub change : Layer → Change
change (delay k) = samples (delayed k) (slid k)
change (varispeed a b) = samples (scaled a b) (reached a b)
change (start m) = positions (started m) (begun m)
change pulldown = positions pulled pulled_back
change (bars begins back) = positions begins back

abbrev pub layered : Change → Meaning → Meaning
layered (samples g back) m = on_samples g m
layered (positions g back) m = on_positions g m

abbrev pub asks_locate : Change → (ℕ → ℕ) → ℕ → ℕ
asks_locate (samples g back) locate s = locate (back (min s (2 ^ 36)))
asks_locate (positions g back) locate s = back (locate s)

abbrev pub asks_place : Change → (ℕ → Result ℕ Refusal) → ℕ → Result ℕ Refusal
asks_place (samples g back) place p = checked g (place p)
asks_place (positions g back) place p = place (g p)

abbrev pub piled : List Layer → Meaning → Meaning
piled [] m = m
piled (l ∷ ls) m = layered (change l) (piled ls m)

abbrev pub located_through : List Layer → (ℕ → ℕ) → ℕ → ℕ
located_through [] locate = locate
located_through (l ∷ ls) locate = asks_locate (change l) (located_through ls locate)

abbrev pub placed_through : List Layer → (ℕ → Result ℕ Refusal) → ℕ → Result ℕ Refusal
placed_through [] place = place
placed_through (l ∷ ls) place = asks_place (change l) (placed_through ls place)

pub record Answers (m : Meaning) (locate : ℕ → ℕ) (place : ℕ → Result ℕ Refusal) : Type 0 where
  pub sound : Sound m
  pub locates : (s : ℕ) → Least m s (locate s)
  pub places : (p : ℕ) → place p ≡ placed m p

abbrev pub Agreement : (ℕ → ℕ) → (ℕ → Result ℕ Refusal) → Type 0
Agreement locate place = (p s t : ℕ) → place p ≡ Ok t → (locate s ≤ p → s ≤ t) × (s ≤ t → locate s ≤ p)

pub record Piled (ls : List Layer) (m : Meaning) (locate : ℕ → ℕ) (place : ℕ → Result ℕ Refusal) : Type 0 where
  pub answers : Answers (piled ls m) (located_through ls locate) (placed_through ls place)
  pub agreement : Agreement (located_through ls locate) (placed_through ls place)

abbrev pub PlaceAndLocateAgree : Type 0
PlaceAndLocateAgree =
    (m : Meaning) (locate : ℕ → ℕ) (place : ℕ → Result ℕ Refusal) →
    Answers m locate place → (ls : List Layer) → AllFit ls → Piled ls m locate place

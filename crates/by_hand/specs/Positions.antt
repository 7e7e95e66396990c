-- Positions worked out by hand, and that the engine's rules make each of them so.
--   frames                   the frame counter of 30000 ÷ 1001 frames a second at 48,000 samples a second, a day and a frame long
--   tempo_rows               500,000 microseconds a quarter, and 600,000 from tick 2
--   Stage                    a tempo map of these rows at 480 ticks a quarter and 44,100 samples a second, whose last tick is 3 or later
--   meter_rows               3/4, and 6/8 from tick 1,440
--   label, labelled          a label by its parts, and a number that is to have it in 30 drop
--   Holds                    what a worked position says is so by the engine's definitions
--   positions                the list
--   EveryPositionIsAsWorked  all of it holds
-- Assumes nothing.
use Rattle.std.specs.Prelude.{◌≡◌, ℕ, ◌≤◌, List, [], ◌∷◌, Ok, Err}
use Rattle.std.specs.List.{AllByRecursion}
use Rattle.refusal.specs.declared.Refusal.TheVariants.{NotWritten, NotBelowCount}
use Rattle.timebase.specs.Meaning.{Meaning, placed, Least}
use Rattle.timebase.specs.Ratio.{ratio_meaning}
use Rattle.timebase.specs.Scale.{scaled}
use Rattle.layers.specs.Layers.{on_samples, on_positions, pulled}
use Rattle.meter.specs.declared.row.MeterRow.{MeterRow}
use Rattle.tempo.specs.declared.row.TempoRow.{TempoRow}
use Rattle.tempo.specs.declared.map.TempoMap.{TempoMap}
use Rattle.tempo.specs.Maps.{rows_of, tempo_meaning}
use Rattle.forms.specs.Pairing.{read_as, written_as}
use Rattle.forms.specs.Formats.{values}
use Rattle.forms.specs.Labels.{label_number, label_of}
use Rattle.forms.specs.declared.format.Format.TheVariants.{Drop30}
use Rattle.forms.specs.declared.label.Label.{Label}
use Rattle.bar_positions.specs.BarPositions.{position_number, position_count, position_of}
use Rattle.by_hand.specs.declared.worked.Worked.{Worked}
use Rattle.by_hand.specs.declared.worked.Worked.TheVariants.{Labelled, PastTheDay, LeftOut, Frame, Located, Tick, Varied, Film, Written}

abbrev pub frames : Meaning
frames = ratio_meaning 48048000 30000 2589409

abbrev pub tempo_rows : List TempoRow
tempo_rows = record { tick = 0; q = 500000 } ∷ (record { tick = 2; q = 600000 } ∷ [])

pub record Stage (m : TempoMap) : Type 0 where
  pub division : m.division ≡ 480
  pub rows : rows_of m ≡ tempo_rows
  pub rate : m.rate.sample_rate ≡ 44100
  pub long : 3 ≤ m.last

abbrev pub meter_rows : List MeterRow
meter_rows = record { tick = 0; nn = 3; dd = 2 } ∷ (record { tick = 1440; nn = 6; dd = 3 } ∷ [])

abbrev pub Holds : Worked → Type 0
Holds (Labelled n l) =
    (written_as (values Drop30).day (label_of Drop30) n ≡ Ok l) × (read_as (label_number Drop30 l) ≡ Ok n)
Holds (PastTheDay n) = written_as (values Drop30).day (label_of Drop30) n ≡ Err NotBelowCount
Holds (LeftOut l) = read_as (label_number Drop30 l) ≡ Err NotWritten
Holds (Frame p s) = placed frames p ≡ Ok s
Holds (Located s p) = Least frames s p
Holds (Tick t s) = (m : TempoMap) → Stage m → placed (tempo_meaning m) t ≡ Ok s
Holds (Varied s t) = (m : Meaning) (p : ℕ) → m.rule p ≡ s → (on_samples (scaled 1001 1000) m).rule p ≡ t
Holds (Film p f) = (m : Meaning) → (on_positions pulled m).rule p ≡ m.rule f
Holds (Written t v) =
    (written_as (position_count 480 meter_rows) (position_of 480 meter_rows) t ≡ Ok v)
    × (read_as (position_number 480 meter_rows v) ≡ Ok t)

abbrev pub label : ℕ → ℕ → ℕ → ℕ → Label
label h m s f = record { hours = h; minutes = m; seconds = s; frames = f }

abbrev pub labelled : ℕ → ℕ → ℕ → ℕ → ℕ → Worked
labelled n h m s f = Labelled n (label h m s f)

abbrev pub positions : List Worked
positions =
    labelled 1799 0 0 59 29
    ∷ (labelled 1800 0 1 0 2
    ∷ (labelled 17982 0 10 0 0
    ∷ (labelled 107892 1 0 0 0
    ∷ (labelled 2589407 23 59 59 29
    ∷ (PastTheDay 2589408
    ∷ (LeftOut (label 0 1 0 1)
    ∷ (Frame 1 1602
    ∷ (Frame 5 8008
    ∷ (Located 1602 1
    ∷ (Located 1603 2
    ∷ (Tick 1 46
    ∷ (Tick 2 92
    ∷ (Tick 3 147
    ∷ (Varied 24000 24024
    ∷ (Film 0 0
    ∷ (Film 1 2
    ∷ (Film 2 5
    ∷ (Film 3 7
    ∷ (Film 4 10
    ∷ (Written 1680 (record { bar = 2; beat = 2; tick = 0 })
    ∷ []))))))))))))))))))))

abbrev pub EveryPositionIsAsWorked : Type 0
EveryPositionIsAsWorked = AllByRecursion Holds positions

-- What a tempo map holds, means, and what making one answers.
--   rows_of        the rows that a map was made of
--   map_micros     how far tick p lies from tick 0 by a map
--   samples_of     the sample on which so many microseconds times ticks fall, rounded up once
--   sum_reaching   the least so much that falls on sample s or later
--   tempo_meaning  the meaning of a map as a timebase: a position for each tick up to the last
--   Making         the answer to making a map: the map of just these rows, or the refusal, by the rules
--   AddsUp         the law of tempo: tick 0 lies at 0, each tick lies as far after the one before as the tempo current
--                  there says, and the map's fraction is its sample rate, in samples a microsecond
-- Assumes nothing.
use Rattle.std.specs.Prelude.{◌≡◌, ℕ, ◌+◌, ◌*◌, true, cond, ◌&&◌, List, Ok, Err, vec_items, Result}
use Rattle.refusal.specs.declared.Refusal.{Refusal}
use Rattle.refusal.specs.declared.Refusal.TheVariants.{BadMaking, NoMemory}
use Rattle.timebase.specs.Meaning.{Meaning}
use Rattle.timebase.specs.Scale.{scaled, reached}
use Rattle.tempo.specs.Rules.{kept}
use Rattle.tempo.specs.Micros.{rows_in, micros, row_at}
use Rattle.tempo.specs.Rates.{known_rate}
use Rattle.tempo.specs.declared.row.TempoRow.{TempoRow}
use Rattle.tempo.specs.declared.map.TempoMap.{TempoMap}

abbrev pub rows_of : TempoMap → List TempoRow
rows_of m = rows_in (vec_items m.rows)

abbrev pub map_micros : TempoMap → ℕ → ℕ
map_micros m p = micros (rows_of m) p

abbrev pub samples_of : TempoMap → ℕ → ℕ
samples_of m x = scaled m.rate.samples (m.division * m.rate.micros) x

abbrev pub sum_reaching : TempoMap → ℕ → ℕ
sum_reaching m s = reached m.rate.samples (m.division * m.rate.micros) s

abbrev pub tempo_meaning : TempoMap → Meaning
tempo_meaning m = record { len = m.last + 1; rule = λ p. samples_of m (map_micros m p) }

abbrev pub Making : ℕ → List TempoRow → ℕ → ℕ → Result TempoMap Refusal → Type 0
Making division rows last rate (Ok m) =
    ((kept division rows last && known_rate rate) ≡ true)
    × (m.division ≡ division) × (rows_of m ≡ rows) × (m.last ≡ last) × (m.rate.sample_rate ≡ rate)
Making division rows last rate (Err e) = e ≡ cond (kept division rows last && known_rate rate) NoMemory BadMaking

pub record AddsUp (m : TempoMap) : Type 0 where
  pub starts : map_micros m 0 ≡ 0
  pub follows : (p : ℕ) → map_micros m (p + 1) ≡ map_micros m p + (row_at (rows_of m) p).q
  pub rated : m.rate.samples * 1000000 ≡ m.rate.sample_rate * m.rate.micros

-- The rows of a lawful map by their places: each is in range, and they rise.
-- Assumes nothing.
use Rattle.std.specs.Prelude.{◌≡◌, ℕ, zero, suc, ◌<◌, ◌≤◌, true, List, [], ◌∷◌, length, get_or, slice_index_or}
use Rattle.std.proofs.Common.{arith}
use Rattle.rows.proofs.Linking.{joined_at}
use Rattle.tempo.specs.Rules.{next_kept, last_kept, all_kept}
use Rattle.tempo.specs.Micros.{no_row}
use Rattle.tempo.specs.declared.row.TempoRow.{TempoRow}
use Rattle.tempo.specs.Stretch.{Parts, parts, next_numbers, last_numbers}

-- a row by its place, after a first one
pub record Ranged (r : TempoRow) (rest : List TempoRow) (last i : ℕ) : Type 0 where
  pub some : 1 ≤ (get_or (r ∷ rest) i no_row).q
  pub few : (get_or (r ∷ rest) i no_row).q ≤ 16777215
  pub later : r.tick ≤ (get_or (r ∷ rest) i no_row).tick
  pub early : (get_or (r ∷ rest) i no_row).tick ≤ last

head_ranged : (r : TempoRow) (rest : List TempoRow) (last : ℕ) → all_kept r rest last ≡ true → Ranged r rest last 0
head_ranged r [] last k =
    let n = last_numbers r last k in
    record { some = n.0; few = n.1; later = omega arith; early = n.2 }
head_ranged r (s ∷ rest) last k =
    let p : Parts r s rest last = parts r s rest last k in
    let next : Ranged s rest last 0 = head_ranged s rest last p.others in
    record { some = p.some; few = p.few; later = omega arith; early = omega (arith, p.later, next.early) }

pub ranged : (r : TempoRow) (rest : List TempoRow) (last i : ℕ) → all_kept r rest last ≡ true →
    i < length (r ∷ rest) → Ranged r rest last i
ranged r rest last zero k l = head_ranged r rest last k
ranged r [] last (suc i) k l = absurd (omega arith)
ranged r (s ∷ rest) last (suc i) k l =
    let p : Parts r s rest last = parts r s rest last k in
    let n : Ranged s rest last i = ranged s rest last i p.others (omega arith) in
    record { some = n.some; few = n.few; later = omega (arith, p.later, n.later); early = n.early }

pub rising : (r : TempoRow) (rest : List TempoRow) (last i : ℕ) → all_kept r rest last ≡ true →
    suc i < length (r ∷ rest) → (get_or (r ∷ rest) i no_row).tick < (get_or (r ∷ rest) (suc i) no_row).tick
rising r rest last i k l =
    (next_numbers (slice_index_or (r ∷ rest) i no_row) (slice_index_or (r ∷ rest) (suc i) no_row)
    (joined_at next_kept (λ x. last_kept x last) r rest i no_row k l)).2

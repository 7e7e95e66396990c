-- The rules of a table tried all at once: each row with the next, and the last by itself.
--   kept_tested  the rows keep the rules exactly if each passes with the next and the last passes by itself
--   whole_kept   they decide, once the table is short enough and begins at tick 0
-- Assumes nothing.
use Rattle.std.proofs.Common.{◌≡◌, ℕ, ◌-◌, ◌≤◌, Bool, true, false, ◌&&◌, eqb, leb, List, [], ◌∷◌, length, get_or, sym, refl, ap, ◌∙◌, arith}
use Rattle.std.specs.List.{IsAllAdjacentAnswer, slice_get}
use Rattle.std.proofs.lemmas.Bool.{le-leb}
use Rattle.std.proofs.lemmas.Option.{slice_get-get_or}
use Rattle.rows.specs.Chains.{chained}
use Rattle.rows.proofs.Linking.{chain_tested}
use Rattle.meter.specs.Rules.{row_kept, meter_kept, next_kept, all_kept, ends_kept, rows_kept, kept}
use Rattle.meter.specs.BarLines.{no_row}
use Rattle.meter.specs.declared.row.MeterRow.{MeterRow}

-- with b for the division's own test
divided : (b : Bool) (row : MeterRow → Bool) (next : MeterRow → MeterRow → Bool) (r : MeterRow) (rest : List MeterRow) →
    chained (λ x y. b && row x && next x y) (λ x. b && row x) r rest ≡ (b && chained (λ x y. row x && next x y) row r rest)
divided true row next r [] = refl
divided true row next r (s ∷ rest) = ap (λ x. row r && next r s && x) (divided true row next s rest)
divided false row next r [] = refl
divided false row next r (s ∷ rest) = refl

pub kept_tested : (d : ℕ) (rows : List MeterRow) (a : Bool) →
    IsAllAdjacentAnswer (λ x y t. t ≡ (meter_kept d x && next_kept d x y)) rows a →
    (a && ends_kept d (slice_get rows (length rows - 1))) ≡ rows_kept d rows
kept_tested d [] true h = refl
kept_tested d [] false h = refl
kept_tested d (r ∷ rest) a h =
    let same : length (r ∷ rest) - 1 ≡ length rest = omega arith in
    ap (λ n. a && ends_kept d (slice_get (r ∷ rest) n)) same
    ∙ ap (λ x. a && ends_kept d x) (slice_get-get_or (r ∷ rest) (length rest) r (omega arith))
    ∙ sym (chain_tested (λ x y. meter_kept d x && next_kept d x y) (meter_kept d) r rest a h)
    ∙ divided (leb 1 d && leb d 32767) (row_kept d) (next_kept d) r rest

passed : (b v : Bool) → (b && true && true && v) ≡ (b && v)
passed true v = refl
passed false v = refl

pub whole_kept : (d : ℕ) (rows : List MeterRow) → 1 ≤ length rows → length rows ≤ 64 → (get_or rows 0 no_row).tick ≡ 0 →
    rows_kept d rows ≡ kept d rows
whole_kept d [] n e z = absurd (omega arith)
whole_kept d (r ∷ rest) n e z =
    let b = leb 1 d && leb d 32767 in
    let v = all_kept d r rest in
    sym (ap (λ x. b && x && eqb r.tick 0 && v) (le-leb _ _ e) ∙ ap (λ t. b && true && eqb t 0 && v) z ∙ passed b v)

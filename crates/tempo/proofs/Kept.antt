-- What the tests on the rows of a map decide.
--   kept_tested  the rows keep the rules exactly if each passes with the next and the last passes by itself
-- Assumes nothing.
use Rattle.std.proofs.Common.{◌≡◌, ℕ, ◌-◌, Bool, true, false, ◌&&◌, List, [], ◌∷◌, length, refl, sym, ap, ◌∙◌, arith}
use Rattle.std.specs.List.{IsAllAdjacentAnswer, slice_get}
use Rattle.std.proofs.lemmas.Option.{slice_get-get_or}
use Rattle.rows.proofs.Linking.{chain_tested}
use Rattle.tempo.specs.Rules.{next_kept, last_kept, ends_kept, chain_kept}
use Rattle.tempo.specs.declared.row.TempoRow.{TempoRow}

pub kept_tested : (rows : List TempoRow) (last : ℕ) (b : Bool) → IsAllAdjacentAnswer (λ x y t. t ≡ next_kept x y) rows b →
    (b && ends_kept (slice_get rows (length rows - 1)) last) ≡ chain_kept rows last
kept_tested [] last true h = refl
kept_tested [] last false h = refl
kept_tested (r ∷ rest) last b h =
    let same : length (r ∷ rest) - 1 ≡ length rest = omega arith in
    ap (λ n. b && ends_kept (slice_get (r ∷ rest) n) last) same
    ∙ ap (λ x. b && ends_kept x last) (slice_get-get_or (r ∷ rest) (length rest) r (omega arith))
    ∙ sym (chain_tested next_kept (λ x. last_kept x last) r rest b h)

-- The words of a line that is put together from words.
--   words_first   a word with no space, and what follows its space
--   words_last    a line with no space is one word
-- Assumes nothing.
use Rattle.std.proofs.Common.{◌≡◌, List, [], ◌∷◌, ◌++◌, ℕ, refl, ap, ◌∙◌}
use Rattle.std.proofs.lemmas.Bool.{ne_eqb, cond-false}
use Rattle.std.specs.List.{onto_first}
use Rattle.operator.specs.Words.{words}
use Rattle.operator.specs.Requests.{Spaceless}

pub words_first : (w rest : List ℕ) → Spaceless w → words (w ++ (32 ∷ rest)) ≡ w ∷ words rest
words_first [] rest h = refl
words_first (b ∷ bs) rest h =
    cond-false _ _ _ (ne_eqb b 32 h.0) ∙ ap (onto_first b) (words_first bs rest h.1)

pub words_last : (w : List ℕ) → Spaceless w → words w ≡ w ∷ []
words_last [] h = refl
words_last (b ∷ bs) h = cond-false _ _ _ (ne_eqb b 32 h.0) ∙ ap (onto_first b) (words_last bs h.1)

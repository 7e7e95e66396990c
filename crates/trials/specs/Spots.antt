-- A position's sample and what is located there, as a line has them.
--   spot_text   the sample, what is located on it and what on the next
-- Assumes nothing.
use Rattle.std.specs.Prelude.{ℕ, List, ◌++◌, codes}
use Rattle.std.specs.Fmt.{decimal}

abbrev pub spot_text : ℕ → ℕ → ℕ → List ℕ
spot_text sample back next =
    codes "on " ++ decimal sample ++ codes ", located " ++ decimal back ++ codes " and " ++ decimal next

-- Rows tried one by one, each with the next.
--   chained  each row passes a test with the one after it, and the last passes a test of its own
-- Assumes nothing.
use Rattle.std.specs.Prelude.{Bool, ◌&&◌, List, [], ◌∷◌}

module _ {R : Type 0} (joined : R → R → Bool) (closes : R → Bool) where
  abbrev pub chained : R → List R → Bool
  chained r [] = closes r
  chained r (s ∷ rest) = joined r s && chained s rest

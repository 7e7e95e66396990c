-- The plain count: a position written as its own number, below 2^36.
-- Assumes nothing.
use Rattle.std.specs.Prelude.{ℕ, ◌^◌, if◌then◌else◌, List, [], ◌∷◌, Some, None, Option, nat_lt}

abbrev pub plain_number : ℕ → Option ℕ
plain_number v = if nat_lt v (2 ^ 36) then Some v else None

abbrev pub plain_parts : ℕ → List ℕ
plain_parts v = v ∷ []

-- An answer of the engine as a line has it.
--   answer_text   the value's own text, or the refusal's
-- Assumes nothing.
use Rattle.std.specs.Prelude.{ℕ, List, Option, Some, Result, Ok, Err}
use Rattle.refusal.specs.Numbers.{refused_text}
use Rattle.refusal.specs.declared.Refusal.{Refusal}

abbrev pub answer_text : {V : Type 0} → (V → Option (List ℕ)) → Result V Refusal → Option (List ℕ)
answer_text text (Ok value) = text value
answer_text text (Err why) = Some (refused_text why)

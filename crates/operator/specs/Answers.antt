-- The bytes of each answer.
--   answer_text   the line that says an answer, or why there is none, ended by byte 10
-- Assumes nothing.
use Rattle.std.specs.Prelude.{ℕ, List, [], ◌∷◌, ◌++◌, Ok, Err, Result, codes}
use Rattle.refusal.specs.Numbers.{number_of}
use Rattle.text.specs.Decimal.{digits}
use Rattle.operator.specs.declared.answer.Answer.{Answer}
use Rattle.operator.specs.declared.answer.Answer.TheVariants.{Done, Lines, Sample, Position}
use Rattle.operator.specs.declared.answer.Fault.{Fault}
use Rattle.operator.specs.declared.answer.Fault.TheVariants.{Unreadable, Refused}

abbrev pub answer_text : Result Answer Fault → List ℕ
answer_text (Ok Done) = codes "ok" ++ (10 ∷ [])
answer_text (Ok (Lines n)) = codes "ok " ++ (digits n ++ (10 ∷ []))
answer_text (Ok (Sample n)) = digits n ++ (10 ∷ [])
answer_text (Ok (Position n)) = digits n ++ (10 ∷ [])
answer_text (Err (Refused why)) = codes "refused " ++ (digits (number_of why) ++ (10 ∷ []))
answer_text (Err Unreadable) = codes "unreadable" ++ (10 ∷ [])

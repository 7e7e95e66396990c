-- What the calls of a deck are read with, besides their arguments.
--   cues     the meaning of the pile for the cues
--   number   the number of a written form, where it is valid
--   label    the label current at a sample, where there is one
--   places   how many cues the book may hold      lines   how many lines the log may hold
-- Assumes nothing.
use Rattle.std.specs.Prelude.{ℕ, Option}
use Rattle.std.specs.Option.{option_and_then}
use Rattle.std.specs.Result.{result_ok}
use Rattle.timebase.specs.Meaning.{Meaning, placed}

pub record World (V L : Type 0) : Type 0 where
  pub cues : Meaning
  pub number : V → Option ℕ
  pub label : ℕ → Option L
  pub places : ℕ
  pub lines : ℕ

-- the sample of a written form: place of its number
abbrev pub sample_of : {V L : Type 0} → World V L → V → Option ℕ
sample_of w v = option_and_then (λ p. result_ok (placed w.cues p)) (w.number v)

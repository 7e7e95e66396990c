-- What making a table of taps answers.
--   taps_refusal  what making a table of these samples is refused by: too many, or one that falls or does not exist
--   Making        the answer to making it: the table of just these samples, or the refusal, which is NoMemory where none is due
-- Assumes nothing.
use Rattle.std.specs.Prelude.{◌≡◌, ℕ, cond, List, Some, None, Ok, Err, vec_items, Option, Result}
use Rattle.std.specs.Option.{unwrap_or}
use Rattle.refusal.specs.declared.Refusal.{Refusal}
use Rattle.refusal.specs.declared.Refusal.TheVariants.{BadMaking, TapsFall, NoMemory}
use Rattle.taps.specs.Rules.{short, never_falls}
use Rattle.taps.specs.declared.table.Taps.{Taps}

abbrev pub taps_refusal : List ℕ → Option Refusal
taps_refusal samples = cond (short samples) (cond (never_falls 0 samples) None (Some TapsFall)) (Some BadMaking)

-- no contract can say when memory is wanting: samples that break no rule are made a table, or NoMemory is answered
abbrev pub Making : List ℕ → Result Taps Refusal → Type 0
Making samples (Ok t) = (taps_refusal samples ≡ None) × (vec_items t.samples ≡ samples)
Making samples (Err e) = e ≡ unwrap_or (taps_refusal samples) NoMemory

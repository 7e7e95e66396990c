-- A tally as a line has it.
--   tally_text   the hash in hexadecimal digits, 16 with noughts before them, a space and the sum
-- Assumes nothing.
use Rattle.std.specs.Prelude.{ℕ, ◌-◌, ◌^◌, List, [], ◌++◌, false, codes}
use Rattle.std.specs.Fmt.{decimal, digits, padded_integral, format_spec}

abbrev pub tally_text : ℕ → ℕ → List ℕ
tally_text hash sum =
    padded_integral (format_spec 32 0 4 16 (2 ^ 64 - 1)) false [] (digits 16 false hash) ++ codes " " ++ decimal sum

-- Whole numbers as text: the digits that are written, and the words that are read as a number.
--   digits        the decimal digits of a number as ASCII bytes, with no leading zeros
--   fair          a word of 1 to 20 digits, whose number is below 2^64
--   plain         the number that a word says, where it is a plain decimal
--   fits_in       a text is no longer than a buffer
--   room_for      how many bytes a text takes of a buffer, where it fits
--   put_at_start  a buffer with a text at its start, where it fits
-- Assumes nothing.
use Rattle.std.specs.Prelude.{ℕ, ◌^◌, Bool, cond, ◌&&◌, List, ◌++◌, length, drop, Some, None, decimal, Option, nat_le, nat_lt}
use Rattle.std.specs.Str.Parse.{digits_value}
use Rattle.std.specs.Str.{all_ascii_digits}

abbrev pub digits : ℕ → List ℕ
digits n = decimal n

abbrev pub fair : List ℕ → Bool
fair word = nat_lt 0 (length word) && (nat_le (length word) 20 && (all_ascii_digits word && nat_lt (digits_value 10 word) (2 ^ 64)))

abbrev pub plain : List ℕ → Option ℕ
plain word = cond (fair word) (Some (digits_value 10 word)) None

abbrev pub fits_in : List ℕ → List ℕ → Bool
fits_in text out = nat_le (length text) (length out)

abbrev pub room_for : List ℕ → List ℕ → Option ℕ
room_for text out = cond (fits_in text out) (Some (length text)) None

abbrev pub put_at_start : List ℕ → List ℕ → List ℕ
put_at_start text out = cond (fits_in text out) (text ++ drop (length text) out) out

-- A written form's values as text.
--   print_text_answer  what printing answers, for a value that is valid or not and a text, in so many bytes
--   print_text_after   what the bytes then hold
--   Spells             a value is what a text writes: the one valid value with this text, or none that is valid
--   Visible            a byte is a visible ASCII character, so no space and no line end
--   OneWord            a text is one word of a line: visible characters, and two at least, so that it is neither empty
--                      nor the hyphen that stands for no label
-- Assumes nothing.
use Rattle.std.specs.Prelude.{◌≡◌, ℕ, ◌≤◌, Bool, if◌then◌else◌, ◌&&◌, List, ◌++◌, length, drop, Some, Ok, Err, Option, Result, nat_le}
use Rattle.std.specs.List.{AllByRecursion}
use Rattle.refusal.specs.declared.Refusal.{Refusal}
use Rattle.refusal.specs.declared.Refusal.TheVariants.{ShortBuffer, NotWritten}

abbrev pub print_text_answer : Bool → List ℕ → ℕ → Result ℕ Refusal
print_text_answer ok text room =
    if ok then (if nat_le (length text) room then Ok (length text) else Err ShortBuffer) else Err NotWritten

abbrev pub print_text_after : Bool → List ℕ → List ℕ → List ℕ
print_text_after ok text out = if ok && nat_le (length text) (length out) then text ++ drop (length text) out else out

pub record Spells (V : Type 0) (number : V → Option ℕ) (text : V → List ℕ) (bytes : List ℕ) (r : V) : Type 0 where
  pub own : (v : V) (n : ℕ) → number v ≡ Some n → bytes ≡ text v → r ≡ v
  pub only : (n : ℕ) → number r ≡ Some n → bytes ≡ text r

abbrev pub Visible : ℕ → Type 0
Visible b = (33 ≤ b) × (b ≤ 126)

pub record OneWord (text : List ℕ) : Type 0 where
  pub long : 2 ≤ length text
  pub visible : AllByRecursion Visible text

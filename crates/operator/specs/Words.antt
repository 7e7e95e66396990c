-- A line of bytes: its end, whether it is text, its words, and the first of them as a verb.
--   words        the parts of a line between its spaces, of which two in a row, or one at an end, leave an empty word
--   rest_words   the words of what is left of a line, if anything is
--   is_text      bytes are text, in UTF-8
--   verb_of      the verb that a word is, if it is one
--   without_end  a line that is read, without the byte 10 that ends it
-- Assumes nothing.
use Rattle.std.specs.Prelude.{ℕ, ◌-◌, Bool, cond, List, [], length, take, Some, None, codes, Option, ◌==◌, slice_index}
use Rattle.std.specs.Borrow.{Bor}
use Rattle.std.specs.Str.{bytes_eq, is_utf8}
use Rattle.std.specs.List.{slice_split}
use Rattle.operator.specs.declared.request.Verb.{Verb}
use Rattle.operator.specs.declared.request.Verb.TheVariants.{Add, Strike, Seek, Play, Place, Locate, Log}

abbrev pub words : List ℕ → List (List ℕ)
words line = slice_split (λ b. b == 32) line

abbrev pub rest_words : Option (Bor (List ℕ)) → List (List ℕ)
rest_words None = []
rest_words (Some rest) = words rest.now

abbrev pub verb_of : List ℕ → Option Verb
verb_of word =
    cond (bytes_eq word (codes "add")) (Some Add)
    (cond (bytes_eq word (codes "strike")) (Some Strike)
    (cond (bytes_eq word (codes "seek")) (Some Seek)
    (cond (bytes_eq word (codes "play")) (Some Play)
    (cond (bytes_eq word (codes "place")) (Some Place)
    (cond (bytes_eq word (codes "locate")) (Some Locate)
    (cond (bytes_eq word (codes "log")) (Some Log) None))))))

abbrev pub without_end : List ℕ → List ℕ
without_end line = cond (slice_index line (length line - 1) == 10) (take (length line - 1) line) line

abbrev pub is_text : List ℕ → Bool
is_text bytes = is_utf8 bytes

-- What a line asks, by its words, and the text of each request.
--   Said                   a request with its numbers and the bytes of its label
--   said                   what a request of the code, or none, stands for
--   says                   what a line without its line end asks
--   asks                   what a line asks, with its line end or without
--   request_text           the line that makes a request
--   Spaceless              bytes with no space among them
--   Writable               the numbers fit 64 bits, and the label is one word of text
--   EveryRequestReadsBack  each request is read from its own text, and from it with a line end
-- Assumes nothing.
use Rattle.std.specs.Prelude.{◌≡◌, ℕ, ◌^◌, ◌<◌, true, cond, List, [], ◌∷◌, ◌++◌, length, Some, None, codes, Option, ◌≢◌}
use Rattle.std.specs.List.{AllByRecursion}
use Rattle.std.specs.Option.{option_map_or}
use Rattle.text.specs.Decimal.{digits, plain}
use Rattle.operator.specs.declared.request.Verb.{Verb}
use Rattle.operator.specs.declared.request.Verb.TheVariants as verb
use Rattle.operator.specs.declared.request.Request.{Request}
use Rattle.operator.specs.declared.request.Request.TheVariants as request
use Rattle.operator.specs.Words.{words, verb_of, without_end, is_text}

pub data Said : Type 0 where
  adds : ℕ → List ℕ → Said
  strikes : ℕ → Said
  seeks : ℕ → Said
  plays : ℕ → Said
  places : ℕ → Said
  locates : ℕ → Said
  logs : Said
  nothing : Said

abbrev pub said : Option Request → Said
said (Some (request.Add n label)) = adds n label.now
said (Some (request.Strike n)) = strikes n
said (Some (request.Seek n)) = seeks n
said (Some (request.Play n)) = plays n
said (Some (request.Place n)) = places n
said (Some (request.Locate n)) = locates n
said (Some request.Log) = logs
said None = nothing

abbrev pub one_word : Verb → Said
one_word verb.Add = nothing
one_word verb.Strike = nothing
one_word verb.Seek = nothing
one_word verb.Play = nothing
one_word verb.Place = nothing
one_word verb.Locate = nothing
one_word verb.Log = logs

-- a verb and a word that may be a number
abbrev pub two_words : Option ℕ → Verb → Said
two_words None v = nothing
two_words (Some n) verb.Add = nothing
two_words (Some n) verb.Strike = strikes n
two_words (Some n) verb.Seek = seeks n
two_words (Some n) verb.Play = plays n
two_words (Some n) verb.Place = places n
two_words (Some n) verb.Locate = locates n
two_words (Some n) verb.Log = nothing

abbrev pub labelled : Option ℕ → List ℕ → Said
labelled None label = nothing
labelled (Some n) [] = nothing
labelled (Some n) (b ∷ bs) = adds n (b ∷ bs)

-- a verb, a word that may be a number, and a label
abbrev pub three_words : Verb → Option ℕ → List ℕ → Said
three_words verb.Add number label = labelled number label
three_words verb.Strike number label = nothing
three_words verb.Seek number label = nothing
three_words verb.Play number label = nothing
three_words verb.Place number label = nothing
three_words verb.Locate number label = nothing
three_words verb.Log number label = nothing

abbrev pub by_words : List (List ℕ) → Said
by_words [] = nothing
by_words (v ∷ []) = option_map_or one_word (verb_of v) nothing
by_words (v ∷ w ∷ []) = option_map_or (two_words (plain w)) (verb_of v) nothing
by_words (v ∷ w ∷ label ∷ []) = option_map_or (λ verb. three_words verb (plain w) label) (verb_of v) nothing
by_words (v ∷ w ∷ label ∷ x ∷ more) = nothing

abbrev pub says : List ℕ → Said
says line = cond (is_text line) (by_words (words line)) nothing

abbrev pub asks : List ℕ → Said
asks line = says (without_end line)

abbrev pub request_text : Said → List ℕ
request_text (adds n label) = codes "add " ++ (digits n ++ (32 ∷ label))
request_text (strikes n) = codes "strike " ++ digits n
request_text (seeks n) = codes "seek " ++ digits n
request_text (plays n) = codes "play " ++ digits n
request_text (places n) = codes "place " ++ digits n
request_text (locates n) = codes "locate " ++ digits n
request_text logs = codes "log"
request_text nothing = []

abbrev pub Spaceless : List ℕ → Type 0
Spaceless bytes = AllByRecursion (λ b. b ≢ 32) bytes

abbrev pub Writable : Said → Type 0
Writable (adds n label) = (n < 2 ^ 64) × (0 < length label) × Spaceless label × (is_text label ≡ true)
Writable (strikes n) = n < 2 ^ 64
Writable (seeks n) = n < 2 ^ 64
Writable (plays n) = n < 2 ^ 64
Writable (places n) = n < 2 ^ 64
Writable (locates n) = n < 2 ^ 64
Writable logs = Unit {0}
Writable nothing = Unit {0}

abbrev pub EveryRequestReadsBack : Type 0
EveryRequestReadsBack = (s : Said) → Writable s → (says (request_text s) ≡ s) × (asks (request_text s ++ (10 ∷ [])) ≡ s)

-- What lines say, and that each request is read from its own text.
--   too_many                 a line of more than three words says nothing
--   read_back                each request is read from its own text
-- Assumes nothing.
use Rattle.std.proofs.Common.{◌≡◌, ℕ, ◌^◌, ◌<◌, Bool, true, false, cond, eqb, List, [], ◌∷◌, ◌++◌, Some, codes, IsUtf8, refl, ap, ◌∙◌, arith}
use Rattle.std.proofs.lemmas.Bool.{cond-true}
use Rattle.std.proofs.lemmas.Grind.{common_steps}
use Rattle.std.proofs.ByRecursion.{All-from_get_or}
use Rattle.std.proofs.lemmas.Str.Parse.{digit_at}
use Rattle.std.proofs.lemmas.Fmt.{decimal_is_IsNumeral, IsAscii-decimal}
use Rattle.std.proofs.lemmas.Str.{IsUtf8-append, IsUtf8-from_ascii, IsUtf8-nil, IsUtf8-from_is_utf8, is_utf8-from_IsUtf8}
use Rattle.std.specs.Str.{is_utf8, chars}
use lib.Utf8.{encode}
use Rattle.std.specs.List.{onto_first}
use Rattle.std.specs.Option.{option_map_or}
use Rattle.text.specs.Decimal.{digits}
use Rattle.text.proofs.Figures.{plain_digits}
use Rattle.operator.specs.Words.{words, verb_of, without_end}
use Rattle.operator.proofs.Cutting.{words_first, words_last}
use Rattle.operator.specs.Requests.{Said, adds, strikes, seeks, plays, places, locates, logs, nothing, two_words, three_words, by_words, says, request_text, Spaceless, Writable, EveryRequestReadsBack}

-- a word before more words, or alone
many : (v w label : List ℕ) (t : Bool) (b : ℕ) (xs ys : List (List ℕ))
    → by_words (v ∷ w ∷ label ∷ cond t ([] ∷ xs) (onto_first b ys)) ≡ nothing
many v w label true b xs ys = refl
many v w label false b xs [] = refl
many v w label false b xs (y ∷ ys) = refl

pub too_many : (v w label rest : List ℕ) → by_words (v ∷ w ∷ label ∷ words rest) ≡ nothing
too_many v w label [] = refl
too_many v w label (b ∷ bs) = many v w label (eqb b 32) b (words bs) (words bs)

pub digits_spaceless : (n : ℕ) → n < 2 ^ 64 → Spaceless (digits n)
digits_spaceless n small =
    let figures = (decimal_is_IsNumeral n small).0.1 in
    All-from_get_or (λ b. b ≡ 32 → ⊥) (digits n) 0
    (λ i inside space. let d = digit_at (digits n) i figures inside in omega arith)

two_back : (v : List ℕ) (n : ℕ) → n < 2 ^ 64 → by_words (v ∷ words (digits n)) ≡ option_map_or (two_words (Some n)) (verb_of v) nothing
two_back v n small =
    ap (λ ws. by_words (v ∷ ws)) (words_last (digits n) (digits_spaceless n small))
    ∙ ap (λ o. option_map_or (two_words o) (verb_of v) nothing) (plain_digits n small)

three_back : (v label : List ℕ) (n : ℕ) → n < 2 ^ 64 → Spaceless label
    → by_words (v ∷ words (digits n ++ (32 ∷ label))) ≡ option_map_or (λ a. three_words a (Some n) label) (verb_of v) nothing
three_back v label n small spaceless =
    ap (λ ws. by_words (v ∷ ws)) (words_first (digits n) label (digits_spaceless n small))
    ∙ ap (λ ws. by_words (v ∷ digits n ∷ ws)) (words_last label spaceless)
    ∙ ap (λ o. option_map_or (λ a. three_words a o label) (verb_of v) nothing) (plain_digits n small)

words_back : (s : Said) → Writable s → by_words (words (request_text s)) ≡ s
words_back (adds n []) h = absurd (omega (arith, h.1))
words_back (adds n (b ∷ bs)) h = three_back (codes "add") (b ∷ bs) n h.0 h.2
words_back (strikes n) h = two_back (codes "strike") n h
words_back (seeks n) h = two_back (codes "seek") n h
words_back (plays n) h = two_back (codes "play") n h
words_back (places n) h = two_back (codes "place") n h
words_back (locates n) h = two_back (codes "locate") n h
words_back logs h = refl
words_back nothing h = refl

end_lost : (text : List ℕ) → without_end (text ++ (10 ∷ [])) ≡ text
end_lost text = grind (arith, common_steps)

after_lead : (lead : List ℕ) (n : ℕ) → n < 2 ^ 64 → is_utf8 lead ≡ true → IsUtf8 (lead ++ digits n)
after_lead lead n small test = IsUtf8-append lead (digits n) (IsUtf8-from_is_utf8 lead test) (IsUtf8-from_ascii (digits n) (IsAscii-decimal n small))

text_is : (s : Said) → Writable s → IsUtf8 (request_text s)
unfolding is_utf8 chars encode
text_is (adds n label) h =
    let space = IsUtf8-append (32 ∷ []) label (IsUtf8-from_is_utf8 (32 ∷ []) refl) (IsUtf8-from_is_utf8 label h.3) in
    let number = IsUtf8-append (digits n) (32 ∷ label) (IsUtf8-from_ascii (digits n) (IsAscii-decimal n h.0)) space in
    IsUtf8-append (codes "add ") (digits n ++ (32 ∷ label)) (IsUtf8-from_is_utf8 (codes "add ") refl) number
text_is (strikes n) h = after_lead (codes "strike ") n h refl
text_is (seeks n) h = after_lead (codes "seek ") n h refl
text_is (plays n) h = after_lead (codes "play ") n h refl
text_is (places n) h = after_lead (codes "place ") n h refl
text_is (locates n) h = after_lead (codes "locate ") n h refl
text_is logs h = IsUtf8-from_is_utf8 (codes "log") refl
text_is nothing h = IsUtf8-nil

says_back : (s : Said) → Writable s → says (request_text s) ≡ s
says_back s h = cond-true _ _ _ (is_utf8-from_IsUtf8 (request_text s) (text_is s h)) ∙ words_back s h

pub read_back : EveryRequestReadsBack
read_back s h = (says_back s h, ap says (end_lost (request_text s)) ∙ says_back s h)

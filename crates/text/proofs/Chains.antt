-- Several texts appended one after another, where there is room for all of them.
--   fits_ok  a text that fits is appended
--   both     two texts that were appended one after the other are appended as one
-- Assumes nothing.
use Rattle.std.proofs.Common.{◌≡◌, ℕ, ◌+◌, ◌≤◌, true, List, ◌++◌, length, take, drop, Ok, Result, sym, ap, ◌∙◌, subst, append_assoc, arith, length-append, length-drop}
use Rattle.std.proofs.lemmas.List.{drop-drop, drop_at, length-take-le}
use Rattle.std.proofs.lemmas.Bool.{le-leb, cond-true}
use Rattle.refusal.specs.declared.Refusal.{Refusal}
use Rattle.text.specs.declared.writer.TextWriter.{TextWriter}
use Rattle.text.specs.Writer.{fits_after, Appends}
use Rattle.text.proofs.Loans.{grown_by, appends_ok}

pub fits_ok : (text : List ℕ) (from to : TextWriter) (r : Result (Unit {0}) Refusal)
    → from.len + length text ≤ length from.out.now → Appends text from to r → r ≡ Ok tt
fits_ok text from to r fits h = h.said ∙ cond-true _ _ _ (le-leb _ _ fits)

-- the buffer keeps its length, and what lies past the text
kept : (text out : List ℕ) (len : ℕ) → len + length text ≤ length out
    → length (take len out ++ (text ++ drop (len + length text) out)) ≡ length out
kept text out len fits =
    let front : length (take len out) ≡ len = length-take-le len out (omega arith) in
    let whole = length-append (take len out) (text ++ drop (len + length text) out) in
    let back = length-append text (drop (len + length text) out) in
    let rest = length-drop (len + length text) out in
    omega arith

past : (text out : List ℕ) (len k : ℕ) → len + length text ≤ length out
    → drop (len + length text + k) (take len out ++ (text ++ drop (len + length text) out)) ≡ drop (len + length text + k) out
past text out len k fits =
    let n : ℕ = len + length text in
    let front : length (take len out) ≡ len = length-take-le len out (omega arith) in
    let long : length (take len out ++ text) ≡ len + length text = length-append (take len out) text
    ∙ ap (λ m. m + length text) front in
    ap (drop (len + length text + k)) (sym (append_assoc (take len out) text (drop (len + length text) out)))
    ∙ sym (drop-drop k (len + length text) ((take len out ++ text) ++ drop (len + length text) out))
    ∙ ap (drop k) (drop_at (take len out ++ text) (drop (len + length text) out) (len + length text) long)
    ∙ drop-drop k (len + length text) out

-- the buffer after two texts is the buffer after both as one
joined : (t u out : List ℕ) (len : ℕ) → len + length t ≤ length out
    → take (len + length t) (take len out ++ (t ++ drop (len + length t) out)) ++ (u ++ drop (len + length t + length u) (take len out ++ (t ++ drop (len + length t) out))) ≡ take len out ++ ((t ++ u) ++ drop (len + length (t ++ u)) out)
joined t u out len fits =
    let sum : len + length t + length u ≡ len + length (t ++ u) = omega (arith, length-append t u) in
    ap (λ p. p ++ (u ++ drop (len + length t + length u) (take len out ++ (t ++ drop (len + length t) out))))
    (grown_by t out len (omega arith))
    ∙ ap (λ q. (take len out ++ t) ++ (u ++ q)) (past t out len (length u) fits ∙ ap (λ n. drop n out) sum)
    ∙ append_assoc (take len out) t (u ++ drop (len + length (t ++ u)) out)
    ∙ ap (λ q. take len out ++ q) (sym (append_assoc t u (drop (len + length (t ++ u)) out)))

pub both : (t u : List ℕ) (a b c : TextWriter) (p q : Result (Unit {0}) Refusal) → Appends t a b p → Appends u b c q
    → a.len + (length t + length u) ≤ length a.out.now → Appends (t ++ u) a c q
both t u a b c p q h k room =
    let front : fits_after t a.len a.out.now ≡ true = le-leb _ _ (omega arith) in
    let buffer : b.out.now ≡ take a.len a.out.now ++ (t ++ drop (a.len + length t) a.out.now) = h.buffer
    ∙ cond-true _ _ _ front in
    let filled : b.len ≡ a.len + length t = h.filled ∙ cond-true _ _ _ front in
    let long : length b.out.now ≡ length a.out.now = ap length buffer ∙ kept t a.out.now a.len (omega arith) in
    let sum : length (t ++ u) ≡ length t + length u = length-append t u in
    let back : fits_after u b.len b.out.now ≡ true = le-leb _ _ (omega arith) in
    let after : c.out.now ≡ take b.len b.out.now ++ (u ++ drop (b.len + length u) b.out.now) = k.buffer
    ∙ cond-true _ _ _ back in
    let whole = after
    ∙ ap (λ n. take n b.out.now ++ (u ++ drop (n + length u) b.out.now)) filled
    ∙ ap (λ xs. take (a.len + length t) xs ++ (u ++ drop (a.len + length t + length u) xs)) buffer
    ∙ joined t u a.out.now a.len (omega arith) in
    let end : c.len ≡ b.len + length u = k.filled ∙ cond-true _ _ _ back in
    subst (Appends (t ++ u) a c) (sym (k.said ∙ cond-true _ _ _ back))
    (appends_ok (t ++ u) a c (omega arith) whole (omega arith) (k.same ∙ h.same))

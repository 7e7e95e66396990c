use Rattle.std.proofs.Common.{◌≡◌, ℕ, [], ◌∷◌, ◌++◌, length, Ok, Result, ◌∙◌, subst, append_assoc, arith, length-append, ◌+◌, ◌≤◌}
use borrow.Author.Tests.{true-leb}
use Rattle.refusal.specs.declared.Refusal.{Refusal}
use Rattle.text.specs.declared.writer.TextWriter.{TextWriter}
use Rattle.text.specs.Decimal.{digits}
use Rattle.text.specs.Writer.{Appends}
use Rattle.text.proofs.Chains.{fits_ok, both}
use Rattle.bar_positions.proofs.Threes.{text_length}
use Rattle.bar_positions.proofs.position.BarPosition.write_text.Goals as goal

-- two numbers, each with its full stop
front : (m n : ℕ) (a b c d e : TextWriter) (p q r s : Result (Unit {0}) Refusal) → Appends (digits m) a b p
    → Appends (46 ∷ []) b c q → Appends (digits n) c d r → Appends (46 ∷ []) d e s
    → a.len + (length (digits m) + length (digits n) + 2) ≤ length a.out.now
    → Appends (((digits m ++ (46 ∷ [])) ++ digits n) ++ (46 ∷ [])) a e s
front m n a b c d e p q r s h i j k room =
    let first = digits m ++ (46 ∷ []) in
    let x = length-append (digits m) (46 ∷ []) in
    let y = length-append first (digits n) in
    let one = both (digits m) (46 ∷ []) a b c p q h i (omega arith) in
    let two = both first (digits n) a c d q r one j (omega arith) in
    both (first ++ digits n) (46 ∷ []) a d e r s two k (omega arith)

pub returns-in_err-byte-2 : goal.returns-in_err-byte-2
returns-in_err-byte-2 c =
    let v = c.args.self in
    let w = c.args.w.now in
    let long = text_length v in
    let room = true-leb _ _ c.if-not-fits.ensures in
    let first = digits v.bar ++ (46 ∷ []) in
    let x = length-append (digits v.bar) (46 ∷ []) in
    let y = length-append first (digits v.beat) in
    let z = length-append (first ++ digits v.beat) (46 ∷ []) in
    let three = front v.bar v.beat w c.number.new.self c.byte.new.self c.number-2.new.self c.byte-2.new.self
    c.number.result c.byte.result c.number-2.result c.byte-2.result (rw c.from.ensures at c.number.ensures)
    c.byte.ensures (rw c.from-2.ensures at c.number-2.ensures) c.byte-2.ensures (omega arith) in
    let done : c.byte-2.result ≡ Ok tt = fits_ok _ w c.byte-2.new.self c.byte-2.result (omega arith) three in
    let refused = c.in_err-byte-2.was in
    let no : ◌≡◌ {A = ℕ} 0 1 = cc in
    absurd (omega arith)

pub returns : goal.returns
returns c =
    let v = c.args.self in
    let w = c.args.w.now in
    let bar = digits v.bar ++ (46 ∷ []) in
    let tick = digits v.tick in
    let long = text_length v in
    let room = true-leb _ _ c.if-not-fits.ensures in
    let x = length-append (digits v.bar) (46 ∷ []) in
    let y = length-append bar (digits v.beat) in
    let z = length-append (bar ++ digits v.beat) (46 ∷ []) in
    let three = front v.bar v.beat w c.number.new.self c.byte.new.self c.number-2.new.self c.byte-2.new.self
    c.number.result c.byte.result c.number-2.result c.byte-2.result (rw c.from.ensures at c.number.ensures)
    c.byte.ensures (rw c.from-2.ensures at c.number-2.ensures) c.byte-2.ensures (omega arith) in
    let four = both ((bar ++ digits v.beat) ++ (46 ∷ [])) tick w c.byte-2.new.self c.number-3.new.self c.byte-2.result
    c.number-3.result three (rw c.from-3.ensures at c.number-3.ensures) (omega arith) in
    subst (λ t. Appends t w c.number-3.new.self c.number-3.result)
    (append_assoc (bar ++ digits v.beat) (46 ∷ []) tick ∙ append_assoc bar (digits v.beat) (46 ∷ tick)
    ∙ append_assoc (digits v.bar) (46 ∷ []) (digits v.beat ++ (46 ∷ tick))) four

-- What a text writer holds once it got back the part of its buffer that it lent.
--   appends_ok, appends_no  a text was appended, or did not fit
--   filled_ok               the part came back with the text at its start
--   filled_no               the part came back as it was, too short for the text
-- Assumes nothing.
use Rattle.std.proofs.Common.{◌≡◌, ℕ, ◌+◌, ◌-◌, ◌<◌, ◌≤◌, Bool, true, false, cond, List, [], ◌++◌, length, take, drop, Some, None, Ok, Err, Result, sym, refl, ap, ◌∙◌, subst, append_assoc, arith, length-append, length-drop}
use borrow.Rule.Slice.PartMut.{put_mid}
use Rattle.std.proofs.lemmas.List.{take_rest, take_at, drop-drop, drop_all, append-nil, take-append-drop, length-take-le}
use Rattle.std.proofs.lemmas.Bool.{le-leb, lt-leb, leb-true, leb-false, cond-true, cond-false}
use Rattle.std.specs.Option.{ok_or}
use Rattle.refusal.specs.declared.Refusal.{Refusal}
use Rattle.refusal.specs.declared.Refusal.TheVariants.{ShortBuffer}
use Rattle.text.specs.declared.writer.TextWriter.{TextWriter}
use Rattle.text.specs.Decimal.{fits_in}
use Rattle.text.specs.Writer.{written, fits_after, Puts, Appends}

-- what a step answers says whether its text fits
ok_fits : (b : Bool) (x k : ℕ) → ◌≡◌ {A = Result ℕ Refusal} (Ok k) (ok_or (cond b (Some x) None) ShortBuffer)
    → (b ≡ true) × (k ≡ x)
ok_fits true x k e = (refl, cc)
ok_fits false x k e = let z : ◌≡◌ {A = ℕ} 0 1 = cc in absurd (omega arith)

err_short : (b : Bool) (x : ℕ) (why : Refusal)
    → ◌≡◌ {A = Result ℕ Refusal} (Err why) (ok_or (cond b (Some x) None) ShortBuffer) → (b ≡ false) × (why ≡ ShortBuffer)
err_short true x why e = let z : ◌≡◌ {A = ℕ} 0 1 = cc in absurd (omega arith)
err_short false x why e = (refl, cc)

-- the text stands after what was filled
pub grown_by : (text out : List ℕ) (len : ℕ) → len ≤ length out
    → take (len + length text) (take len out ++ (text ++ drop (len + length text) out)) ≡ take len out ++ text
grown_by text out len inside =
    let front : length (take len out) ≡ len = length-take-le len out inside in
    let long : length (take len out ++ text) ≡ len + length text = length-append (take len out) text
    ∙ ap (λ n. n + length text) front in
    ap (take (len + length text)) (sym (append_assoc (take len out) text (drop (len + length text) out)))
    ∙ take_at (take len out ++ text) (drop (len + length text) out) (len + length text) long

pub appends_ok : (text : List ℕ) (from to : TextWriter) → from.len + length text ≤ length from.out.now
    → to.out.now ≡ take from.len from.out.now ++ (text ++ drop (from.len + length text) from.out.now)
    → to.len ≡ from.len + length text → to.out.ghost_name ≡ from.out.ghost_name → Appends text from to (Ok tt)
appends_ok text from to fits buffer filled same =
    let test : fits_after text from.len from.out.now ≡ true = le-leb _ _ fits in
    let inside : from.len ≤ length from.out.now = omega arith in
    let all : written to ≡ written from ++ text = ap (λ n. take n to.out.now) filled
    ∙ ap (take (from.len + length text)) buffer ∙ grown_by text from.out.now from.len inside in
    record {
      said = sym (cond-true _ _ _ test);
      buffer = buffer ∙ sym (cond-true _ _ _ test);
      filled = filled ∙ sym (cond-true _ _ _ test);
      grown = all ∙ sym (cond-true _ _ _ test);
      same = same;
    }

pub appends_no : (text : List ℕ) (from to : TextWriter) → length from.out.now < from.len + length text
    → to.out.now ≡ from.out.now → to.len ≡ from.len → to.out.ghost_name ≡ from.out.ghost_name
    → Appends text from to (Err ShortBuffer)
appends_no text from to short buffer filled same =
    let test : fits_after text from.len from.out.now ≡ false = lt-leb _ _ short in
    let all : written to ≡ written from = ap (λ n. take n to.out.now) filled ∙ ap (take from.len) buffer in
    record {
      said = sym (cond-false _ _ _ test);
      buffer = buffer ∙ sym (cond-false _ _ _ test);
      filled = filled ∙ sym (cond-false _ _ _ test);
      grown = all ∙ sym (cond-false _ _ _ test);
      same = same;
    }

-- the part from len on put back in its place
back_in : (out part : List ℕ) (len : ℕ) → len ≤ length out
    → put_mid len (length out - len) out part ≡ take len out ++ part
back_in out part len inside =
    let none : drop (length out - len) (drop len out) ≡ [] = drop-drop (length out - len) len out
    ∙ drop_all (len + (length out - len)) out (omega arith) in
    ap (λ xs. take len out ++ (part ++ xs)) none ∙ ap (λ xs. take len out ++ xs) (append-nil part)

abbrev pub lent : List ℕ → ℕ → List ℕ
lent out len = take (length out - len) (drop len out)

pub filled_ok : (text part : List ℕ) (from to : TextWriter) (k : ℕ) → from.len ≤ length from.out.now
    → Puts text (lent from.out.now from.len) part (Ok k)
    → to.out.now ≡ put_mid from.len (length from.out.now - from.len) from.out.now part → to.len ≡ from.len + k
    → to.out.ghost_name ≡ from.out.ghost_name → Appends text from to (Ok tt)
filled_ok text part from to k inside puts back filled same =
    let out = from.out.now in
    let len = from.len in
    let rest = take_rest out len in
    let s = ok_fits (fits_in text (lent out len)) (length text) k puts.said in
    let enough = leb-true (length text) (length (lent out len)) s.0 in
    let long : length (lent out len) ≡ length out - len = ap length rest ∙ length-drop len out in
    let is : part ≡ text ++ drop (len + length text) out = puts.left ∙ cond-true _ _ _ s.0
    ∙ ap (λ xs. text ++ drop (length text) xs) rest ∙ ap (λ xs. text ++ xs) (drop-drop (length text) len out) in
    appends_ok text from to (omega arith) (back ∙ back_in out part len inside ∙ ap (λ xs. take len out ++ xs) is)
    (filled ∙ ap (λ n. len + n) s.1) same

pub filled_no : (text part : List ℕ) (from to : TextWriter) (why : Refusal) (r : Result (Unit {0}) Refusal)
    → from.len ≤ length from.out.now → Puts text (lent from.out.now from.len) part (Err why)
    → to.out.now ≡ put_mid from.len (length from.out.now - from.len) from.out.now part → to.len ≡ from.len
    → to.out.ghost_name ≡ from.out.ghost_name → r ≡ Err why → Appends text from to r
filled_no text part from to why r inside puts back filled same said =
    let out = from.out.now in
    let len = from.len in
    let rest = take_rest out len in
    let s = err_short (fits_in text (lent out len)) (length text) why puts.said in
    let short = leb-false (length text) (length (lent out len)) s.0 in
    let long : length (lent out len) ≡ length out - len = ap length rest ∙ length-drop len out in
    let is : part ≡ drop len out = puts.left ∙ cond-false _ _ _ s.0 ∙ rest in
    let whole = back ∙ back_in out part len inside ∙ ap (λ xs. take len out ++ xs) is ∙ take-append-drop len out in
    subst (Appends text from to) (sym (said ∙ ap (λ e. Err e) s.1))
    (appends_no text from to (omega arith) whole filled same)

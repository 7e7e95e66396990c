-- Labels pair with the numbers below a day's count, in order, in every format.
-- Assumes nothing.
use Rattle.std.specs.Prelude.{◌≡◌, ℕ, ◌+◌, ◌-◌, ◌<◌, ◌≤◌, Bool, true, false, if◌then◌else◌, not, ◌&&◌, Some, None, refl}
use Rattle.std.proofs.Common.{ap, ◌∙◌, ⊎_elim, arith}
use Rattle.forms.specs.Pairing.{Pairing, InOrder, Earlier}
use Rattle.forms.specs.Formats.{values}
use Rattle.forms.specs.Labels.{minutes_in, nominal, in_range, left_out, valid, dropped_before, added_to, nominal_label, label_of, label_number, label_parts}
use Rattle.forms.specs.declared.format.Format.{Format}
use Rattle.forms.specs.declared.label.Label.{Label}
use Rattle.forms.specs.Order.{three_ways, compared}
use Rattle.forms.specs.Nominal.{InRange, ranges, nominal_back, nominal_in_range, nominal_forth, nominal_lower}
use Rattle.forms.specs.Dropped.{undone}

some_from : (v : Bool) (x n : ℕ) → (if v then Some x else None) ≡ Some n → (v ≡ true) × (x ≡ n)
some_from true x n e = (refl, (cc))
some_from false x n e = let z : ◌≡◌ {A = ℕ} 0 1 = cc in absurd (omega arith)

pub both_from : (a b : Bool) → (a && not b) ≡ true → (a ≡ true) × (b ≡ false)
both_from true false e = (refl, refl)
both_from true true e = let z : ◌≡◌ {A = ℕ} 0 1 = cc in absurd (omega arith)
both_from false b e = let z : ◌≡◌ {A = ℕ} 0 1 = cc in absurd (omega arith)

some_to : (a b : Bool) (x n : ℕ) → a ≡ true → b ≡ false → x ≡ n → (if a && not b then Some x else None) ≡ Some n
some_to a b x n p q e = rw (p, q, e) refl

-- what a label's having a number says
pub record Numbered (f : Format) (l : Label) (n : ℕ) : Type 0 where
  pub range : InRange (values f).rate l
  pub stands : ((values f).drops && left_out l) ≡ false
  pub is : nominal (values f).rate l - dropped_before f (minutes_in l) ≡ n

pub numbered : (f : Format) (l : Label) (n : ℕ) → label_number f l ≡ Some n → Numbered f l n
numbered f l n e =
    let c : ℕ = (values f).rate in
    let h = some_from (valid f l) (nominal c l - dropped_before f (minutes_in l)) n e in
    let g = both_from (in_range c l) ((values f).drops && left_out l) h.0 in
    record { range = ranges c l g.0; stands = g.1; is = h.1 }

pub nominal_of : (f : Format) (l : Label) (n : ℕ) → Numbered f l n → n + added_to f n ≡ nominal (values f).rate l
nominal_of f l n h = rw h.is at ((undone f).forth l h.range h.stands).0

pub label_below : (f : Format) (l : Label) (n : ℕ) → label_number f l ≡ Some n → n < (values f).day
label_below f l n e =
    let h = numbered f l n e in
    rw h.is at ((undone f).forth l h.range h.stands).1

pub label_forth : (f : Format) (l : Label) (n : ℕ) → label_number f l ≡ Some n → label_of f n ≡ l
label_forth f l n e =
    let h = numbered f l n e in
    let c : ℕ = (values f).rate in
    ap (nominal_label c) (nominal_of f l n h) ∙ nominal_forth c l h.range

pub label_back : (f : Format) (n : ℕ) → n < (values f).day → label_number f (label_of f n) ≡ Some n
label_back f n h =
    let c : ℕ = (values f).rate in
    let u = undone f in
    let l : Label = label_of f n in
    let is : nominal c l - dropped_before f (minutes_in l) ≡ n
    = ap (λ x. x - dropped_before f (minutes_in l)) (nominal_back c (n + added_to f n)) ∙ u.back n h in
    let range = nominal_in_range c (n + added_to f n) u.some (u.within n h) in
    some_to (in_range c l) ((values f).drops && left_out l) (nominal c l - dropped_before f (minutes_in l)) n range (u.kept n h) is

pub label_lower : (f : Format) (l k : Label) (m n : ℕ) → label_number f l ≡ Some m → label_number f k ≡ Some n
    → Earlier (label_parts l) (label_parts k) → m < n
label_lower f l k m n d e before =
    let g = numbered f l m d in
    let h = numbered f k n e in
    let less = nominal_lower (values f).rate l k g.range h.range before in
    let a = nominal_of f l m g in
    let b = nominal_of f k n h in
    ⊎_elim
    (λ done. done)
    (λ other. let back : n ≤ m = ⊎_elim (λ same. omega arith) (λ more. omega arith) other in
    absurd (omega (arith, (undone f).rises n m back)))
    (three_ways m n)

pub label_earlier : (f : Format) (l k : Label) (m n : ℕ) → label_number f l ≡ Some m → label_number f k ≡ Some n
    → m < n → Earlier (label_parts l) (label_parts k)
label_earlier f l k m n d e less =
    ⊎_elim
    (λ done. done)
    (⊎_elim
    (λ same. let one : label_number f l ≡ label_number f k = cc in let equal : m ≡ n = cc in absurd (omega arith))
    (λ after. absurd (omega (arith, label_lower f k l n m e d after))))
    (compared (label_parts l) (label_parts k) refl)

pub label_paired : (f : Format) → Pairing Label (values f).day (label_number f) (label_of f)
label_paired f = record { below = label_below f; forth = label_forth f; back = label_back f }

pub label_ordered : (f : Format) → InOrder Label (label_number f) label_parts
label_ordered f = record { earlier = label_earlier f; lower = label_lower f }

-- The text of a valid position is read back, and no other text is.
--   valid_held        the parts of a valid position fit their fields
--   read_back         such a position is read from its own text
--   own_kept          a position that was read is kept where the text is its own
--   settled           whatever reads each position from its own text settles what a text writes
--   spells_position   what a text writes
-- Assumes nothing.
use Rattle.std.proofs.Common.{◌≡◌, ℕ, ◌-◌, ◌*◌, ◌^◌, ◌<◌, ◌≤◌, Bool, true, false, cond, leb, List, ◌∷◌, ◌++◌, Some, None, Option, IfSome, MatchOption, unwrap_or, sym, refl, ap, ◌∙◌, subst, true≢false, div-le_self, arith}
use Rattle.std.specs.Bool.{then_some}
use Rattle.std.specs.Str.{bytes_eq}
use Rattle.std.proofs.lemmas.Slice.Eq.{bytes_eq-Decides}
use Rattle.std.proofs.lemmas.Bool.{le-leb, leb-true, cond-true}
use Rattle.meter.specs.Rules.{kept}
use Rattle.meter.specs.BarLines.{bar_start}
use Rattle.meter.specs.declared.row.MeterRow.{MeterRow}
use Rattle.meter.specs.Meters.{metered}
use Rattle.forms.specs.Texts.{Spells}
use Rattle.text.specs.Decimal.{digits, plain}
use Rattle.text.proofs.Figures.{plain_digits}
use Rattle.bar_positions.specs.BarPositions.{meter_of, no_position, position_number}
use Rattle.bar_positions.specs.Spellings.{Held, position_text, front, after, at_most, of_parts, parts_read, own_or_none, position_spelt}
use Rattle.bar_positions.specs.declared.position.BarPosition.{BarPosition}
use Rattle.bar_positions.specs.Standing.{stands}
use Rattle.bar_positions.proofs.Stops.{digits_cut}

pub valid_held : (d : ℕ) (rows : List MeterRow) → kept d rows ≡ true → (v : BarPosition) (n : ℕ)
    → position_number d rows v ≡ Some n → Held v
valid_held d rows k v n e =
    let s = stands d rows v n e in
    let p : ℕ = v.bar - 1 in
    let m = metered d rows (bar_start d rows p) k in
    let short = div-le_self (4 * d) (2 ^ (meter_of d rows p).dd) in
    record {
      bar≤ = s.few_bars;
      beat≤ = omega (arith, s.few_beats, m.range.few_beats);
      tick≤ = omega (arith, s.tick<, m.high, short);
    }

part_back : (most n : ℕ) (part : List ℕ) → n ≤ most → n < 2 ^ 64 → part ≡ digits n
    → at_most most (plain part) ≡ Some n
part_back most n part few small is =
    ap (λ w. at_most most (plain w)) is
    ∙ ap (at_most most) (plain_digits n small)
    ∙ cond-true _ _ _ (le-leb n most few)

made : (bar beat tick : Option ℕ) (v : BarPosition) → bar ≡ Some v.bar → beat ≡ Some v.beat → tick ≡ Some v.tick
    → of_parts bar beat tick ≡ Some v
made bar beat tick v a b c = rw (a, b, c) refl

pub read_back : (v : BarPosition) → Held v → parts_read (position_text v) ≡ Some v
read_back v h =
    let bar< : v.bar < 2 ^ 64 = omega (arith, h.bar≤) in
    let beat< : v.beat < 2 ^ 64 = omega (arith, h.beat≤) in
    let tick< : v.tick < 2 ^ 64 = omega (arith, h.tick≤) in
    let a = digits_cut v.bar (digits v.beat ++ (46 ∷ digits v.tick)) bar< in
    let b = digits_cut v.beat (digits v.tick) beat< in
    made _ _ _ v
    (part_back 65535 v.bar _ h.bar≤ bar< a.first_is)
    (part_back 255 v.beat _ h.beat≤ beat< (ap front a.rest_is ∙ b.first_is))
    (part_back 4294967295 v.tick _ h.tick≤ tick< (ap after a.rest_is ∙ b.rest_is))

-- the parts that were read are no greater than their fields allow
at_most_is : (most : ℕ) (o : Option ℕ) (n : ℕ) → at_most most o ≡ Some n → n ≤ most
at_most_is most None n e = let z : ◌≡◌ {A = ℕ} 0 1 = cc in absurd (omega arith)
at_most_is most (Some m) n e = kept_few (leb m most) refl e
  where
    kept_few : (b : Bool) → leb m most ≡ b → cond b (Some m) None ≡ Some n → n ≤ most
    kept_few true test is = let same : m ≡ n = cc in omega (arith, leb-true m most test)
    kept_few false test is = let z : ◌≡◌ {A = ℕ} 0 1 = cc in absurd (omega arith)

of_held : (a b c : Option ℕ) (v : BarPosition) → ((n : ℕ) → a ≡ Some n → n ≤ 65535) → ((n : ℕ) → b ≡ Some n → n ≤ 255)
    → ((n : ℕ) → c ≡ Some n → n ≤ 4294967295) → of_parts a b c ≡ Some v → Held v
of_held (Some x) (Some y) (Some z) v f g h e =
    let is : ◌≡◌ {A = BarPosition} (record { bar = x; beat = y; tick = z }) v = cc in
    subst Held is (record { bar≤ = f x refl; beat≤ = g y refl; tick≤ = h z refl })
of_held (Some x) (Some y) None v f g h e = let z : ◌≡◌ {A = ℕ} 0 1 = cc in absurd (omega arith)
of_held (Some x) None c v f g h e = let z : ◌≡◌ {A = ℕ} 0 1 = cc in absurd (omega arith)
of_held None b c v f g h e = let z : ◌≡◌ {A = ℕ} 0 1 = cc in absurd (omega arith)

read_held : (text : List ℕ) (v : BarPosition) → parts_read text ≡ Some v → Held v
read_held text v e = of_held _ _ _ v (at_most_is 65535 (plain (front text)))
    (at_most_is 255 (plain (front (after text)))) (at_most_is 4294967295 (plain (after (after text)))) e

-- what is read of a text counts only where the text is its own
own_is : (text : List ℕ) (v : BarPosition) → position_text v ≡ text → own_or_none text (Some v) ≡ v
own_is text v own = cond-true _ _ _ ((bytes_eq-Decides (position_text v) text).1 own)

-- so two readings that agree there write the same
agree : (text : List ℕ) (o p : Option BarPosition) → ((v : BarPosition) → position_text v ≡ text → o ≡ Some v → p ≡ Some v)
    → ((v : BarPosition) → position_text v ≡ text → p ≡ Some v → o ≡ Some v) → own_or_none text o ≡ own_or_none text p
agree text None None i j = refl
agree text None (Some w) i j = at (bytes_eq (position_text w) text) refl
  where
    at : (b : Bool) → bytes_eq (position_text w) text ≡ b → no_position ≡ cond b w no_position
    at true test =
        let none = j w ((bytes_eq-Decides (position_text w) text).0 test) refl in
        let z : ◌≡◌ {A = ℕ} 0 1 = cc in
        absurd (omega arith)
    at false test = refl
agree text (Some v) p i j = at (bytes_eq (position_text v) text) refl
  where
    rest : (q : Option BarPosition) → p ≡ q → bytes_eq (position_text v) text ≡ false → no_position ≡ own_or_none text q
    rest None is test = refl
    rest (Some w) is test = deep (bytes_eq (position_text w) text) refl
      where
        deep : (b : Bool) → bytes_eq (position_text w) text ≡ b → no_position ≡ cond b w no_position
        deep true own =
            let back = j w ((bytes_eq-Decides (position_text w) text).0 own) is in
            let same : v ≡ w = cc in
            let z : true ≡ false = sym own ∙ ap (λ x. bytes_eq (position_text x) text) (sym same) ∙ test in
            absurd (true≢false z)
        deep false own = refl

    at : (b : Bool) → bytes_eq (position_text v) text ≡ b → cond b v no_position ≡ own_or_none text p
    at true test =
        let own = (bytes_eq-Decides (position_text v) text).0 test in
        sym (ap (own_or_none text) (i v own refl) ∙ own_is text v own)
    at false test = rest p refl test

-- a position kept where the text is its own, or one that is not valid
kept_at : (b : Bool) (v : BarPosition) → unwrap_or (then_some b v) no_position ≡ cond b v no_position
kept_at true v = refl
kept_at false v = refl

pub own_kept : (text : List ℕ) (Q : BarPosition → Bool → Type 0) → ((v : BarPosition) (b : Bool) → Q v b → b ≡ bytes_eq (position_text v) text)
    → (o p : Option BarPosition) → MatchOption o (p ≡ None) (λ v. (b : Bool) × Q v b × (p ≡ then_some b v))
    → unwrap_or p no_position ≡ own_or_none text o
own_kept text Q test None p h = ap (λ q. unwrap_or q no_position) h
own_kept text Q test (Some v) p h =
    ap (λ q. unwrap_or q no_position) h.2
    ∙ kept_at h.0 v
    ∙ ap (λ b. cond b v no_position) (test v h.0 h.1)

-- whatever reads each position from its own text settles what a text writes
pub settled : (text : List ℕ) (o : Option BarPosition) → ((v : BarPosition) → Held v → text ≡ position_text v → o ≡ Some v)
    → IfSome o Held → own_or_none text o ≡ position_spelt text
settled text o own held =
    agree text o (parts_read text)
    (λ v is e. subst (λ t. parts_read t ≡ Some v) is (read_back v (subst (λ p. IfSome p Held) e held)))
    (λ v is e. own v (read_held text v e) (sym is))

spelt_back : (v : BarPosition) → Held v → position_spelt (position_text v) ≡ v
spelt_back v h =
    let text : List ℕ = position_text v in
    ap (own_or_none text) (read_back v h)
    ∙ cond-true _ _ _ ((bytes_eq-Decides (position_text v) text).1 refl)

-- the position that stands for no text is not valid
only_own : (d : ℕ) (rows : List MeterRow) (text : List ℕ) (o : Option BarPosition) (n : ℕ)
    → position_number d rows (own_or_none text o) ≡ Some n → text ≡ position_text (own_or_none text o)
only_own d rows text None n e = absurd (omega (arith, (stands d rows no_position n e).some_bar))
only_own d rows text (Some v) n e = at (bytes_eq (position_text v) text) refl e
  where
    at : (b : Bool) → bytes_eq (position_text v) text ≡ b → position_number d rows (cond b v no_position) ≡ Some n
        → text ≡ position_text (cond b v no_position)
    at true test is = sym ((bytes_eq-Decides (position_text v) text).0 test)
    at false test is = absurd (omega (arith, (stands d rows no_position n is).some_bar))

pub spells_position : (d : ℕ) (rows : List MeterRow) → kept d rows ≡ true → (text : List ℕ)
    → Spells BarPosition (position_number d rows) position_text text (position_spelt text)
spells_position d rows k text = record {
  own = λ w n e is. ap position_spelt is ∙ spelt_back w (valid_held d rows k w n e);
  only = λ n e. only_own d rows text (parts_read text) n e;
}

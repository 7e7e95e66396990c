use Rattle.std.proofs.Common.{◌≡◌, ℕ, ◌<◌, Bool, true, false, ◌⊎◌, inl, inr, ◌∷◌, ◌++◌, length, Some, None, Option, refl, sym, ap, ◌∙◌, true≢false, arith, rules}
use Rattle.std.proofs.lemmas.Fn.{always_returns_same}
use Rattle.text.specs.Decimal.{digits}
use Rattle.bar_positions.specs.declared.position.BarPosition.{BarPosition}
use Rattle.bar_positions.proofs.Stops.{stop, digits_split, last_split, digits_number, digits_narrowed}
use Rattle.bar_positions.proofs.Threes.{text_short}
use Rattle.bar_positions.proofs.position.BarPosition.parts_read.Goals as goal

made : (bar beat tick : ℕ) (v : BarPosition) → bar ≡ v.bar → beat ≡ v.beat → tick ≡ v.tick
    → ◌≡◌ {A = Option BarPosition} (Some (record { bar = bar; beat = beat; tick = tick })) (Some v)
made bar beat tick v a b c = rw (a, b, c) refl

-- while parts are wanted and the text is not at its end there is one
none_left : {m : ℕ} {d : Bool} → (m ≡ 0) ⊎ (d ≡ true) → 0 < m → d ≡ false → ⊥
none_left (inl z) some on = omega arith
none_left (inr y) some on = true≢false (sym y ∙ on)

-- no position has so long a text
pub returns-then-text-gt-MOST_TEXT-clause-own : goal.returns-then-text-gt-MOST_TEXT-clause-own
returns-then-text-gt-MOST_TEXT-clause-own c = λ v h is.
    let few = text_short v (omega (arith, h.bar≤)) (omega (arith, h.beat≤)) (omega (arith, h.tick≤)) in
    absurd (omega (arith, few, ap length is, c.if-text-gt-MOST_TEXT.true))

pub returns-in_err-beat-clause-own : goal.returns-in_err-beat-clause-own
returns-in_err-beat-clause-own c = λ v h is.
    let n = c.in_ok-bar.ensures.steps in
    let bar = digits_split v.bar (digits v.beat ++ (46 ∷ digits v.tick)) _ c.in_ok-bar.bar.now _ _ (omega (arith, h.bar≤))
    (c.splitn-parts.ensures.rest ∙ is) n.1.2
    (n.1.4 (omega (arith, c.splitn-parts.ensures.count)) stop
    (always_returns_same _ (λ a r. r ≡ stop a.0.now) _ (λ a r q k. ((search rules), refl)))).1 in
    absurd (none_left c.in_err-beat.ensures.steps.1 (omega (arith, n.0, c.splitn-parts.ensures.count)) bar.2)

pub returns-in_err-tick-clause-own : goal.returns-in_err-tick-clause-own
returns-in_err-tick-clause-own c = λ v h is.
    let n = c.in_ok-bar.ensures.steps in
    let bar = digits_split v.bar (digits v.beat ++ (46 ∷ digits v.tick)) _ c.in_ok-bar.bar.now _ _ (omega (arith, h.bar≤))
    (c.splitn-parts.ensures.rest ∙ is) n.1.2
    (n.1.4 (omega (arith, c.splitn-parts.ensures.count)) stop
    (always_returns_same _ (λ a r. r ≡ stop a.0.now) _ (λ a r q k. ((search rules), refl)))).1 in
    let o = c.in_ok-beat.ensures.steps in
    let beat = digits_split v.beat (digits v.tick) _ c.in_ok-beat.beat.now _ _ (omega (arith, h.beat≤)) bar.1 o.1.2
    (o.1.4 (omega (arith, n.0, c.splitn-parts.ensures.count)) stop
    (always_returns_same _ (λ a r. r ≡ stop a.0.now) _ (λ a r q k. ((search rules), refl)))).1 in
    absurd (none_left c.in_err-tick.ensures.steps.1 (omega (arith, o.0, n.0, c.splitn-parts.ensures.count)) beat.2)

pub returns-in_err-read_number-clause-own : goal.returns-in_err-read_number-clause-own
returns-in_err-read_number-clause-own c = λ v h is.
    let n = c.in_ok-bar.ensures.steps in
    let bar = digits_split v.bar (digits v.beat ++ (46 ∷ digits v.tick)) _ c.in_ok-bar.bar.now _ _ (omega (arith, h.bar≤))
    (c.splitn-parts.ensures.rest ∙ is) n.1.2
    (n.1.4 (omega (arith, c.splitn-parts.ensures.count)) stop
    (always_returns_same _ (λ a r. r ≡ stop a.0.now) _ (λ a r q k. ((search rules), refl)))).1 in
    absurd (digits_number v.bar c.in_ok-bar.bar.now None (omega (arith, h.bar≤)) bar.0
    c.in_err-read_number.ensures)

pub returns-in_err-ok-clause-own : goal.returns-in_err-ok-clause-own
returns-in_err-ok-clause-own c = λ v h is.
    let n = c.in_ok-bar.ensures.steps in
    let bar = digits_split v.bar (digits v.beat ++ (46 ∷ digits v.tick)) _ c.in_ok-bar.bar.now _ _ (omega (arith, h.bar≤))
    (c.splitn-parts.ensures.rest ∙ is) n.1.2
    (n.1.4 (omega (arith, c.splitn-parts.ensures.count)) stop
    (always_returns_same _ (λ a r. r ≡ stop a.0.now) _ (λ a r q k. ((search rules), refl)))).1 in
    absurd (digits_narrowed 65536 v.bar c.in_ok-read_number.field-0 c.try_from.result None (omega (arith, h.bar≤))
    (digits_number v.bar c.in_ok-bar.bar.now (Some c.in_ok-read_number.field-0) (omega (arith, h.bar≤)) bar.0
    c.in_ok-read_number.ensures) c.try_from.ensures c.in_err-ok.ensures.value)

pub returns-in_err-read_number-2-clause-own : goal.returns-in_err-read_number-2-clause-own
returns-in_err-read_number-2-clause-own c = λ v h is.
    let n = c.in_ok-bar.ensures.steps in
    let bar = digits_split v.bar (digits v.beat ++ (46 ∷ digits v.tick)) _ c.in_ok-bar.bar.now _ _ (omega (arith, h.bar≤))
    (c.splitn-parts.ensures.rest ∙ is) n.1.2
    (n.1.4 (omega (arith, c.splitn-parts.ensures.count)) stop
    (always_returns_same _ (λ a r. r ≡ stop a.0.now) _ (λ a r q k. ((search rules), refl)))).1 in
    let o = c.in_ok-beat.ensures.steps in
    let beat = digits_split v.beat (digits v.tick) _ c.in_ok-beat.beat.now _ _ (omega (arith, h.beat≤)) bar.1 o.1.2
    (o.1.4 (omega (arith, n.0, c.splitn-parts.ensures.count)) stop
    (always_returns_same _ (λ a r. r ≡ stop a.0.now) _ (λ a r q k. ((search rules), refl)))).1 in
    absurd (digits_number v.beat c.in_ok-beat.beat.now None (omega (arith, h.beat≤)) beat.0
    c.in_err-read_number-2.ensures)

pub returns-in_err-ok-2-clause-own : goal.returns-in_err-ok-2-clause-own
returns-in_err-ok-2-clause-own c = λ v h is.
    let n = c.in_ok-bar.ensures.steps in
    let bar = digits_split v.bar (digits v.beat ++ (46 ∷ digits v.tick)) _ c.in_ok-bar.bar.now _ _ (omega (arith, h.bar≤))
    (c.splitn-parts.ensures.rest ∙ is) n.1.2
    (n.1.4 (omega (arith, c.splitn-parts.ensures.count)) stop
    (always_returns_same _ (λ a r. r ≡ stop a.0.now) _ (λ a r q k. ((search rules), refl)))).1 in
    let o = c.in_ok-beat.ensures.steps in
    let beat = digits_split v.beat (digits v.tick) _ c.in_ok-beat.beat.now _ _ (omega (arith, h.beat≤)) bar.1 o.1.2
    (o.1.4 (omega (arith, n.0, c.splitn-parts.ensures.count)) stop
    (always_returns_same _ (λ a r. r ≡ stop a.0.now) _ (λ a r q k. ((search rules), refl)))).1 in
    absurd (digits_narrowed 256 v.beat c.in_ok-read_number-2.field-0 c.try_from-2.result None (omega (arith, h.beat≤))
    (digits_number v.beat c.in_ok-beat.beat.now (Some c.in_ok-read_number-2.field-0) (omega (arith, h.beat≤)) beat.0
    c.in_ok-read_number-2.ensures) c.try_from-2.ensures c.in_err-ok-2.ensures.value)

pub returns-in_err-read_number-3-clause-own : goal.returns-in_err-read_number-3-clause-own
returns-in_err-read_number-3-clause-own c = λ v h is.
    let n = c.in_ok-bar.ensures.steps in
    let bar = digits_split v.bar (digits v.beat ++ (46 ∷ digits v.tick)) _ c.in_ok-bar.bar.now _ _ (omega (arith, h.bar≤))
    (c.splitn-parts.ensures.rest ∙ is) n.1.2
    (n.1.4 (omega (arith, c.splitn-parts.ensures.count)) stop
    (always_returns_same _ (λ a r. r ≡ stop a.0.now) _ (λ a r q k. ((search rules), refl)))).1 in
    let o = c.in_ok-beat.ensures.steps in
    let beat = digits_split v.beat (digits v.tick) _ c.in_ok-beat.beat.now _ _ (omega (arith, h.beat≤)) bar.1 o.1.2
    (o.1.4 (omega (arith, n.0, c.splitn-parts.ensures.count)) stop
    (always_returns_same _ (λ a r. r ≡ stop a.0.now) _ (λ a r q k. ((search rules), refl)))).1 in
    let p = c.in_ok-tick.ensures.steps in
    let tick = last_split _ c.in_ok-tick.tick.now _ _ (p.1.1 (omega (arith, o.0, n.0, c.splitn-parts.ensures.count))) p.1.2 ∙ beat.1 in
    absurd (digits_number v.tick c.in_ok-tick.tick.now None (omega (arith, h.tick≤)) tick
    c.in_err-read_number-3.ensures)

pub returns-in_err-ok-3-clause-own : goal.returns-in_err-ok-3-clause-own
returns-in_err-ok-3-clause-own c = λ v h is.
    let n = c.in_ok-bar.ensures.steps in
    let bar = digits_split v.bar (digits v.beat ++ (46 ∷ digits v.tick)) _ c.in_ok-bar.bar.now _ _ (omega (arith, h.bar≤))
    (c.splitn-parts.ensures.rest ∙ is) n.1.2
    (n.1.4 (omega (arith, c.splitn-parts.ensures.count)) stop
    (always_returns_same _ (λ a r. r ≡ stop a.0.now) _ (λ a r q k. ((search rules), refl)))).1 in
    let o = c.in_ok-beat.ensures.steps in
    let beat = digits_split v.beat (digits v.tick) _ c.in_ok-beat.beat.now _ _ (omega (arith, h.beat≤)) bar.1 o.1.2
    (o.1.4 (omega (arith, n.0, c.splitn-parts.ensures.count)) stop
    (always_returns_same _ (λ a r. r ≡ stop a.0.now) _ (λ a r q k. ((search rules), refl)))).1 in
    let p = c.in_ok-tick.ensures.steps in
    let tick = last_split _ c.in_ok-tick.tick.now _ _ (p.1.1 (omega (arith, o.0, n.0, c.splitn-parts.ensures.count))) p.1.2 ∙ beat.1 in
    absurd (digits_narrowed 4294967296 v.tick c.in_ok-read_number-3.field-0 c.try_from-3.result None (omega (arith, h.tick≤))
    (digits_number v.tick c.in_ok-tick.tick.now (Some c.in_ok-read_number-3.field-0) (omega (arith, h.tick≤)) tick
    c.in_ok-read_number-3.ensures) c.try_from-3.ensures c.in_err-ok-3.ensures.value)

pub returns-clause-own : goal.returns-clause-own
returns-clause-own c = λ v h is.
    let n = c.in_ok-bar.ensures.steps in
    let bar = digits_split v.bar (digits v.beat ++ (46 ∷ digits v.tick)) _ c.in_ok-bar.bar.now _ _ (omega (arith, h.bar≤))
    (c.splitn-parts.ensures.rest ∙ is) n.1.2
    (n.1.4 (omega (arith, c.splitn-parts.ensures.count)) stop
    (always_returns_same _ (λ a r. r ≡ stop a.0.now) _ (λ a r q k. ((search rules), refl)))).1 in
    let o = c.in_ok-beat.ensures.steps in
    let beat = digits_split v.beat (digits v.tick) _ c.in_ok-beat.beat.now _ _ (omega (arith, h.beat≤)) bar.1 o.1.2
    (o.1.4 (omega (arith, n.0, c.splitn-parts.ensures.count)) stop
    (always_returns_same _ (λ a r. r ≡ stop a.0.now) _ (λ a r q k. ((search rules), refl)))).1 in
    let p = c.in_ok-tick.ensures.steps in
    let tick = last_split _ c.in_ok-tick.tick.now _ _ (p.1.1 (omega (arith, o.0, n.0, c.splitn-parts.ensures.count))) p.1.2 ∙ beat.1 in
    made _ _ _ v
    (digits_narrowed 65536 v.bar c.in_ok-read_number.field-0 c.try_from.result (Some c.in_ok-ok.field-0) (omega (arith, h.bar≤))
    (digits_number v.bar c.in_ok-bar.bar.now (Some c.in_ok-read_number.field-0) (omega (arith, h.bar≤)) bar.0
    c.in_ok-read_number.ensures) c.try_from.ensures c.in_ok-ok.ensures.value)
    (digits_narrowed 256 v.beat c.in_ok-read_number-2.field-0 c.try_from-2.result (Some c.in_ok-ok-2.field-0) (omega (arith, h.beat≤))
    (digits_number v.beat c.in_ok-beat.beat.now (Some c.in_ok-read_number-2.field-0) (omega (arith, h.beat≤)) beat.0
    c.in_ok-read_number-2.ensures) c.try_from-2.ensures c.in_ok-ok-2.ensures.value)
    (digits_narrowed 4294967296 v.tick c.in_ok-read_number-3.field-0 c.try_from-3.result (Some c.in_ok-ok-3.field-0) (omega (arith, h.tick≤))
    (digits_number v.tick c.in_ok-tick.tick.now (Some c.in_ok-read_number-3.field-0) (omega (arith, h.tick≤)) tick
    c.in_ok-read_number-3.ensures) c.try_from-3.ensures c.in_ok-ok-3.ensures.value)

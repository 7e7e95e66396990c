-- Bar positions stand in the order of their ticks.
-- Assumes nothing.
use Rattle.std.specs.Prelude.{◌≡◌, ℕ, ◌+◌, ◌-◌, ◌*◌, ◌<◌, ◌≤◌, true, List, [], ◌∷◌, Some, refl}
use Rattle.std.proofs.Common.{ap, ⊎_elim, mul_comm, arith}
use Rattle.meter.specs.Rules.{beat_of, kept}
use Rattle.meter.specs.BarLines.{bar_start}
use Rattle.meter.specs.declared.row.MeterRow.{MeterRow}
use Rattle.forms.specs.Pairing.{Earlier}
use Rattle.forms.specs.Order.{high_digit, compared}
use Rattle.bar_positions.specs.BarPositions.{meter_of, tick_in, position_number, position_parts}
use Rattle.bar_positions.specs.declared.position.BarPosition.{BarPosition}
use Rattle.bar_positions.specs.Within.{line_le}
use Rattle.bar_positions.specs.Standing.{stands, stands_lies}

-- within one bar
lower_in : (start beat : ℕ) (v w : BarPosition) → 1 ≤ v.beat → v.tick < beat
    → Earlier (v.beat ∷ (v.tick ∷ [])) (w.beat ∷ (w.tick ∷ [])) → tick_in start beat v < tick_in start beat w
lower_in start beat v w some tick< before =
    let a : ℕ = v.beat - 1 in
    let b : ℕ = w.beat - 1 in
    ⊎_elim
    (λ less. let c : a < b = omega arith in
    omega (arith, high_digit beat a v.tick b w.tick tick< c, mul_comm beat a, mul_comm beat b))
    (λ p. ⊎_elim
    (λ less. let c : a ≡ b = omega (arith, p.0) in omega (arith, ap (λ x. x * beat) c))
    (λ none. absurd none.1)
    p.1)
    before

pub position_lower : (d : ℕ) (rows : List MeterRow) → kept d rows ≡ true → (v w : BarPosition) (m n : ℕ)
    → position_number d rows v ≡ Some m → position_number d rows w ≡ Some n
    → Earlier (position_parts v) (position_parts w) → m < n
position_lower d rows k v w m n e g before =
    let s = stands d rows v m e in
    let t = stands d rows w n g in
    let p : ℕ = v.bar - 1 in
    let q : ℕ = w.bar - 1 in
    let at : ℕ → ℕ = λ x. tick_in (bar_start d rows x) (beat_of d (meter_of d rows x)) w in
    ⊎_elim
    (λ bar. let up = line_le d rows (p + 1) q k (omega (arith, s.some_bar)) in
    omega (arith, (stands_lies d rows v m k s).not_next, up, (stands_lies d rows w n k t).begun))
    (λ same. let one : p ≡ q = ap (λ x. x - 1) same.0 in
    let beat : ℕ = beat_of d (meter_of d rows p) in
    let less = lower_in (bar_start d rows p) beat v w s.some_beat s.tick< same.1 in
    omega (arith, less, s.is, t.is, ap at one))
    before

pub position_earlier : (d : ℕ) (rows : List MeterRow) → kept d rows ≡ true → (v w : BarPosition) (m n : ℕ)
    → position_number d rows v ≡ Some m → position_number d rows w ≡ Some n
    → m < n → Earlier (position_parts v) (position_parts w)
position_earlier d rows k v w m n e g less =
    ⊎_elim
    (λ done. done)
    (⊎_elim
    (λ same. let one : position_number d rows v ≡ position_number d rows w = cc in
    let equal : m ≡ n = cc in
    absurd (omega arith))
    (λ after. absurd (omega (arith, position_lower d rows k w v n m g e after))))
    (compared (position_parts v) (position_parts w) refl)

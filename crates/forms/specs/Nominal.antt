-- Labels where none is left out: their numbers, over the frames a second c.
-- Assumes nothing.
use Rattle.std.specs.Prelude.{◌≡◌, ℕ, ◌*◌, ◌/◌, ◌%◌, ◌<◌, true, refl}
use Rattle.std.proofs.Common.{ap, ⊎_elim, mul_comm, mod-lt, arith}
use Rattle.std.proofs.Math.Nat.{div-add-mod}
use Rattle.std.proofs.lemmas.Nat.{div-mul-add, mod-mul-add, div_below, mul-add-lt}
use Rattle.std.proofs.lemmas.Bool.Decides.{nat_tests}
use Rattle.forms.specs.Pairing.{Earlier}
use Rattle.forms.specs.Labels.{seconds_in, nominal, in_range, nominal_label, label_parts}
use Rattle.forms.specs.declared.label.Label.{Label}
use Rattle.forms.specs.Order.{high_digit}
use Rattle.forms.specs.Clock.{clock_back, clock_hours, clock_minutes, clock_seconds}

pub record InRange (c : ℕ) (l : Label) : Type 0 where
  pub hours< : l.hours < 24
  pub minutes< : l.minutes < 60
  pub seconds< : l.seconds < 60
  pub frames< : l.frames < c

pub ranges : (c : ℕ) (l : Label) → in_range c l ≡ true → InRange c l
ranges c l e = record {
  hours< = grind (arith, nat_tests);
  minutes< = grind (arith, nat_tests);
  seconds< = grind (arith, nat_tests);
  frames< = grind (arith, nat_tests);
}

pub nominal_back : (c n : ℕ) → nominal c (nominal_label c n) ≡ n
nominal_back c n = rw (clock_back (n / c)) (div-add-mod n c)

pub nominal_in_range : (c n : ℕ) → 0 < c → n < c * 86400 → in_range c (nominal_label c n) ≡ true
nominal_in_range c n pos below =
    let day : n / c < 86400 = div_below n c 86400 pos (omega (arith, mul_comm c 86400)) in
    let frame : n % c < c = mod-lt n pos in
    grind (arith, nat_tests)

pub second_of : (c : ℕ) (l : Label) → InRange c l → nominal c l / c ≡ seconds_in l
second_of c l h = rw (mul_comm c (seconds_in l)) (div-mul-add (seconds_in l) c l.frames h.frames<)

pub frame_of : (c : ℕ) (l : Label) → InRange c l → nominal c l % c ≡ l.frames
frame_of c l h = rw (mul_comm c (seconds_in l)) (mod-mul-add (seconds_in l) c l.frames h.frames<)

pub nominal_forth : (c : ℕ) (l : Label) → InRange c l → nominal_label c (nominal c l) ≡ l
nominal_forth c l h =
    let a = clock_hours l.hours l.minutes l.seconds h.minutes< h.seconds< in
    let b = clock_minutes l.hours l.minutes l.seconds h.minutes< h.seconds< in
    let d = clock_seconds l.hours l.minutes l.seconds h.seconds< in
    rw (second_of c l h, frame_of c l h, a, b, d) refl

pub nominal_below : (c : ℕ) (l : Label) → InRange c l → nominal c l < c * 86400
nominal_below c l h =
    let z : seconds_in l < 86400 = omega arith in
    omega (arith, mul-add-lt (seconds_in l) c l.frames 86400 z h.frames<, mul_comm c (seconds_in l))

pub nominal_lower : (c : ℕ) (l k : Label) → InRange c l → InRange c k → Earlier (label_parts l) (label_parts k) → nominal c l < nominal c k
nominal_lower c l k h g before =
    let by-second : seconds_in l < seconds_in k → nominal c l < nominal c k
    = high_digit c (seconds_in l) l.frames (seconds_in k) k.frames h.frames< in
    ⊎_elim
    (λ hour. by-second (omega arith))
    (λ p. ⊎_elim
    (λ minute. by-second (omega arith))
    (λ q. ⊎_elim
    (λ second. by-second (omega arith))
    (λ r. ⊎_elim
    (λ frame. let same : seconds_in l ≡ seconds_in k = omega arith in omega (arith, ap (λ z. c * z) same))
    (λ none. absurd none.1)
    r.1)
    q.1)
    p.1)
    before

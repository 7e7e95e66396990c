-- Scaling by a fraction, one rounding upward.
--   scaled_reached   scaled x is at least s exactly when x is at least reached s
--   scaled_rises     scaling never falls
--   small_product    a product of what a fraction multiplies fits
-- Assumes nothing.
use Rattle.std.specs.Prelude.{◌≡◌, ℕ, zero, suc, ◌+◌, ◌-◌, ◌*◌, ◌/◌, ◌^◌, ◌<◌, ◌≤◌, ◌==◌}
use Rattle.std.proofs.Common.{ap, ◌∙◌, zero-le, mul-le-mul, suc-mul, div-lt_iff_lt-mul, le-div_iff_mul-le, arith}
use Rattle.std.proofs.lemmas.Bool.{ne_eqb, cond-false}
use Rattle.timebase.specs.Scale.{scaled, reached}

pub small_product : (a b : ℕ) → a ≤ 2 ^ 36 → b ≤ 2 ^ 27 → a * b ≤ 2 ^ 63
small_product a b h k = mul-le-mul h k

pub reached_some : (n d t : ℕ) → reached n d (suc t) ≡ t * d / n + 1
reached_some n d t =
    let back : suc t - 1 ≡ t = omega arith in
    cond-false (suc t == 0) 0 ((suc t - 1) * d / n + 1) (ne_eqb (suc t) 0 (λ e. omega arith)) ∙ ap (λ x. x * d / n + 1) back

-- s ≥ 1 is reached exactly where (s - 1) × d lies below x × n
past : (n d t x : ℕ) → 0 < d → (suc t ≤ scaled n d x → t * d < x * n) × (t * d < x * n → suc t ≤ scaled n d x)
past n d t x hd =
    let iff = le-div_iff_mul-le {k = d} {x = suc t} {y = x * n + (d - 1)} hd in
    let step = suc-mul t d in
    (λ h. let up = iff.0 h in omega arith, λ h. iff.1 (omega arith))

pub scaled_reached : (n d s x : ℕ) → 0 < n → 0 < d →
    (s ≤ scaled n d x → reached n d s ≤ x) × (reached n d s ≤ x → s ≤ scaled n d x)
scaled_reached n d zero x hn hd = (λ h. zero-le, λ h. zero-le)
scaled_reached n d (suc t) x hn hd =
    let iff = div-lt_iff_lt-mul {k = n} {x = t * d} {y = x} hn in
    let e = reached_some n d t in
    let both = past n d t x hd in
    (λ h. (let less = iff.1 (both.0 h) in omega arith), λ h. (let less = iff.0 (omega arith) in both.1 less))

pub scaled_rises : (n d x y : ℕ) → 0 < n → 0 < d → x ≤ y → scaled n d x ≤ scaled n d y
scaled_rises n d x y hn hd h =
    let up = (scaled_reached n d (scaled n d x) x hn hd).0 (omega arith) in
    (scaled_reached n d (scaled n d x) y hn hd).1 (omega arith)

-- Division rounded up, as the library says it and as a fraction's meaning does.
-- Assumes nothing.
use Rattle.std.proofs.Common.{◌≡◌, ℕ, ◌+◌, ◌-◌, ◌/◌, ◌%◌, ◌<◌, ◌≤◌, min, div-lt_iff_lt-mul, le-div_iff_mul-le, arith}
use Rattle.std.proofs.lemmas.Grind.{div_ceil_times}

pub ceiling : (a d : ℕ) → 0 < d → a / d + min 1 (a % d) ≡ (a + (d - 1)) / d
ceiling a d hd =
    let q : ℕ = a / d + min 1 (a % d) in
    let both = div_ceil_times a d hd in
    let low : q ≤ (a + (d - 1)) / d = (le-div_iff_mul-le {k = d} {x = q} {y = a + (d - 1)} hd).1 (omega arith) in
    let high : (a + (d - 1)) / d < q + 1 = (div-lt_iff_lt-mul {k = d} {x = a + (d - 1)} {y = q + 1} hd).1 (omega arith) in
    omega arith

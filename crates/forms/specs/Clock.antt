-- Clock arithmetic: mixed-radix digits, and the labels that dropping leaves out.
-- Assumes nothing.
use Rattle.std.specs.Prelude.{◌≡◌, ℕ, ◌+◌, ◌-◌, ◌*◌, ◌/◌, ◌%◌, ◌<◌, ◌≤◌, refl}
use Rattle.std.proofs.Common.{⊎_elim, mul_comm, arith}
use Rattle.std.proofs.Math.Nat.{eq-zero-or-pos}
use Rattle.std.proofs.lemmas.Nat.{div_below}

-- seconds of a day as hours, minutes and seconds
pub clock_back : (z : ℕ) → 60 * (60 * (z / 3600) + z / 60 % 60) + z % 60 ≡ z
clock_back z = omega arith

pub clock_hours : (h m s : ℕ) → m < 60 → s < 60 → (60 * (60 * h + m) + s) / 3600 ≡ h
clock_hours h m s a b = omega arith

pub clock_minutes : (h m s : ℕ) → m < 60 → s < 60 → (60 * (60 * h + m) + s) / 60 % 60 ≡ m
clock_minutes h m s a b = omega arith

pub clock_seconds : (h m s : ℕ) → s < 60 → (60 * (60 * h + m) + s) % 60 ≡ s
clock_seconds h m s b = omega arith

pub minute_at : (k f : ℕ) → f < 1800 → (0 < k → 2 ≤ f) → (1798 * k + f - 2) / 1798 ≡ k
minute_at k f f< gap =
    ⊎_elim
    (λ none. omega arith)
    (λ some. let two : 2 ≤ f = gap some in omega arith)
    (eq-zero-or-pos k)

pub hour_below : (c n : ℕ) → 0 < c → n < c * 86400 → n / c / 3600 < 24
hour_below c n pos below =
    let day : n / c < 86400 = div_below n c 86400 pos (omega (arith, mul_comm c 86400)) in
    omega arith

-- the labels left out up to a number, by ten minutes b, minute k of them and frame f of that minute
pub added_at : (b k f : ℕ) → k < 10 → f < 1800 → (0 < k → 2 ≤ f)
    → 18 * ((17982 * b + (1798 * k + f)) / 17982) + 2 * (((17982 * b + (1798 * k + f)) % 17982 - 2) / 1798) ≡ 18 * b + 2 * k
added_at b k f k< f< gap =
    let block : (17982 * b + (1798 * k + f)) / 17982 ≡ b = omega arith in
    let rest : (17982 * b + (1798 * k + f)) % 17982 ≡ 1798 * k + f = omega arith in
    let minute : (1798 * k + f - 2) / 1798 ≡ k = minute_at k f f< gap in
    rw (block, rest, minute) refl

-- with what is left out put back, number n stands in minute k of ten minutes b, and past the two that are left out
pub minute_back : (n b k : ℕ) → n / 17982 ≡ b → (n % 17982 - 2) / 1798 ≡ k → (n + (18 * b + 2 * k)) / 1800 ≡ 10 * b + k
minute_back n b k block minute = omega arith

pub past_gap : (n b k : ℕ) → n / 17982 ≡ b → (n % 17982 - 2) / 1798 ≡ k → 0 < k → 2 ≤ (n + (18 * b + 2 * k)) % 1800
past_gap n b k block minute some = let t = minute_back n b k block minute in omega arith

pub minute_below : (n k : ℕ) → (n % 17982 - 2) / 1798 ≡ k → k < 10
minute_below n k minute = omega arith

-- minutes and frames of a minute, read off a nominal number at 30 frames a second
pub minutes_of : (x : ℕ) → 60 * (x / 30 / 3600) + x / 30 / 60 % 60 ≡ x / 1800
minutes_of x = omega arith

pub frames_of : (x : ℕ) → 30 * (x / 30 % 60) + x % 30 ≡ x % 1800
frames_of x = omega arith

pub last_figure : (x b k : ℕ) → x / 1800 ≡ 10 * b + k → k < 10 → x / 30 / 60 % 60 % 10 ≡ k
last_figure x b k is k< =
    let minute : x / 30 / 60 ≡ 10 * b + k = omega arith in
    let hour : (10 * b + k) % 60 % 10 ≡ k = omega arith in
    rw minute hour

-- a minute that begins ten minutes has its first two frames, so its share of those left out is 2 less
pub left_out_until : (b k : ℕ) → k < 10 → 2 * ((10 * b + k) - (10 * b + k) / 10) ≡ 18 * b + 2 * k
left_out_until b k k< = omega arith

pub added_rises : (m n : ℕ) → m ≤ n → 18 * (m / 17982) + 2 * ((m % 17982 - 2) / 1798) ≤ 18 * (n / 17982) + 2 * ((n % 17982 - 2) / 1798)
added_rises m n le = omega arith

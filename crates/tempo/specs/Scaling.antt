-- The four sample rates as numbers, and what a day of samples comes to.
--   Rated     what holds of the fraction of each of the four
--   day_fits  24 hours at the highest rate hold every sample
-- Assumes nothing.
use Rattle.std.specs.Prelude.{◌≡◌, ℕ, ◌+◌, ◌-◌, ◌*◌, ◌≤◌, true}
use Rattle.std.proofs.Common.{arith, mul-le-mul, mul-le-mul_left, mul-le-mul_right, div-lt_iff_lt-mul}
use Rattle.std.proofs.lemmas.Bool.Decides.{nat_tests}
use Rattle.timebase.specs.Scale.{scaled}
use Rattle.tempo.specs.Rates.{known_rate, samples_at, micros_at}

pub record Rated (rate n k : ℕ) : Type 0 where
  pub some : 1 ≤ n
  pub few : n ≤ 441
  pub lasts : 1 ≤ k
  pub short : k ≤ 10000
  pub slow : 125 * n ≤ 12 * k
  pub is : n * 1000000 ≡ rate * k

pub rated_at : (rate : ℕ) → known_rate rate ≡ true → Rated rate (samples_at rate) (micros_at rate)
rated_at rate h = record {
  some = grind (arith, nat_tests);
  few = grind (arith, nat_tests);
  lasts = grind (arith, nat_tests);
  short = grind (arith, nat_tests);
  slow = grind (arith, nat_tests);
  is = grind (arith, nat_tests);
}

-- x sums of a day at most: d for the division, n and k for the rate
pub day_product : (d n k x : ℕ) → x ≤ d * 86400000000 → 125 * n ≤ 12 * k → x * n ≤ 8294400000 * (d * k)
day_product d n k x h slow =
    omega (arith, mul-le-mul_right n h, mul-le-mul_left d slow)

pub day_fits : (d n k x : ℕ) → 1 ≤ d → 1 ≤ k → x ≤ d * 86400000000 → 125 * n ≤ 12 * k →
    scaled n (d * k) x ≤ 8294400000
day_fits d n k x hd hk h slow =
    let some : 1 ≤ d * k = omega (arith, mul-le-mul hd hk) in
    let below = div-lt_iff_lt-mul {k = d * k} {x = x * n + (d * k - 1)} {y = 8294400001} some in
    omega (arith, below.1 (omega (arith, day_product d n k x h slow)))

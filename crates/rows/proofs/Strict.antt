-- What rises strictly at each step.
--   Strict       f does
--   rises_over   it rises over any number of steps
--   never_falls  so it never falls
--   stays_above  and is nowhere below its own argument
-- Assumes nothing.
use Rattle.std.proofs.Common.{◌≡◌, ℕ, zero, suc, ◌+◌, ◌<◌, ◌≤◌, ap, inl, inr, add-one, arith}
use Rattle.std.proofs.lemmas.Bool.{cases_lt}

abbrev pub Strict : (ℕ → ℕ) → Type 0
Strict f = (p : ℕ) → f p < f (p + 1)

pub rises_over : (f : ℕ → ℕ) → Strict f → (p q : ℕ) → p < q → f p < f q
rises_over f up p zero h = absurd (omega arith)
rises_over f up p (suc q) h =
    elim (cases_lt p q) [
      | inl lt ↦ omega (arith, rises_over f up p q lt, up q, ap f (add-one q))
      | inr ge ↦ let e : p ≡ q = omega arith in omega (arith, up q, ap f (add-one q), ap f e)
    ]

pub never_falls : (f : ℕ → ℕ) → Strict f → (p q : ℕ) → p ≤ q → f p ≤ f q
never_falls f up p q h =
    elim (cases_lt p q) [
      | inl lt ↦ omega (arith, rises_over f up p q lt)
      | inr ge ↦ let e : p ≡ q = omega arith in omega (arith, ap f e)
    ]

pub stays_above : (f : ℕ → ℕ) → Strict f → (p : ℕ) → p ≤ f p
stays_above f up zero = omega arith
stays_above f up (suc p) = omega (arith, stays_above f up p, up p, ap f (add-one p))

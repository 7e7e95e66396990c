-- Counting the numbers below a bound that pass a test.
--   tally_true, tally_false  what one more number adds
--   tally_cut                a test that holds exactly below k counts k
--   tally_cuts               a test that, once it fails, fails from there on, holds exactly below its count
-- Assumes nothing.
use Rattle.std.specs.Prelude.{◌≡◌, ℕ, zero, suc, ◌+◌, ◌<◌, ◌≤◌, Bool, true, false}
use Rattle.std.proofs.Common.{ap, inl, inr, arith}
use Rattle.std.proofs.lemmas.Bool.{cases_Bool, cases_lt, cond-true, cond-false}
use Rattle.timebase.specs.Meaning.{tally}

-- the numbers below n that pass are those below k
pub record Cut (test : ℕ → Bool) (k n : ℕ) : Type 0 where
  pub inside : k ≤ n
  pub passes : (p : ℕ) → p < k → test p ≡ true
  pub fails : (p : ℕ) → k ≤ p → p < n → test p ≡ false

pub tally_true : (test : ℕ → Bool) (n : ℕ) → test n ≡ true → tally test (suc n) ≡ tally test n + 1
tally_true test n e = ap (λ x. tally test n + x) (cond-true (test n) 1 0 e)

pub tally_false : (test : ℕ → Bool) (n : ℕ) → test n ≡ false → tally test (suc n) ≡ tally test n
tally_false test n e =
    let h : tally test (suc n) ≡ tally test n + 0 = ap (λ x. tally test n + x) (cond-false (test n) 1 0 e) in
    omega arith

pub tally_cut : (test : ℕ → Bool) (k n : ℕ) → Cut test k n → tally test n ≡ k
tally_cut test k zero c = let h = c.inside in omega arith
tally_cut test k (suc n) c =
    elim (cases_lt n k) [
      | inl h ↦
          let all : Cut test n n = record { inside = omega arith; passes = λ p l. c.passes p (omega arith); fails = λ p a b. absurd (omega arith) } in
          let t = tally_true test n (c.passes n h) in
          let e = tally_cut test n n all in
          let i = c.inside in
          omega arith
      | inr h ↦
          let less : Cut test k n = record { inside = h; passes = c.passes; fails = λ p a b. c.fails p a (omega arith) } in
          let t = tally_false test n (c.fails n h (omega arith)) in
          let e = tally_cut test k n less in
          omega arith
    ]

-- once the test fails, it fails
abbrev pub Falls : (ℕ → Bool) → ℕ → Type 0
Falls test n = (p q : ℕ) → p ≤ q → q < n → test q ≡ true → test p ≡ true

last : (test : ℕ → Bool) (k n : ℕ) → Cut test k n → test n ≡ false → (p : ℕ) → k ≤ p → p < suc n → test p ≡ false
last test k n c e p a b =
    elim (cases_lt p n) [
      | inl l ↦ c.fails p a l
      | inr l ↦ (let same : p ≡ n = omega arith in rw same e)
    ]

cut_more : (test : ℕ → Bool) (k n : ℕ) → Falls test (suc n) → Cut test k n → (j : ℕ) × Cut test j (suc n)
cut_more test k n falls c =
    elim (cases_Bool (test n)) [
      | inl e ↦ (suc n, record { inside = omega arith; passes = λ p l. falls p n (omega arith) (omega arith) e; fails = λ p a b. absurd (omega arith) })
      | inr e ↦ (k, record { inside = (let i = c.inside in omega arith); passes = c.passes; fails = λ p a b. last test k n c e p a b })
    ]

pub cut_of : (test : ℕ → Bool) (n : ℕ) → Falls test n → (k : ℕ) × Cut test k n
cut_of test zero falls = (0, record { inside = omega arith; passes = λ p l. absurd (omega arith); fails = λ p a b. absurd (omega arith) })
cut_of test (suc n) falls =
    let c = cut_of test n (λ p q a b e. falls p q a (omega arith) e) in
    cut_more test c.0 n falls c.1

pub tally_cuts : (test : ℕ → Bool) (n : ℕ) → Falls test n → Cut test (tally test n) n
tally_cuts test n falls =
    let c = cut_of test n falls in
    let e = tally_cut test c.0 n c.1 in
    rw e c.1

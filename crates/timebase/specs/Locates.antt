-- What follows from a locate that answers the least position that reaches.
--   least_agrees    place and locate agree
--   located_least   the count of the positions before s is such an answer
--   least_unique    there is one such answer
--   least_located   so every such answer is that count
--   least_capped    what is past the last sample is reached no earlier than the sample after it
--   least_from      an answer that parts the positions below the length is the least
-- Assumes nothing.
use Rattle.std.specs.Prelude.{◌≡◌, ℕ, ◌^◌, ◌<◌, ◌≤◌, min, Bool, nat_lt}
use Rattle.std.proofs.Common.{inl, inr, arith}
use Rattle.std.proofs.lemmas.Bool.{cases_lt, ltb-true, ltb-false, lt-ltb}
use Rattle.timebase.specs.Meaning.{Meaning, Sound, Least, Agree, located}
use Rattle.timebase.specs.Tally.{Falls, tally_cuts}

pub least_agrees : (m : Meaning) → Sound m → (s r : ℕ) → Least m s r → Agree m s r
least_agrees m sound s r least p inside = (
  λ h. let up = sound.never_falls r p h inside in
      let at = least.reaches (omega arith) in
      omega arith,
  λ h. elim (cases_lt p r) [ inl l ↦ absurd (let b = least.before p l in omega arith) | inr l ↦ l ],
)

-- an answer that parts the positions below the length is the least
pub least_from : (m : Meaning) (s r : ℕ) → r ≤ m.len →
    ((p : ℕ) → p < m.len → (r ≤ p → s ≤ m.rule p) × (s ≤ m.rule p → r ≤ p)) → Least m s r
least_from m s r inside agree =
    record {
      inside = inside;
      reaches = λ h. (agree r h).0 (omega arith);
      before = λ p h. elim (cases_lt (m.rule p) s) [ inl l ↦ l | inr l ↦ absurd (let a = (agree p (omega arith)).1 l in omega arith) ];
    }

pub least_capped : (m : Meaning) → Sound m → (s r : ℕ) → Least m (min s (2 ^ 36)) r → Least m s r
least_capped m sound s r least =
    record {
      inside = least.inside;
      reaches = λ h. (let a = least.reaches h in let b = sound.within r h in omega arith);
      before = λ p h. (let a = least.before p h in omega arith);
    }

pub located_least : (m : Meaning) → Sound m → (s : ℕ) → Least m s (located m s)
located_least m sound s =
    let test : ℕ → Bool = λ p. nat_lt (m.rule p) s in
    let falls : Falls test m.len = λ p q a b e. (let up = sound.never_falls p q a b in let l = ltb-true (m.rule q) s e in lt-ltb (m.rule p) s (omega arith)) in
    let cut = tally_cuts test m.len falls in
    record {
      inside = cut.inside;
      reaches = λ h. ltb-false (m.rule (located m s)) s (cut.fails (located m s) (omega arith) h);
      before = λ p h. ltb-true (m.rule p) s (cut.passes p h);
    }

pub least_unique : (m : Meaning) (s a b : ℕ) → Least m s a → Least m s b → a ≡ b
least_unique m s a b x y =
    elim (cases_lt a b) [
      | inl h ↦ absurd (let u = y.before a h in let v = x.reaches (let i = y.inside in omega arith) in omega arith)
      | inr h ↦
          elim (cases_lt b a) [
            | inl k ↦ absurd (let u = x.before b k in let v = y.reaches (let i = x.inside in omega arith) in omega arith)
            | inr k ↦ omega arith
          ]
    ]

pub least_located : (m : Meaning) → Sound m → (s r : ℕ) → Least m s r → r ≡ located m s
least_located m sound s r least = least_unique m s r (located m s) least (located_least m sound s)

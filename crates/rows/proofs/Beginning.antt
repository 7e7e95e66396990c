-- The last row that has begun, where the first has.
--   Last        what is true of the last of the first r rows
--   last_begun  it is true of as many as have begun
-- Assumes nothing.
use Rattle.std.proofs.Common.{◌≡◌, ℕ, ◌+◌, ◌-◌, ◌<◌, ◌≤◌, List, length, get_or, ap, inl, inr, arith}
use Rattle.std.proofs.lemmas.Bool.{cases_lt}
use Rattle.rows.specs.Begun.{Begun}

pub record Last {R : Type 0} (begins : R → ℕ) (rows : List R) (d : R) (x r : ℕ) : Type 0 where
  pub some : 1 ≤ r
  pub there : r - 1 < length rows
  pub begun : begins (get_or rows (r - 1) d) ≤ x
  pub not_next : r - 1 + 1 < length rows → x < begins (get_or rows (r - 1 + 1) d)

module _ {R : Type 0} (begins : R → ℕ) (rows : List R) (d : R) (x r : ℕ) where
  some_begun : 0 < length rows → begins (get_or rows 0 d) ≤ x → Begun begins rows x r → 1 ≤ r
  some_begun some first b =
      let none : r ≡ 0 → 1 ≤ r =
      λ e. absurd (omega (arith, ap (λ i. begins (get_or rows i d)) e, b.next d (omega arith))) in
      elim (cases_lt 0 r) [ inl lt ↦ lt | inr ge ↦ none (omega arith) ]

  pub last_begun : 0 < length rows → begins (get_or rows 0 d) ≤ x → Begun begins rows x r → Last begins rows d x r
  last_begun some first b =
      let one : 1 ≤ r = some_begun some first b in
      let back : r - 1 + 1 ≡ r = omega arith in
      record {
        some = one;
        there = omega (arith, b.inside);
        begun = b.last (r - 1) d back;
        not_next = λ h. omega (arith, ap (λ i. begins (get_or rows i d)) back, b.next d (omega arith));
      }

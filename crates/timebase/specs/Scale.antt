-- Multiplying by a fraction and rounding up, and the least number that so reaches another.
--   scaled    x × n ÷ d rounded up
--   reached   the least x with scaled x at least s
--   in_range  n and d are from 1 to the most that is allowed
-- Assumes nothing.
use Rattle.std.specs.Prelude.{ℕ, ◌+◌, ◌-◌, ◌*◌, ◌/◌, Bool, if◌then◌else◌, ◌&&◌, ◌==◌, nat_le}

abbrev pub scaled : ℕ → ℕ → ℕ → ℕ
scaled n d x = (x * n + (d - 1)) / d

abbrev pub reached : ℕ → ℕ → ℕ → ℕ
reached n d s = if s == 0 then 0 else (s - 1) * d / n + 1

abbrev pub in_range : ℕ → ℕ → ℕ → Bool
in_range n d most = (nat_le 1 n && nat_le n most) && (nat_le 1 d && nat_le d most)

-- The written form current at a sample.
--   shown        the value of a position, where it is below the count
--   last_before  the position before one that is neither 0 nor the length
--   standing     the position current at the sample s: the last one at or before it; none before the first position,
--                and none where no position follows
--   current_at   its written form, where it has one
-- Assumes nothing.
use Rattle.std.specs.Prelude.{ℕ, zero, suc, ◌+◌, if◌then◌else◌, Some, None, Option, nat_lt}
use Rattle.timebase.specs.Meaning.{Meaning, located}

abbrev pub shown : {V : Type 0} → ℕ → (ℕ → V) → ℕ → Option V
shown count value p = if nat_lt p count then Some (value p) else None

abbrev pub last_before : ℕ → ℕ → Option ℕ
last_before len zero = None
last_before len (suc p) = if nat_lt (suc p) len then Some p else None

abbrev pub standing : Meaning → ℕ → Option ℕ
standing m s = last_before m.len (located m (s + 1))

abbrev pub formed : {V : Type 0} → (ℕ → Option V) → Option ℕ → Option V
formed form (Some p) = form p
formed form None = None

abbrev pub current_at : {V : Type 0} → Meaning → (ℕ → Option V) → ℕ → Option V
current_at m form s = formed form (standing m s)

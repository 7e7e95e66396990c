-- The hash FNV-1a, of 64 bits.
--   offset   what it begins with
--   after    the hash after more bytes: each is mixed in by an exclusive or, and the whole multiplied by a prime
-- Assumes nothing.
use Rattle.std.specs.Prelude.{ℕ, ◌*◌, ◌%◌, ◌^◌, List, fold, bit_xor}

abbrev pub offset : ℕ
offset = 0xcbf29ce484222325

abbrev pub after : ℕ → List ℕ → ℕ
after hash bytes = fold (λ h byte. (bit_xor h byte * 0x100000001b3) % 2 ^ 64) hash bytes

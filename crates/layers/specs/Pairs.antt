-- The pairs of the layers: each g with its least argument that reaches.
--   shift_pair, shift_ahead  a shift, as a delay and a start are
--   varispeed_pair           varispeed
--   pull_pair, pull_ahead    2:3 pull-down
-- Assumes nothing.
use Rattle.std.specs.Prelude.{ℕ, ◌<◌}
use Rattle.std.proofs.Common.{arith}
use Rattle.timebase.specs.Scale.{scaled, reached}
use Rattle.timebase.specs.Scales.{scaled_reached}
use Rattle.layers.specs.Layers.{Pair, Ahead, shifted, shifted_back, pulled, pulled_back}

pub shift_pair : (n : ℕ) → Pair (shifted n) (shifted_back n)
shift_pair n = record { reaches = λ s t h. omega arith; reached = λ s t h. omega arith }

pub shift_ahead : (n : ℕ) → Ahead (shifted n)
shift_ahead n p = omega arith

pub varispeed_pair : (a b : ℕ) → 0 < a → 0 < b → Pair (scaled a b) (reached a b)
varispeed_pair a b ha hb =
    record { reaches = λ s t. (scaled_reached a b s t ha hb).0; reached = λ s t. (scaled_reached a b s t ha hb).1 }

pub pull_pair : Pair pulled pulled_back
pull_pair = record { reaches = λ s t h. omega arith; reached = λ s t h. omega arith }

pub pull_ahead : Ahead pulled
pull_ahead p = omega arith

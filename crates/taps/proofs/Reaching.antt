-- The first sample that reaches: as many as have begun at the sample before s lie before s.
-- Assumes nothing.
use Rattle.std.proofs.Common.{◌≡◌, ℕ, ◌-◌, ◌<◌, true, List, arith}
use Rattle.timebase.specs.Meaning.{Least}
use Rattle.rows.specs.Begun.{Begun}
use Rattle.taps.specs.Rules.{never_falls}
use Rattle.taps.specs.Tables.{taps_meaning}
use Rattle.taps.specs.Climbs.{climbs_le}

pub begun_least : (samples : List ℕ) (s r : ℕ) → never_falls 0 samples ≡ true → 0 < s →
    Begun (λ n. n) samples (s - 1) r → Least (taps_meaning samples) s r
begun_least samples s r c some b =
    record {
      inside = b.inside;
      reaches = λ h. omega (arith, b.next 0 h);
      before = λ p h. omega (
        arith,
        climbs_le 0 samples c p (r - 1) (omega arith) (omega (arith, b.inside)),
        b.last (r - 1) 0 (omega arith),
      );
    }

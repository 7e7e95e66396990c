use Rattle.std.proofs.Common.{◌≡◌, leb, rules}
use Rattle.std.proofs.lemmas.Fn.{always_returns_same}
use Rattle.taps.proofs.Climbing.{sorted_exactly}
use Rattle.taps.proofs.rules.never_back.Goals as goal

pub returns : goal.returns
returns c =
    sorted_exactly _ _
    (c.is_sorted_by.ensures.cases (λ x y. leb x y)
    (always_returns_same _ (λ a r. r ≡ leb a.0.now a.1.0.now) _ (λ a r f k. search rules)))

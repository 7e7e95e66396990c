use Rattle.std.proofs.Common.{ltb, rules, subst}
use Rattle.std.proofs.lemmas.List.Sorted.{IsPartitionedBy-ltb, IsPartitionPoint-from_clause}
use borrow.Author.Tests.{tests}
use Rattle.book.specs.Cues.{Rising, Splits}
use Rattle.book.proofs.Rises.{rising, splits}
use Rattle.book.proofs.pages.Book.below.Goals as goal

pub returns-clause-splits : goal.returns-clause-splits
returns-clause-splits g c =
    let p = c.args.position in
    let r = c.partition_point.result in
    subst (λ cs. Rising cs → Splits _ cs p r) c.held.ensures
    (λ rises.
    let cs = c.held.result.now in
    splits cs p r c.partition_point.ensures.bound
    (IsPartitionPoint-from_clause (λ x. ltb x.position p) cs r c.partition_point.ensures.partitioned
    (IsPartitionedBy-ltb (λ x. x.position) cs p (rising cs rises)) (λ a b f k. search (rules, tests))))

use Rattle.taps.proofs.Climbing.{order_decides, exist_decides}
use Rattle.taps.proofs.rules.climbs.Goals as goal

pub returns-then-never_back : goal.returns-then-never_back
returns-then-never_back c =
    exist_decides c.args.samples.now _ (c.never_back.ensures.0 c.if-never_back.true) c.all_exist.ensures

pub returns-else-never_back : goal.returns-else-never_back
returns-else-never_back c =
    order_decides c.args.samples.now _ c.if-never_back.false c.never_back.ensures

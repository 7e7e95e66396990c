use Rattle.std.proofs.Common.{vec_items, sym}
use Rattle.timebase.specs.Meaning.{Least}
use Rattle.timebase.specs.Locates.{least_agrees}
use Rattle.taps.specs.Tables.{taps_meaning}
use Rattle.taps.specs.Climbs.{taps_sound}
use Rattle.taps.proofs.table.TapsTimebase.locate.Goals as goal

pub returns : goal.returns
returns c =
    let t = c.args.self.now in
    let m = taps_meaning (vec_items t.samples) in
    let own = sym c.as_slice.ensures.value in
    let least : Least m c.args.s c.first_from.result = rw own c.first_from.ensures in
    record { least = least; agrees = least_agrees m (taps_sound _ t.few t.climbs) c.args.s _ least }

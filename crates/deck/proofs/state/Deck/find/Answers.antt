use Rattle.std.proofs.Common.{get_or, sym, ap, ◌∙◌, subst, arith, rules, ◌<◌, ◌≤◌}
use Rattle.book.specs.Cues.{Splits, Rising}
use Rattle.book.specs.Held.{cues}
use Rattle.history.specs.Accepted.{accepted, stands_on}
use Rattle.history.proofs.Keeping.{kept_all}
use Rattle.deck.specs.Finds.{Found}
use Rattle.deck.specs.Runs.{world_of}
use Rattle.deck.proofs.Ranges.{one_of}
use Rattle.deck.proofs.Sought.{first_found, number_found, none_found, none_past}
use Rattle.deck.proofs.state.Deck.find.Goals as goal

pub returns-then-sample-gt-LAST_SAMPLE : goal.returns-then-sample-gt-LAST_SAMPLE
returns-then-sample-gt-LAST_SAMPLE g c =
    let d = c.args.self.now in
    let w = world_of g.C.Timebase.meaning g.F.WrittenForm.number g.L.Timebase.meaning g.L.WrittenTimebase.form d in
    λ calls had. none_past w (accepted w calls) (kept_all w calls) c.args.sample (g.met.C.Timebase.sound d.pile) (omega arith)

pub returns-then-is_empty : goal.returns-then-is_empty
returns-then-is_empty g c =
    let d = c.args.self.now in
    let w = world_of g.C.Timebase.meaning g.F.WrittenForm.number g.L.Timebase.meaning g.L.WrittenTimebase.form d in
    let r = c.row-row.ensures in
    let empty : c.row-row.result.end ≤ c.row-row.result.start = search rules in
    λ calls had.
    let k = kept_all w calls in
    let rises : Rising (cues d.book) = subst Rising (sym had.cues_are) k.rises in
    none_found w (accepted w calls) k c.args.sample (g.met.C.Timebase.sound d.pile) r.low r.high c.row-row.result.start c.row-row.result.end r.first r.last
    (subst (λ cs. Splits _ cs r.low c.row-row.result.start) had.cues_are (r.begins rises))
    (subst (λ cs. Splits _ cs r.high c.row-row.result.end) had.cues_are (r.ends rises))
    empty

pub returns : goal.returns
returns g c =
    let d = c.args.self.now in
    let w = world_of g.C.Timebase.meaning g.F.WrittenForm.number g.L.Timebase.meaning g.L.WrittenTimebase.form d in
    let r = c.row-row.ensures in
    let from = c.row-row.result.start in
    let to = c.row-row.result.end in
    let some : from < to = search rules in
    λ calls had.
    let k = kept_all w calls in
    let rises : Rising (cues d.book) = subst Rising (sym had.cues_are) k.rises in
    let inside = (r.ends rises).inside in
    let x = one_of (cues d.book) (omega arith) in
    let is = number_found (cues d.book) from c.at.result c.map.result _ c.at.ensures c.map.ensures.cases (λ y n h. search rules) (omega arith) x in
    subst (λ o. Found w (accepted w calls) c.args.sample o) (sym is)
    (ap (λ cs. stands_on w (get_or cs from x).number (accepted w calls)) had.cues_are
    ∙ first_found w (accepted w calls) k c.args.sample (g.met.C.Timebase.sound d.pile) r.low r.high from to r.first r.last
    (subst (λ cs. Splits _ cs r.low from) had.cues_are (r.begins rises))
    (subst (λ cs. Splits _ cs r.high to) had.cues_are (r.ends rises))
    x some)

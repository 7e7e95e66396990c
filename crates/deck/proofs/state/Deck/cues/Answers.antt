use Rattle.std.proofs.Common.{sym, ◌∙◌, subst}
use Rattle.history.specs.Accepted.{accepted}
use Rattle.history.specs.Contents.{book_of}
use Rattle.history.proofs.Keeping.{kept_all}
use Rattle.deck.specs.Order.{InWrittenOrder}
use Rattle.deck.specs.Runs.{world_of}
use Rattle.deck.proofs.Orders.{written_order}
use Rattle.deck.proofs.state.Deck.cues.Goals as goal

pub returns : goal.returns
returns g c =
    let d = c.args.self.now in
    let w = world_of g.C.Timebase.meaning g.F.WrittenForm.number g.L.Timebase.meaning g.L.WrittenTimebase.form d in
    let f = g.F.WrittenForm in
    let laws = g.met.F.WrittenForm in
    record {
      value = c.held.ensures;
      ordered = λ calls had.
          let k = kept_all w calls in
          subst (InWrittenOrder (f.parts d.form)) (sym (c.held.ensures ∙ had.cues_are))
          (written_order w (f.count d.form) (f.value d.form) (f.parts d.form) (laws.paired d.form) (laws.ordered d.form) (book_of w (accepted w calls)) k.good k.rises);
    }

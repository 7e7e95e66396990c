use Rattle.std.proofs.Common.{refl}
use Rattle.deck.specs.Runs.{world_of}
use Rattle.deck.proofs.Edits.{struck_taken}
use Rattle.deck.proofs.state.Deck.strike.Goals as goal

pub returns : goal.returns
returns g c =
    let d = c.args.self.now in
    let w = world_of g.C.Timebase.meaning g.F.WrittenForm.number g.L.Timebase.meaning g.L.WrittenTimebase.form d in
    struck_taken w d _ c.args.number c.strike.result c.if-not-in_range.ensures refl refl
    (record { piles = refl; forms = refl; frames = refl; places = c.strike.ensures.room; lines = refl }) c.strike.ensures.value c.strike.ensures.after

use Rattle.std.proofs.Common.{◌≡◌, refl, ap, ◌∙◌, length, ⊎_elim, arith}
use Rattle.std.specs.List.{between}
use Rattle.book.specs.Held.{cues}
use Rattle.deck.specs.Runs.{world_of}
use Rattle.deck.proofs.Rows.{appends_row}
use Rattle.deck.proofs.state.Deck.log_row.Goals as goal

pub returns-in-Some : goal.returns-in-Some
returns-in-Some g c =
    let d = c.args.self.now in
    let w = world_of g.C.Timebase.meaning g.F.WrittenForm.number g.L.Timebase.meaning g.L.WrittenTimebase.form d in
    let from = c.args.row.start in
    let to = c.args.row.end in
    let row : c.in-Some.cues.now ≡ between from to (cues d.book) = c.in-Some.ensures.lookup.0.2 ∙ ap (between from to) c.held.ensures in
    record {
      books = refl;
      heads = refl;
      keeps = record { piles = refl; forms = refl; frames = refl; places = refl; lines = c.log_all.ensures.room };
      rows = appends_row w (cues d.book) c.in-Some.cues.now from to d.log c.log_all.new.log row (c.log_all.ensures.lines w refl refl);
    }

pub returns-in_default : goal.returns-in_default
returns-in_default g c =
    record {
      books = refl;
      heads = refl;
      keeps = record { piles = refl; forms = refl; frames = refl; places = refl; lines = refl };
      rows = λ up inside good fits. absurd (let same = ap length c.held.ensures in ⊎_elim (λ l. omega arith) (λ l. omega arith) c.in_default.ensures.lookup.0);
    }

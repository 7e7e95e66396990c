use Rattle.std.proofs.Common.{◌≡◌, take}
use Rattle.written.specs.Current.{current_at}
use Rattle.book.specs.Held.{log_room}
use Rattle.history.specs.World.{World}
use Rattle.deck.specs.Runs.{Appends}
use Rattle.deck.proofs.playing.log_all.Given as goal

abbrev pub invariant-loop-cue : goal.invariant-loop-cue
invariant-loop-cue g l =
    (log_room l.log ≡ log_room l.initial.log)
    × ((w : World _ _) → w.cues ≡ g.C.Timebase.meaning l.pile → w.label ≡ current_at (g.L.Timebase.meaning l.frames) (g.L.WrittenTimebase.form l.frames)
    → Appends w (take l.cue-index l.cues) l.initial.log l.log)

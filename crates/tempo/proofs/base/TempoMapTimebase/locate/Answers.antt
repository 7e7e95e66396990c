use Rattle.std.proofs.Common.{◌≡◌, ◌+◌, min, sym, ap, ◌∙◌, subst}
use Rattle.timebase.specs.Meaning.{Least}
use Rattle.timebase.specs.Locates.{least_agrees}
use Rattle.tempo.specs.Maps.{map_micros, tempo_meaning}
use Rattle.tempo.specs.Lies.{Parted}
use Rattle.tempo.specs.Sounds.{tempo_sound, tempo_least}
use Rattle.tempo.proofs.base.TempoMapTimebase.locate.Goals as goal

pub returns : goal.returns
returns c =
    let m = c.args.self.now in
    let s = c.args.s in
    let r = c.tick_reaching.result in
    let cut : c.min.result ≡ min r (m.last + 1) = c.min.ensures ∙ ap (λ n. min r n) c.ticks.ensures in
    let parted = subst (λ x. Parted (map_micros m) x r) c.reach.ensures c.tick_reaching.ensures in
    let least : Least (tempo_meaning m) s c.min.result =
    subst (Least (tempo_meaning m) s) (sym cut) (tempo_least m s r parted) in
    record { least = least; agrees = least_agrees (tempo_meaning m) (tempo_sound m) s c.min.result least }

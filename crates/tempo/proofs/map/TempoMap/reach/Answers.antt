use Rattle.std.proofs.Common.{◌-◌, ◌*◌, ap, div-le_self, arith}
use Rattle.tempo.specs.Sounds.{reach_small}
use Rattle.tempo.proofs.map.TempoMap.reach.Goals as goal

pub overflow_mul-result : goal.overflow_mul-result
overflow_mul-result c =
    let m = c.args.self.now in
    let t = c.min.result - 1 in
    let product = reach_small m t (omega arith) in
    let same = ap (λ x. t * x) c.span.ensures in
    record { fits = omega arith }

pub overflow_add-result : goal.overflow_add-result
overflow_add-result c =
    let m = c.args.self.now in
    let t = c.min.result - 1 in
    let product = reach_small m t (omega arith) in
    let same = ap (λ x. t * x) c.span.ensures in
    let less = div-le_self (t * c.span.result) m.rate.samples in
    record { fits = omega arith }

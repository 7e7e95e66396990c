use Rattle.std.proofs.Common.{Ok, Err, refl, arith, rules}
use Rattle.std.specs.Fn.{FnOnceReturnsAtMut}
use Rattle.text.proofs.Loans.{lent, filled_ok, filled_no}
use Rattle.text.proofs.writer.TextWriter.fill.Goals as goal

pub overflow_add-self : goal.overflow_add-self
overflow_add-self g c =
    let out = lent c.args.self.now.out.now c.args.self.now.len in
    let said : FnOnceReturnsAtMut g.F.FnOnce c.args.step out (Ok c.in_ok-count.count) c.step.new.arg2
    = record { shown = _; shows = refl; left = _; met = c.in_ok-count.ensures; leaves = refl } in
    omega (arith, c.requires.within out c.step.new.arg2 c.in_ok-count.count said)

pub returns-in_err-count : goal.returns-in_err-count
returns-in_err-count g c = λ text puts.
    let out = lent c.args.self.now.out.now c.args.self.now.len in
    let said : FnOnceReturnsAtMut g.F.FnOnce c.args.step out (Err c.in_err-count.field-0.0) c.step.new.arg2
    = record { shown = _; shows = refl; left = _; met = c.in_err-count.ensures; leaves = refl } in
    filled_no text c.step.new.arg2 c.args.self.now _ c.in_err-count.field-0.0 _ (omega arith) (puts out _ _ said) refl refl refl (search rules)

pub returns : goal.returns
returns g c = λ text puts.
    let out = lent c.args.self.now.out.now c.args.self.now.len in
    let said : FnOnceReturnsAtMut g.F.FnOnce c.args.step out (Ok c.in_ok-count.count) c.step.new.arg2
    = record { shown = _; shows = refl; left = _; met = c.in_ok-count.ensures; leaves = refl } in
    filled_ok text c.step.new.arg2 c.args.self.now _ c.in_ok-count.count (omega arith) (puts out _ _ said) refl refl refl

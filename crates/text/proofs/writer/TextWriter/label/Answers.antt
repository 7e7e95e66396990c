use Rattle.std.proofs.Common.{◌≡◌, true, is_some, rules}
use Rattle.text.proofs.Marks.{read_has, print_puts, offered_taken}
use Rattle.text.proofs.writer.TextWriter.label.Goals as goal

pub returns : goal.returns
returns g c =
    let number = g.F.WrittenForm.number c.args.form.now c.args.label in
    let text = g.F.TextForm.text c.args.form.now c.args.label in
    let has : is_some number ≡ true = read_has number c.in_ok-read.field-0 c.in_ok-read.ensures in
    offered_taken (is_some number) text c.args.self.now c.fill.new.self c.fill.result has
    (c.fill.ensures text (λ out after r said. print_puts (is_some number) text out after r has (search rules) (search rules)))

use Rattle.std.proofs.Common.{◌≡◌, ◌-◌, ◌&&◌, length, sym, ap, ◌∙◌, rules}
use Rattle.std.proofs.lemmas.Fn.{always_returns_same}
use Rattle.std.specs.List.{slice_get}
use Rattle.meter.specs.Rules.{meter_kept, next_kept, ends_kept}
use Rattle.meter.proofs.Tried.{kept_tested}
use Rattle.meter.proofs.rules.Draft.all_kept.Goals as goal

pub returns-then-is_sorted_by : goal.returns-then-is_sorted_by
returns-then-is_sorted_by c =
    let rows = c.args.self.now.rows.now in
    let d = c.args.self.now.division in
    let tested = kept_tested d rows c.is_sorted_by.result
    (c.is_sorted_by.ensures.cases (λ x y. meter_kept d x && next_kept d x y)
    (always_returns_same _ (λ a r. r ≡ (meter_kept d a.0.now && next_kept d a.0.now a.1.0.now)) _ (λ a r f k. search rules))) in
    c.ends_kept.ensures
    ∙ sym (ap (λ b. b && ends_kept d (slice_get rows (length rows - 1))) c.if-is_sorted_by.true) ∙ tested

pub returns-else-is_sorted_by : goal.returns-else-is_sorted_by
returns-else-is_sorted_by c =
    let rows = c.args.self.now.rows.now in
    let d = c.args.self.now.division in
    let tested = kept_tested d rows c.is_sorted_by.result
    (c.is_sorted_by.ensures.cases (λ x y. meter_kept d x && next_kept d x y)
    (always_returns_same _ (λ a r. r ≡ (meter_kept d a.0.now && next_kept d a.0.now a.1.0.now)) _ (λ a r f k. search rules))) in
    c.if-is_sorted_by.false
    ∙ sym (ap (λ b. b && ends_kept d (slice_get rows (length rows - 1))) c.if-is_sorted_by.false) ∙ tested

use Rattle.std.proofs.Common.{◌≡◌, ◌-◌, ◌&&◌, length, sym, ap, ◌∙◌, rules}
use Rattle.std.proofs.lemmas.Fn.{always_returns_same}
use Rattle.std.specs.List.{slice_get}
use Rattle.tempo.specs.Rules.{next_kept, ends_kept}
use Rattle.tempo.proofs.Kept.{kept_tested}
use Rattle.tempo.proofs.draft.Draft.all_kept.Goals as goal

pub returns-then-is_sorted_by : goal.returns-then-is_sorted_by
returns-then-is_sorted_by c =
    let rows = c.args.self.now.rows.now in
    let last = c.args.self.now.last in
    let tested = kept_tested rows last c.is_sorted_by.result
    (c.is_sorted_by.ensures.cases next_kept
    (always_returns_same _ (λ a r. r ≡ next_kept a.0.now a.1.0.now) _ (λ a r f k. search rules))) in
    c.ends_kept.ensures
    ∙ sym (ap (λ b. b && ends_kept (slice_get rows (length rows - 1)) last) c.if-is_sorted_by.true) ∙ tested

pub returns-else-is_sorted_by : goal.returns-else-is_sorted_by
returns-else-is_sorted_by c =
    let rows = c.args.self.now.rows.now in
    let last = c.args.self.now.last in
    let tested = kept_tested rows last c.is_sorted_by.result
    (c.is_sorted_by.ensures.cases next_kept
    (always_returns_same _ (λ a r. r ≡ next_kept a.0.now a.1.0.now) _ (λ a r f k. search rules))) in
    c.if-is_sorted_by.false
    ∙ sym (ap (λ b. b && ends_kept (slice_get rows (length rows - 1)) last) c.if-is_sorted_by.false) ∙ tested

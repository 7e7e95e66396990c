use Rattle.std.proofs.Common.{sym, subst}
use Rattle.meter.specs.Tables.{rows_of}
use Rattle.forms.specs.Texts.{Spells}
use Rattle.bar_positions.specs.BarPositions.{position_number}
use Rattle.bar_positions.specs.Spellings.{position_text}
use Rattle.bar_positions.specs.declared.position.BarPosition.{BarPosition}
use Rattle.bar_positions.proofs.Spelt.{spells_position}
use Rattle.bar_positions.proofs.spelling.BarPositionsTextForm.value_of.Goals as goal

pub returns-clause-spells : goal.returns-clause-spells
returns-clause-spells c =
    let m = c.args.self.now.meter in
    let text = c.args.bytes.now in
    subst (Spells BarPosition (position_number m.division (rows_of m)) position_text text) (sym c.spelt.ensures)
    (spells_position m.division (rows_of m) m.lawful text)

use Rattle.layers.proofs.Piles.{piles_agree}
use Rattle.history.proofs.Once.{every_crossing_is_logged_once, a_play_answers_its_lines}
use Rattle.history.proofs.Cutting.{cutting}
use Rattle.session.proofs.carry.carry_out.Goals as goal

pub returns : goal.returns
returns g c = record {
  carried = c.carry.ensures;
  agree = piles_agree;
  once = every_crossing_is_logged_once _ _;
  counts = a_play_answers_its_lines _ _;
  cutting = cutting _ _;
}

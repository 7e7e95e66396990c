use Rattle.layers.proofs.Piles.{piles_agree}
use Rattle.layers.proofs.pile.locate_on.Goals as goal

pub returns-clause-law : goal.returns-clause-law
returns-clause-law g c = piles_agree

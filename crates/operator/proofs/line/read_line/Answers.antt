use Rattle.operator.proofs.Sayings.{read_back}
use Rattle.operator.proofs.line.read_line.Goals as goal

pub returns-clause-reads_back : goal.returns-clause-reads_back
returns-clause-reads_back c = read_back

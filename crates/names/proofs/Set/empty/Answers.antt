-- A list of zeros has no member.
use Rattle.names.proofs.Laws.Words.{zeros-empty}
use Rattle.names.proofs.Set.empty.Goals as goal

pub returns : goal.returns
returns g c = zeros-empty g.row.N

-- Of the empty set, the sets without members are the subsets.
use mathlib.Core.Path.{◌∙◌}
use Rattle.names.proofs.Laws.Words.{subset_empty}
use Rattle.names.proofs.Set.is_empty.Goals as goal

pub returns : goal.returns
returns g c = c.is_subset.ensures ∙ subset_empty _ c.empty.ensures

-- By what the chain says.
use mathlib.Core.Path.{ap, ◌∙◌}
use Rattle.sheet_chains.specs.declared.chain.Chain.{Chain}
use Rattle.sheet_chains.proofs.Laws.Numbers.{chain-odd}
use Rattle.sheet_chains.proofs.ends_odd.Goals as goal

pub returns : goal.returns
returns c =
    let a = c.args in
    ap (λ (x : Chain). x.odd) c.chain_from.ensures ∙ chain-odd a.counts a.tables.now a.work.now c.requires.chained a.row

-- By what the chain says.
use mathlib.Core.Path.{ap, ◌∙◌}
use Rattle.sheet_chains.specs.declared.chain.Chain.{Chain}
use Rattle.sheet_chains.proofs.Laws.Numbers.{chain-vars}
use Rattle.sheet_chains.proofs.all_vars.Goals as goal

pub returns : goal.returns
returns c =
    let a = c.args in
    ap (λ (x : Chain). x.vars) c.chain_from.ensures ∙ chain-vars a.counts a.tables.now a.work.now c.requires.chained a.row

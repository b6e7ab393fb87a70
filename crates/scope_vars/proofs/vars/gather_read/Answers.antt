-- The two walks, one after the other.
use Rattle.scope_vars.proofs.Laws.Vars.{read}
use Rattle.scope_vars.proofs.vars.gather_read.Goals as goal

pub returns : goal.returns
returns c =
    read _ _ c.args.row c.args.rest c.args.scope _ _ _ _ (c.gather_input_vars-read.ensures.done _) c.gather_loop_vars-uses.ensures.done

-- The pattern's walk, which keeps the locals.
use mathlib.Core.Path.{sym, ap, ◌∙◌}
use mathlib.Core.Bool.{true}
use lib.ListN.{length}
use Rattle.scope_vars.proofs.Laws.Loops.{with-locals}
use Rattle.scope_vars.proofs.loops.bind_index.Goals as goal

pub returns : goal.returns
returns c =
    record {
      unscoped-long = ap length c.put.ensures.0 ∙ c.put.ensures.1 ∙ sym c.requires.unscoped-words;
      inputs_long = ap length c.put-2.ensures.0 ∙ c.put-2.ensures.1 ∙ sym c.requires.inputs-words;
      done = rw (c.put.ensures.0, c.put-2.ensures.0) (with-locals _ _ c.args.row true _ _ _ _ _ _ _ c.gather_assigned_vars-s.ensures);
    }

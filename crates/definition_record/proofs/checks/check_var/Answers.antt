-- A variable, or nothing.
use Rattle.scope_walk.proofs.Laws.Patterns.{other_than_var}
use Rattle.definition_record.proofs.Laws.Checks.{var_checked, var-other}
use Rattle.definition_record.proofs.checks.check_var.Goals as goal

pub returns-in-Var : goal.returns-in-Var
returns-in-Var c = var_checked c.args.w _ _ c.in-Var.ensures _ c.check_first_use.ensures

pub returns-in_default : goal.returns-in_default
returns-in_default c = var-other c.args.w _ _ (other_than_var c.args.w c.from.ensures c.in_default.not-Var)

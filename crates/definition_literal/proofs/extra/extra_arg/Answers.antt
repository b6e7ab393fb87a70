-- It is looked for where it is asked for.
use Rattle.definition_literal.proofs.Laws.ExtraArgs.{arg_asked, arg_not_asked}
use Rattle.definition_literal.proofs.extra.extra_arg.Goals as goal

pub returns-then-call : goal.returns-then-call
returns-then-call c = arg_asked _ c.args.row _ c.if-call.true _ c.get_extra_arg.ensures

pub returns : goal.returns
returns c = arg_not_asked _ c.args.row _ c.if-call.false

-- Only a call has one.
use mathlib.Core.Path.{◌∙◌}
use Rattle.sheet.proofs.Laws.Sheet.{row-fields}
use Rattle.scope_walk.proofs.Laws.Numbers.{other_number}
use Rattle.scope_walk.proofs.Laws.Walking.{first-low, second-low}
use Rattle.scope_paths.proofs.Laws.Extra.{no_expr, of_call, of_other}
use Rattle.scope_paths.proofs.extra.get_extra_arg.Goals as goal

pub returns-then-row-eq0 : goal.returns-then-row-eq0
returns-then-row-eq0 c =
    no_expr c.args.tables.now c.requires.0 c.args.row c.if-row-eq0.true

pub call_extra-requires : goal.call_extra-requires
call_extra-requires c =
    let pre = c.requires in
    let w = c.row_at-w.ensures ∙ row-fields _ _ in
    (pre.0, first-low _ pre.0 _ c.if-row-eq0.false pre.1 _ w, second-low _ pre.0 _ c.if-row-eq0.false pre.1 _ w)

pub returns-in-Call : goal.returns-in-Call
returns-in-Call c =
    of_call c.args.tables.now c.requires.0 c.args.row c.if-row-eq0.false c.requires.1 c.row_at-w.result
    (c.row_at-w.ensures ∙ row-fields _ _) c.in-Call.ensures _ (rw c.unwrap_or.ensures c.call_extra.ensures)

pub returns-in_default : goal.returns-in_default
returns-in_default c =
    of_other c.args.tables.now c.requires.0 c.args.row c.if-row-eq0.false c.requires.1 c.row_at-w.result
    (c.row_at-w.ensures ∙ row-fields _ _) (other_number _ c.from.ensures c.in_default.not-Call)

-- Each way out is one of the laws: the first count out of bounds, or none.
use mathlib.Core.Path.{◌∙◌}
use Prim.Native.Nat.{◌≤◌, ◌<◌}
use native.Mathlib.Omega.{arith}
use Rattle.names_width.specs.Widths.{limits}
use Rattle.sheet.proofs.Laws.AnswerLaws.{unless-none, unless_line, unless-out}
use Rattle.sheet_counts.proofs.Laws.Faults.{names-over, built_ins-over, expressions-over, statements-over, queries-over, no_query, some-query}
use Rattle.sheet_counts.proofs.check_counts.Goals.{In_ok-built_ins}
use Rattle.sheet_counts.proofs.check_counts.Goals as goal

-- So many names are few enough.
low : (c : In_ok-built_ins) → c.args.counts.names ≤ (limits c.args.width).names
low c = omega (arith, c.in_ok-built_ins.ensures.0, c.names.ensures)

pub returns-in_err-built_ins : goal.returns-in_err-built_ins
returns-in_err-built_ins c =
    let k = c.args.counts in
    let f = c.in_err-built_ins.ensures in
    let over : (limits c.args.width).names < k.names = omega (arith, f.0, c.names.ensures) in
    let h = names-over (limits c.args.width) k.names k.builtins k.exprs k.statements k.queries over in
    unless-out _ c.from_residual.result c.from_residual.ensures.1 (h ∙ omega (arith, f.1, c.names.ensures)) (omega (arith, f.1))

pub returns-in_err-expressions : goal.returns-in_err-expressions
returns-in_err-expressions c =
    let f = c.in_err-expressions.ensures in
    let h = built_ins-over (limits c.args.width) _ _ _ _ _ (low (goal.at.returns-in_err-expressions c).In_ok-built_ins) f.0 in
    unless-out _ c.from_residual-in_err-expressions.result c.from_residual-in_err-expressions.ensures.1 (h ∙ omega (arith, f.1, c.in_ok-built_ins.ensures.1)) (omega (arith, f.1))

pub returns-in_err-statements : goal.returns-in_err-statements
returns-in_err-statements c =
    let f = c.in_err-statements.ensures in
    let h = expressions-over (limits c.args.width) _ _ _ _ _ (low (goal.at.returns-in_err-statements c).In_ok-built_ins) c.in_ok-expressions.ensures.0 f.0 in
    unless-out _ c.from_residual-in_err-statements.result c.from_residual-in_err-statements.ensures.1 (h ∙ omega (arith, f.1, c.in_ok-built_ins.ensures.1, c.in_ok-expressions.ensures.1)) (omega (arith, f.1))

pub returns-in_err-queries : goal.returns-in_err-queries
returns-in_err-queries c =
    let f = c.in_err-queries.ensures in
    let h = statements-over (limits c.args.width) _ _ _ _ _ (low (goal.at.returns-in_err-queries c).In_ok-built_ins) c.in_ok-expressions.ensures.0 c.in_ok-statements.ensures.0 f.0 in
    unless-out _ c.from_residual-in_err-queries.result c.from_residual-in_err-queries.ensures.1 (h ∙ omega (arith, f.1, c.in_ok-built_ins.ensures.1, c.in_ok-expressions.ensures.1, c.in_ok-statements.ensures.1)) (omega (arith, f.1))

pub returns-in_err-heading_behind : goal.returns-in_err-heading_behind
returns-in_err-heading_behind c =
    let f = c.in_err-heading_behind.ensures in
    let h = queries-over (limits c.args.width) _ _ _ _ _ (low (goal.at.returns-in_err-heading_behind c).In_ok-built_ins) c.in_ok-expressions.ensures.0 c.in_ok-statements.ensures.0 c.in_ok-queries.ensures.0 f.0 in
    unless-out _ c.from_residual-in_err-heading_behind.result c.from_residual-in_err-heading_behind.ensures.1 (h ∙ omega (arith, f.1, c.in_ok-built_ins.ensures.1, c.in_ok-expressions.ensures.1, c.in_ok-statements.ensures.1, c.in_ok-queries.ensures.1)) (omega (arith, f.1))

pub returns-then-counts-eq0 : goal.returns-then-counts-eq0
returns-then-counts-eq0 c =
    let h = no_query (limits c.args.width) _ _ _ _ _ (low (goal.at.returns-then-counts-eq0 c).In_ok-built_ins) c.in_ok-expressions.ensures.0 c.in_ok-statements.ensures.0 c.in_ok-queries.ensures.0 c.in_ok-heading_behind.ensures.0 c.if-counts-eq0.true in
    unless_line _ _ (h ∙ omega (arith, c.in_ok-built_ins.ensures.1, c.in_ok-expressions.ensures.1, c.in_ok-statements.ensures.1, c.in_ok-queries.ensures.1)) (omega (arith, c.in_ok-queries.ensures.1))

pub returns : goal.returns
returns c =
    unless-none _ (some-query (limits c.args.width) _ _ _ _ _ (low (goal.at.returns c).In_ok-built_ins) c.in_ok-expressions.ensures.0 c.in_ok-statements.ensures.0 c.in_ok-queries.ensures.0 c.in_ok-heading_behind.ensures.0 c.if-counts-eq0.false)

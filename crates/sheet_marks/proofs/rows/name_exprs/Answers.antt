-- The marks of the queries, the statements and the expressions so far.
use borrow.Author.Rules.{rules}
use mathlib.Core.Path.{◌≡◌, subst, ap, ap₂, ◌∙◌}
use mathlib.Core.Bool.{Bool}
use Prim.Native.Nat.{ℕ, ◌+◌, ◌-◌}
use native.Mathlib.Omega.{arith}
use lib.ListN.{get_or}
use Rattle.sheet.specs.declared.Row.{Row}
use Rattle.sheet.specs.Inner.Records.{expr_at}
use Rattle.sheet.specs.Inner.Rows.{in_tables}
use Rattle.sheet.specs.Naming.{expr_row, namings, by_exprs}
use Rattle.sheet_marks.specs.Inner.Codes.{code_member}
use Rattle.sheet_marks.specs.Inner.Marks.{Marks, row_work}
use Rattle.sheet_marks.specs.Inner.Rows.{parts_of}
use Rattle.sheet_marks.proofs.Laws.Rows.{next-expr, next-row}
use Rattle.sheet_marks.proofs.rows.name_exprs.Goals as goal

pub loop-row-init : goal.loop-row-init
unfolding by_exprs
loop-row-init c = (search rules, search rules, search rules, c.requires.0)

pub loop-row-preserved : goal.loop-row-preserved
loop-row-preserved c =
    let a = c.args in let l = c.loop-row in (
      search rules,
      search rules,
      search rules,
      next-row (λ k w. Marks (by_exprs a.counts (in_tables a.tables.now) k) w) (λ k w. row_work a.counts (expr_row k) (parts_of a.counts (code_member (get_or w (160 + k) 0)) (expr_at a.tables.now k) k) w) l.row (l.row - 1) _ l.work _
          (next-expr a.counts a.tables.now c.requires.2 (l.row - 1) l.work (omega (arith, c.requires.2.few-exprs))) (omega arith) (omega arith) (c.name_expr.ensures ∙ ap₂ (λ (b : Bool) (x : Row). row_work a.counts (expr_row l.row) (parts_of a.counts b x l.row) l.work) (c.is_member.ensures ∙ ap code_member c.from-mark.ensures) c.row_at-x.ensures) l.invariant.3,
    )

pub returns : goal.returns
unfolding namings
returns c =
    let a = c.args in let l = c.loop-row in let e : l.row - 1 ≡ a.counts.exprs = omega arith in
    subst (λ (k : ℕ). Marks (by_exprs a.counts (in_tables a.tables.now) k) l.work) e l.invariant.3

pub returns-2 : goal.returns-2
unfolding namings
returns-2 c =
    let a = c.args in let l = c.loop-row in
    next-row (λ k w. Marks (by_exprs a.counts (in_tables a.tables.now) k) w) (λ k w. row_work a.counts (expr_row k) (parts_of a.counts (code_member (get_or w (160 + k) 0)) (expr_at a.tables.now k) k) w) l.row (l.row - 1) _ l.work _
    (next-expr a.counts a.tables.now c.requires.2 (l.row - 1) l.work (omega (arith, c.requires.2.few-exprs))) (omega arith) (omega arith) (c.name_expr.ensures ∙ ap₂ (λ (b : Bool) (x : Row). row_work a.counts (expr_row l.row) (parts_of a.counts b x l.row) l.work) (c.is_member.ensures ∙ ap code_member c.from-mark.ensures) c.row_at-x.ensures) l.invariant.3

-- The rows so far have their query.
use borrow.Author.Rules.{rules}
use mathlib.Core.Path.{sym, subst}
use mathlib.Core.List.{List}
use Prim.Native.Nat.{ℕ, ◌+◌}
use native.Mathlib.Omega.{arith}
use Rattle.sheet.specs.Naming.{namings}
use Rattle.sheet_marks.specs.Inner.Homes.{SettledHomes}
use Rattle.sheet_marks.proofs.Laws.Homes.{settled-start, settled-next}
use Rattle.sheet.specs.Inner.Rows.{in_tables}
use Rattle.sheet_marks.proofs.homes.settle.Goals as goal

pub loop-last-init : goal.loop-last-init
loop-last-init c = (search rules, settled-start _ _ c.requires.0)

pub loop-last-preserved : goal.loop-last-preserved
loop-last-preserved c =
    let a = c.args in let l = c.loop-last in let w = c.requires.1 in
    (search rules, subst (λ (v : List ℕ). SettledHomes (namings a.counts (in_tables a.tables.now)) (l.last + 1) v) (sym c.settle_next.ensures) (settled-next _ l.last l.work l.invariant.1 (omega arith) (omega (arith, w.few-exprs))))

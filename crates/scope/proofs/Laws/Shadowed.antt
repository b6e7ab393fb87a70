-- Laws of `Shadowed`.
use mathlib.Core.Path.{◌≡◌, refl, sym}
use mathlib.Core.Bool.{true, false}
use mathlib.Core.List.{List}
use mathlib.Core.Logic.{⊎_elim}
use Prim.Native.Nat.{ℕ}
use lib.Dec.{eqb}
use borrow.Author.Tests.{eqb-true}
use Rattle.base.proofs.Laws.Truth.{bool_cases, not-both, or_cases}
use Rattle.base.proofs.Laws.ListLaws.{all_always}
use Rattle.sheet.specs.declared.Row.{Row}
use Rattle.sheet.specs.Sheet.{Sheet}
use Rattle.scope.specs.Trees.{Tree}
use Rattle.scope.specs.Statements.{Stmt}
use Rattle.scope.proofs.Laws.TreeRows.{rows_pass, any-rows}
use Rattle.scope.proofs.Laws.StatementRows.{stmt_rows, any_stmt}
use Rattle.scope.specs.Scopes.{NameSet, empty, contains, insert, Span, Scope, no_scope, add_local, add_unscoped, add_input, use_input, remove_all, remove_shadowed, var_exists}
use Rattle.scope.specs.Gather.{gather_local_vars}
use Rattle.scope.proofs.Laws.GatherLaws.{KeptByGathering, gather-kept}
use Rattle.scope.proofs.Laws.Below.{removed_from}
use Rattle.scope.specs.Inner.Shadowed.{InputsFound}

-- ---- locals

not_again : (spans : List Span) (u : NameSet) (x : ℕ) → contains u x ≡ false → contains (remove_all u spans) x ≡ false
not_again spans u x h =
    ⊎_elim (λ (p : contains (remove_all u spans) x ≡ true). absurd (not-both (removed_from spans u x p) h)) (λ p. p)
    (bool_cases (contains (remove_all u spans) x))

input-found : (parents : List Scope) (s : Scope) (w : Row) → var_exists parents w ≡ true → InputsFound parents s → InputsFound parents (add_input s w.name)
unfolding add_input contains insert
input-found parents s w e f x h =
    ⊎_elim (λ (q : eqb x w.name ≡ true). record { variable = w; named = sym (eqb-true x w.name q); exists = e })
    (λ (q : contains s.inputs x ≡ true). f x q) (or_cases (eqb x w.name) (contains s.inputs x) h)

found-kept : (parents : List Scope) → KeptByGathering parents (λ w. true) (InputsFound parents)
unfolding add_local add_unscoped use_input
found-kept parents = record {
  local = λ s w l f. f;
  unscoped = λ s w l f. f;
  input = λ s w q e f. input-found parents s w e f;
  flag = λ s b f. f;
}

shadowed_found : (parents : List Scope) (s : Scope) → InputsFound parents s → InputsFound parents (remove_shadowed s)
unfolding remove_shadowed
shadowed_found parents s f x h = f x (removed_from s.locals s.inputs x h)

none_found : (parents : List Scope) → InputsFound parents no_scope
unfolding contains empty
none_found parents x h = absurd (not-both h refl)

pub inputs-found : (sheet : Sheet) (parents : List Scope) (stmts : List Stmt) (outputs : List Tree)
    → InputsFound parents (gather_local_vars sheet parents stmts outputs)
inputs-found sheet parents stmts outputs =
    gather-kept sheet parents (λ w. true) refl (InputsFound parents) (found-kept parents) (none_found parents) (shadowed_found parents)
    stmts (all_always (stmt_rows (λ w. true)) (any_stmt (λ w. true) (λ w. refl)) stmts)
    outputs (all_always (rows_pass (λ w. true)) (any-rows (λ w. true) (λ w. refl)) outputs)

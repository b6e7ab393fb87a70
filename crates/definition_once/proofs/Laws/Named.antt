-- Laws of `Named`.
use mathlib.Core.Path.{◌≡◌, refl, ap, ◌∙◌}
use mathlib.Core.Bool.{true, ◌||◌}
use mathlib.Core.List.Memᴰ
use mathlib.Core.Logic.{⊎_elim}
use mathlib.Core.Option.{Option, none, some}
use Prim.Native.Nat.{ℕ, ◌<◌}
use lib.Dec.{eqb, ltb}
use borrow.Author.Tests.{eqb-true, ltb-true}
use Rattle.base.proofs.Laws.Truth.{and_left, and_right, or_cases}
use Rattle.base.specs.Lists.{all, range}
use Rattle.base.proofs.Laws.Members.{all_mem}
use Rattle.order.specs.Definitions.{Definition, Named}
use Rattle.base.proofs.Laws.ListLaws.{all_weaken, all-kept, find-some}
use Rattle.sheet.specs.Sheet.{Sheet, name_bound}
use Rattle.scope.specs.Statements.{stmts_of}
use Rattle.scope.proofs.Laws.StatementRows.{stmts_rows}
use Rattle.scope.specs.Scopes.{contains, elements, Scope, owns}
use Rattle.scope.specs.Inner.Below.{name_below, Below}
use Rattle.scope.proofs.Laws.Below.{unscoped-below, input-below, flag-below, gathered-below}
use Rattle.definition.specs.States.{QuerySchedule, schedule_of}
use Rattle.definition.specs.Inner.Queries.{definitions_in}
use Rattle.definition_once.specs.Inner.OnceWay.{analyze_query_snippet_once, schedule_once, recorded_once}
use Rattle.definition_once.specs.Inner.Own.{own_definition}
use Rattle.definition_once.proofs.Laws.Steps.{KeptByChanges}
use Rattle.definition_once.specs.Inner.Schedules.{EachSchedule}
use Rattle.definition_once.proofs.Laws.Schedules.{every_schedule}
use Rattle.definition_once.proofs.Laws.OwnNames.{own-names}
use Rattle.definition_once.specs.Inner.Named.{NamesUnder}

pub inputs-under : (n : ℕ) (sc : Scope) → Below n sc → all (λ x. ltb x n) (elements sc.inputs) ≡ true
unfolding elements
inputs-under n sc b =
    all_weaken (contains sc.inputs) (λ x. ltb x n) b.inputs (elements sc.inputs) (all-kept (contains sc.inputs) (range 0 name_bound))

below-kept : (n : ℕ) → KeptByChanges (λ x. ltb x n) (λ sc defs. Below n sc)
below-kept n = record {
  input = λ sc defs x l b. input-below n sc x l b;
  flag = λ sc defs f b. flag-below n sc f b;
  extra = λ sc defs x l b. unscoped-below n sc x l b;
  recorded = λ sc defs new e b. b;
}

-- ---- the names of recorded definitions

pub own_below : (n : ℕ) → ltb 0 n ≡ true → (sc : Scope) → Below n sc → (d : Definition) → own_definition sc d ≡ true → d.var < n
unfolding own_definition
own_below n zero sc b d h =
    ltb-true d.var n
    (⊎_elim (λ (e : eqb d.var 0 ≡ true). ap (λ (x : ℕ). ltb x n) (eqb-true d.var 0 e) ∙ zero) (λ (e : owns sc d.var ≡ true). b.own d.var e)
    (or_cases (eqb d.var 0) (owns sc d.var) (and_left (eqb d.var 0 || owns sc d.var) (all (owns sc) d.used) h)))

-- And so are those that it uses.
pub own-used : (n : ℕ) (sc : Scope) → Below n sc → (d : Definition) → own_definition sc d ≡ true → all (λ x. ltb x n) d.used ≡ true
unfolding own_definition
own-used n sc b d h =
    all_weaken (owns sc) (λ x. ltb x n) b.own d.used (and_right (eqb d.var 0 || owns sc d.var) (all (owns sc) d.used) h)

-- Where the names of all rows are below n:
module _ (n : ℕ) (some-name : ltb 0 n ≡ true) (sheet : Sheet) (names : NamesUnder n sheet) where
  -- Those of every scope are.
  pub scopes_below : EachSchedule (λ sc defs. Below n sc) (analyze_query_snippet_once sheet).schedules
  scopes_below =
      every_schedule sheet (λ x. ltb x n) names some-name (λ sc defs. Below n sc) (below-kept n) (λ sc defs. inputs-under n sc)
      (λ parents q outputs h. gathered-below n sheet parents (stmts_of sheet q) some-name (stmts_rows (name_below n) sheet names some-name q) outputs h)

  -- And every name that a query defines.
  pub recorded-named : (q : ℕ) → Named (recorded_once sheet q) n
  unfolding recorded_once schedule_once
  recorded-named q = go (schedule_of (analyze_query_snippet_once sheet).schedules q) refl
    where
      go : (o : Option QuerySchedule) → schedule_of (analyze_query_snippet_once sheet).schedules q ≡ o → Named (definitions_in o) n
      go none e d m = absurd (Memᴰ.not-nil m)
      go (some a) e d m =
          let i = (find-some _ (analyze_query_snippet_once sheet).schedules e).0 in
          own_below n some-name a.scope (scopes_below a i) d (all_mem (own_definition a.scope) a.definitions (own-names sheet a i) m)

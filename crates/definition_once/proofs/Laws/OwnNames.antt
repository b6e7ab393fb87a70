-- Laws of `OwnNames`.
use mathlib.Core.Path.{refl}
use mathlib.Core.Bool.{true}
use mathlib.Core.List.{List}
use Prim.Native.Nat.{ℕ}
use Rattle.order.specs.Definitions.{Definition}
use Rattle.base.proofs.Laws.ListLaws.{all_append, all_weaken, all_always}
use Rattle.sheet.specs.declared.Row.{Row}
use Rattle.sheet.specs.Sheet.{Sheet}
use Rattle.scope.specs.Scopes.{elements, Scope, add_unscoped, add_input, use_input}
use Rattle.definition_once.specs.Inner.OnceWay.{analyze_query_snippet_once}
use Rattle.definition_once.specs.Inner.Own.{own_definition}
use Rattle.definition_once.proofs.Laws.Own.{Grows, own_grows, grows_flag, grows_input, grows_one}
use Rattle.definition_once.proofs.Laws.Steps.{KeptByChanges}
use Rattle.definition_once.specs.Inner.Schedules.{EachSchedule}
use Rattle.definition_once.proofs.Laws.Schedules.{every_schedule}
use Rattle.definition_once.specs.Inner.OwnNames.{OwnNames}

larger : (a b : Scope) → Grows a b → (defs : List Definition) → OwnNames a defs → OwnNames b defs
larger a b g defs h = all_weaken (own_definition a) (own_definition b) (own_grows a b g) defs h

own-kept : KeptByChanges (λ x. true) OwnNames
own-kept = record {
  input = λ sc defs x l h. larger sc (add_input sc x) (grows_input x sc) defs h;
  flag = λ sc defs b h. larger sc (use_input b sc) (grows_flag b sc) defs h;
  extra = λ sc defs x l h. larger sc (add_unscoped sc x) (grows_one x sc) defs h;
  recorded = λ sc defs new e h. all_append (own_definition sc) defs new h e;
}

-- Of every sheet, and every query that is analysed.
pub own-names : (sheet : Sheet) → EachSchedule OwnNames (analyze_query_snippet_once sheet).schedules
own-names sheet =
    every_schedule sheet (λ x. true) (all_always (λ (w : Row). true) (λ w. refl) sheet.exprs) refl OwnNames own-kept (λ sc defs h. all_always (λ (x : ℕ). true) (λ x. refl) (elements sc.inputs)) (λ parents q outputs h. refl)

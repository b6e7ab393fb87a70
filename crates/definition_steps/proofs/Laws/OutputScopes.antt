-- The scope that a query's outputs stand in, in which all its names count as unscoped.
use mathlib.Core.Path.{◌≡◌, refl, sym, ap, ap₂, ◌∙◌}
use mathlib.Core.Bool.{Bool, true, false, not}
use mathlib.Core.List.{List, [], ◌∷◌, map, foldl}
use mathlib.Core.Logic.{⊎_elim}
use mathlib.Core.Option.{Option}
use Prim.Native.Nat.{ℕ}
use Rattle.base.proofs.Laws.Truth.{bool_cases}
use Rattle.base.specs.Lists.{filter}
use Rattle.base.proofs.Laws.Lists.{filter_same}
use Rattle.scope.specs.Scopes.{elements, Span, Scope, owns, add_unscoped, add_input, use_input}
use Rattle.definition.specs.States.{QuerySchedule, scope_in}
use Rattle.definition.specs.Queries.{output_scope}
use Rattle.definition_once.proofs.Laws.Own.{grows_unscoped}
use Rattle.definition.proofs.Laws.OutputOwns.{output_owns}

-- It owns what the query's scope owns.
pub output_same_owns : (sc : Scope) (x : ℕ) → owns (output_scope sc) x ≡ owns sc x
unfolding output_scope
output_same_owns sc x =
    ⊎_elim (λ (e : owns sc x ≡ true). grows_unscoped (map (λ (p : Span). p.name) sc.locals) sc x e ∙ sym e)
    (λ (e : owns sc x ≡ false). output_owns sc x e ∙ sym e) (bool_cases (owns sc x))

inputs_stay : (l : List ℕ) (sc : Scope) → (foldl add_unscoped sc l).inputs ≡ sc.inputs
unfolding add_unscoped
inputs_stay [] sc = refl
inputs_stay (x ∷ l) sc = inputs_stay l (add_unscoped sc x)

flag-stays : (l : List ℕ) (sc : Scope) → (foldl add_unscoped sc l).uses_input ≡ sc.uses_input
unfolding add_unscoped
flag-stays [] sc = refl
flag-stays (x ∷ l) sc = flag-stays l (add_unscoped sc x)

pub output_inputs : (sc : Scope) → (output_scope sc).inputs ≡ sc.inputs
unfolding output_scope
output_inputs sc = inputs_stay (map (λ (p : Span). p.name) sc.locals) sc

pub output_flag : (sc : Scope) → (output_scope sc).uses_input ≡ sc.uses_input
unfolding output_scope
output_flag sc = flag-stays (map (λ (p : Span). p.name) sc.locals) sc

-- And what is added elsewhere may be added before.
input-before : (l : List ℕ) (sc : Scope) (x : ℕ) → foldl add_unscoped (add_input sc x) l ≡ add_input (foldl add_unscoped sc l) x
unfolding add_unscoped add_input
input-before [] sc x = refl
input-before (y ∷ l) sc x = input-before l (add_unscoped sc y) x

flag-before : (l : List ℕ) (sc : Scope) (b : Bool) → foldl add_unscoped (use_input b sc) l ≡ use_input b (foldl add_unscoped sc l)
unfolding add_unscoped use_input
flag-before [] sc b = refl
flag-before (y ∷ l) sc b = flag-before l (add_unscoped sc y) b

output_input : (sc : Scope) (x : ℕ) → output_scope (add_input sc x) ≡ add_input (output_scope sc) x
unfolding output_scope add_input
output_input sc x = input-before (map (λ (p : Span). p.name) sc.locals) sc x

output_use_input : (b : Bool) (sc : Scope) → output_scope (use_input b sc) ≡ use_input b (output_scope sc)
unfolding output_scope use_input
output_use_input b sc = flag-before (map (λ (p : Span). p.name) sc.locals) sc b

output_add_inputs : (l : List ℕ) (sc : Scope) → foldl add_input (output_scope sc) l ≡ output_scope (foldl add_input sc l)
output_add_inputs [] sc = refl
output_add_inputs (x ∷ l) sc = ap (λ (a : Scope). foldl add_input a l) (sym (output_input sc x)) ∙ output_add_inputs l (add_input sc x)

-- ---- what rises from a comprehension

-- The scope after it, by the scope before and the schedule of the comprehension's query.
abbrev pub risen : Scope → Option QuerySchedule → Scope
risen sc a = foldl add_input (use_input (scope_in a).uses_input sc) (filter (λ x. not (owns sc x)) (elements (scope_in a).inputs))

pub output_risen : (sc : Scope) (a : Option QuerySchedule) → risen (output_scope sc) a ≡ output_scope (risen sc a)
output_risen sc a =
    let b = (scope_in a).uses_input in
    let l = elements (scope_in a).inputs in
    ap₂ (λ (c : Scope) (k : List ℕ). foldl add_input c k) (sym (output_use_input b sc))
    (filter_same (λ x. not (owns (output_scope sc) x)) (λ x. not (owns sc x)) (λ x. ap not (output_same_owns sc x)) l)
    ∙ output_add_inputs (filter (λ x. not (owns sc x)) l) (use_input b sc)

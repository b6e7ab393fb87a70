-- What `some .. in ..` adds.
use mathlib.Core.Bool.{not, ◌||◌, ◌&&◌}
use mathlib.Core.List.{List, [], ◌∷◌, ◌++◌, map}
use Prim.Native.Nat.{ℕ, suc, ◌+◌, ◌≤◌}
use native.Mathlib.Omega.{arith}
use lib.ListN.{length, length-map}
use Rattle.order.specs.Definitions.{Definition}
use Rattle.base.specs.Lists.{concat_map}
use Rattle.sheet.specs.declared.Row.{Row}
use Rattle.sheet.specs.Sheet.{Sheet, is_input}
use Rattle.sheet.specs.Kinds.{is_var}
use Rattle.scope.specs.Trees.{Tree, row_of}
use Rattle.scope.specs.Traverse.{leaves, vars, comprs}
use Rattle.scope.specs.Scopes.{Scope, span_of, is_local}
use Rattle.definition.specs.Uses.{define, index_definitions}
use Rattle.definition.specs.States.{index_variable, State, add_definitions, Way}
use Rattle.definition.specs.Comprs.{Mods, all_used}
use Rattle.definition.specs.SomeIn.{some_vars_in, non_vars, fail_if_some, process_non_var, process_some_in}
use Rattle.definition_once.specs.Inner.OnceWay.{Nested, once_way}
use Rattle.definition_room.specs.Inner.Sizes.{total, size}
use Rattle.definition_room.proofs.Laws.Lists.{length-filter, map_always, total-append, total-filter}
use Rattle.definition_room.specs.Inner.Leaves.{pattern_vars, bracket_vars}
use Rattle.definition_room.proofs.Laws.Leaves.{vars-append, brackets_fit, leaves-fit}
use Rattle.definition_room.specs.Inner.Adds.{below}
use Rattle.definition_room.proofs.Laws.Adds.{AddsDefinitions, Step, adds_no_definition, adds_at_most, step_at-most, end, ◌⨾◌, adds_turn, turn-fold, adds_first_uses, adds_definitions, adds_fail}
use Rattle.definition_room.proofs.Laws.Using.{define-below, adds_gather_used_vars}
use Rattle.definition_room.proofs.Laws.Recording.{AddsFor, for_at_most, for_one, lastly, ◌⨟◌, turn_for}
use Rattle.definition_room.proofs.Laws.Comprs.{KeepsFit, adds_process_comprs, adds_use_expr}

-- ---- how many

names-few : (sheet : Sheet) (sc : Scope) (ls : List Tree) → length (some_vars_in sheet sc ls) ≤ length (vars ls)
unfolding some_vars_in
names-few sheet sc ls = length-filter (λ (w : Row). is_local sc w.name && not (is_input sheet w.name)) (vars ls)

others_few : (sheet : Sheet) (sc : Scope) (ls : List Tree) → total bracket_vars (non_vars sheet sc ls) ≤ total bracket_vars ls
unfolding non_vars
others_few sheet sc ls =
    total-filter bracket_vars (λ e. not (is_var (row_of e) && (is_input sheet (row_of e).name || is_local sc (row_of e).name))) ls

-- The leaves of key and value, with their variables.
pattern-few : (key value : Tree)
    → length (vars (leaves key ++ leaves value)) + total bracket_vars (leaves key ++ leaves value) ≤ size key + size value
unfolding pattern_vars
pattern-few key value =
    omega (
      arith,
      vars-append (leaves key) (leaves value),
      total-append bracket_vars (leaves key) (leaves value),
      leaves-fit key,
      leaves-fit value,
    )

module _ (sheet : Sheet) (nested : Nested) (parents : List Scope) (keeps : KeepsFit sheet nested) (i : ℕ) (m : Mods) where
  abbrev way : Way
  way = once_way sheet nested parents

  pub adds_process_non_var : (e : Tree) → Step sheet (suc i) (bracket_vars e) (λ s. process_non_var sheet way i m s e)
  unfolding process_non_var
  adds_process_non_var e =
      step_at-most sheet (bracket_vars e)
      (adds_turn sheet (adds_gather_used_vars sheet i [] e
      ⨾ (λ t. failed t (index_definitions sheet t.scope [] i e))
      ⨾ adds_process_comprs sheet nested parents keeps (comprs e ++ m.comprs)
      ⨾ end)) (omega arith)
    where
      failed : (t : State) (defs : List Definition) → AddsDefinitions sheet (suc i) 0 t (fail_if_some defs t)
      failed t [] = adds_no_definition sheet t
      failed t (d ∷ defs) = adds_fail sheet index_variable t

  pub adds_some_vars : (names : List Row) (collection : Tree)
      → Step sheet (suc i) (length names) (λ t. add_definitions (map (λ (w : Row). define i w.name (all_used sheet way [] m collection t)) names) t)
  adds_some_vars names collection t =
      adds_at_most sheet (length names)
      (adds_definitions sheet (map (λ (w : Row). define i w.name (all_used sheet way [] m collection t)) names)
      (map_always (below (suc i)) _ (λ (w : Row). define-below i w.name (all_used sheet way [] m collection t)) names) t)
      (omega (arith, length-map names (λ (w : Row). define i w.name (all_used sheet way [] m collection t))))

  -- The variables of the pattern, what all its brackets and the collection's define, and one definition.
  pub adds_process_some_in : (key value collection : Tree) (s : State) → AddsFor sheet i (size key + (size value + size collection)) s
      (process_some_in sheet way i m (leaves key ++ leaves value) collection s)
  unfolding process_some_in
  adds_process_some_in key value collection s =
      let names = some_vars_in sheet s.scope (leaves key ++ leaves value) in
      let others = non_vars sheet s.scope (leaves key ++ leaves value) in
      let later : Mods = record { used_vars = []; comprs = m.comprs } in
      for_at_most sheet i (size key + (size value + size collection))
      (turn_for sheet i (adds_use_expr sheet nested parents keeps i [] m collection
      ⨟ adds_some_vars names collection
      ⨟ adds_first_uses sheet (map span_of names)
      ⨟ turn-fold sheet bracket_vars (process_non_var sheet way i m) adds_process_non_var others
      ⨟ lastly (λ t. for_one sheet i 0 (concat_map (λ e. all_used sheet way [] later e t) others) t)) s)
      (omega (
        arith,
        brackets_fit collection,
        pattern-few key value,
        names-few sheet s.scope (leaves key ++ leaves value),
        others_few sheet s.scope (leaves key ++ leaves value),
      ))

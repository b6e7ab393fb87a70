-- `some .. in ..`: the collection, the names that the pattern binds, and the rest of the pattern.
-- Beside: scheduler.rs, `gather_some_vars`, and `Literal::SomeIn` of `analyze_query`.
use Rattle.std.specs.Prelude.{not, ◌&&◌, ◌||◌, ℕ}
use mathlib.Core.List.{List, [], ◌∷◌, ◌++◌, map, foldl}
use Rattle.base.specs.Lists.{filter, concat_map}
use Rattle.order.specs.Definitions.{Definition}
use Rattle.sheet.specs.declared.Row.{Row}
use Rattle.sheet.specs.Sheet.{Sheet, is_input}
use Rattle.sheet.specs.Kinds.{is_var}
use Rattle.scope.specs.Trees.{Tree, row_of}
use Rattle.scope.specs.Traverse.{vars, comprs}
use Rattle.scope.specs.Scopes.{Scope, span_of, is_local}
use Rattle.definition.specs.Uses.{define, index_definitions}
use Rattle.definition.specs.States.{index_variable, State, add_first_uses, add_definitions, fail, in_turn, Way}
use Rattle.definition.specs.Using.{gather_used_vars, record_one}
use Rattle.definition.specs.Comprs.{Mods, all_used, process_comprs, use_expr}

-- `gather_some_vars`, among the leaves of a pattern: the locals, `input` apart.
unfoldable pub some_vars_in : Sheet → Scope → List Tree → List Row
some_vars_in sheet sc ls = filter (λ (w : Row). is_local sc w.name && not (is_input sheet w.name)) (vars ls)

-- And what is neither a local nor `input`.
unfoldable pub non_vars : Sheet → Scope → List Tree → List Tree
non_vars sheet sc ls =
    filter (λ e. not (is_var (row_of e) && (is_input sheet (row_of e).name || is_local sc (row_of e).name))) ls

-- 14, if a pattern's bracket would define something.
abbrev pub fail_if_some : List Definition → State → State
fail_if_some [] s = s
fail_if_some (d ∷ defs) s = fail index_variable s

module _ (sheet : Sheet) (way : Way) where
  -- A part of the pattern that is no variable, in statement i.
  unfoldable pub process_non_var : ℕ → Mods → State → Tree → State
  process_non_var i m s e =
      in_turn (gather_used_vars sheet i [] e
      ∷ (λ t. fail_if_some (index_definitions sheet t.scope [] i e) t)
      ∷ process_comprs sheet way (comprs e ++ m.comprs)
      ∷ []) s

  -- The collection, then the names, which it defines; then the rest of the pattern, whose uses are the empty name's. The modifiers' names
  -- count for the collection alone, their comprehensions for the rest of the pattern too.
  unfoldable pub process_some_in : ℕ → Mods → List Tree → Tree → State → State
  process_some_in i m pattern collection s =
      let names = some_vars_in sheet s.scope pattern in
      let others = non_vars sheet s.scope pattern in
      let later : Mods = record { used_vars = []; comprs = m.comprs } in
      in_turn (use_expr sheet way i [] m collection
      ∷ (λ t. add_definitions (map (λ (w : Row). define i w.name (all_used sheet way [] m collection t)) names) t)
      ∷ add_first_uses (map span_of names)
      ∷ (λ t. foldl (process_non_var i m) t others)
      ∷ (λ t. record_one i 0 (concat_map (λ e. all_used sheet way [] later e t) others) t)
      ∷ []) s

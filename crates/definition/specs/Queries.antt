-- A query over a way to analyse those inside it: its statements, each with its modifiers, then its outputs.
-- Beside: scheduler.rs, `analyze_query` and `analyze_output_expr`.
use mathlib.Core.List.{List, [], ◌∷◌, ◌++◌, foldl, map}
use Rattle.std.specs.Prelude.{ℕ, suc, length}
use Rattle.base.specs.Lists.{concat_map}
use Rattle.sheet.specs.Sheet.{Sheet}
use Rattle.scope.specs.Trees.{Tree, chain}
use Rattle.scope.specs.Traverse.{leaves, vars, comprs}
use Rattle.scope.specs.Paths.{get_extra_arg}
use Rattle.scope.specs.Statements.{Literal, some_vars, some_in, expr, not_expr, every, Stmt, stmts_of}
use Rattle.scope.specs.Scopes.{Scope, no_scope, add_local, Span, add_unscoped}
use Rattle.definition.specs.Uses.{used_vars}
use Rattle.definition.specs.States.{State, in_turn, Way, sound, Run, if_sound}
use Rattle.definition.specs.Using.{gather_used_vars, check_first_use, at_least_one}
use Rattle.definition.specs.Comprs.{Mods, propagate}
use Rattle.definition.specs.Exprs.{process_plain_expr, process_expr, process_call}
use Rattle.definition.specs.SomeIn.{process_some_in}

-- ---- statements (the loop of `analyze_query`)

-- What the modifiers use in a scope.
unfoldable pub mods_of : Sheet → Scope → List Tree → Mods
mods_of sheet sc mods = record { used_vars = concat_map (used_vars sheet sc []) mods; comprs = concat_map comprs mods }

module _ (sheet : Sheet) (way : Way) where
  -- `every`: its domain's uses are recorded. The body is a query below a scope of the key and the value, and nothing of it rises.
  unfoldable pub process_every : ℕ → Mods → Tree → Tree → Tree → ℕ → State → State
  process_every i m key value domain query s =
      in_turn (process_plain_expr sheet way i m domain
      ∷ (λ t. way.body (foldl add_local no_scope (vars (chain key ++ chain value))) t.scope query t)
      ∷ []) s

  -- The literal of statement i, by its form. A `some` checks first uses here, `:=` in `assign_pairing`; a `not` has no extra argument.
  unfoldable pub process_literal : ℕ → Mods → Literal → State → State
  process_literal i m (some_vars vs) s = foldl check_first_use s (vars (chain vs))
  process_literal i m (some_in key value collection) s = process_some_in sheet way i m (leaves key ++ leaves value) collection s
  process_literal i m (expr e) s = process_call sheet way (get_extra_arg sheet e) i m e s
  process_literal i m (not_expr e) s = process_expr sheet way i m e s
  process_literal i m (every key value domain query) s = process_every i m key value domain query s

  -- Statement i: its modifiers, its literal, and a definition if there is none.
  unfoldable pub process_stmt : ℕ → Stmt → State → State
  process_stmt i st s =
      in_turn ((λ t. foldl (λ u e. in_turn (gather_used_vars sheet i [] e ∷ []) u) t st.with_mods)
      ∷ (λ t. process_literal i (mods_of sheet t.scope st.with_mods) st.literal t)
      ∷ at_least_one i
      ∷ []) s

  -- Statements, the first being statement i.
  unfoldable pub process_stmts : ℕ → List Stmt → State → State
  process_stmts i [] s = s
  process_stmts i (st ∷ stmts) s = process_stmts (suc i) stmts (in_turn (process_stmt i st ∷ []) s)

-- ---- outputs, and the query

-- After the body all names of a query are seen, whatever their line: its locals count as unscoped.
unfoldable pub output_scope : Scope → Scope
output_scope sc = foldl add_unscoped sc (map (λ (p : Span). p.name) sc.locals)

-- The query's schedule enters the table.
unfoldable pub scheduled : ℕ → ℕ → State → Run → Run
scheduled q n s r = record {
  schedules = record { query = q; scope = s.scope; count = n; definitions = s.definitions } ∷ r.schedules;
  fault = sound;
}

module _ (sheet : Sheet) (way : Way) where
  -- A comprehension in an output (`analyze_value_expr`): its query is analysed, and what it takes from around this query rises.
  unfoldable pub output_compr : State → Tree → State
  output_compr s e =
      in_turn (way.compr (output_scope s.scope) e ∷ (λ t. propagate sheet way (output_scope t.scope) e t) ∷ []) s

  -- `analyze_output_expr`: the comprehensions of a key, a value or a term. Undefined variables are not looked for.
  unfoldable pub analyze_output_expr : State → Tree → State
  analyze_output_expr s t = foldl output_compr s (comprs t)

  -- `analyze_query`: the scope is gathered, the statements are processed in their order, then the outputs.
  unfoldable pub analyze_query : ℕ → List Tree → Run → Run
  analyze_query q outputs r =
      let stmts = stmts_of sheet q in
      let begin : State = record { scope = way.start stmts outputs; first_uses = []; definitions = []; run = r } in
      let s = foldl analyze_output_expr (process_stmts sheet way 0 stmts begin) outputs in
      if_sound s.run.fault (scheduled q (length stmts) s) s.run

-- What each function of the cycle does.
use Rattle.std.specs.Prelude.{◌≡◌, Bool, true, cond, ℕ}
use mathlib.Core.List.{List, ◌++◌, foldl}
use Rattle.names.specs.Inner.Names.{Names}
use Rattle.sheet.specs.declared.Statement.{Statement}
use Rattle.scope.specs.Trees.{Tree}
use Rattle.scope.specs.Paths.{get_extra_arg}
use Rattle.scope.specs.Statements.{literal_of}
use Rattle.scope.specs.Scopes.{Scope}
use Rattle.definition.specs.States.{State}
use Rattle.definition.specs.Comprs.{Mods, all_used, process_comprs, use_expr}
use Rattle.definition.specs.Exprs.{Pairing, assign_pairing, process_expr, process_call}
use Rattle.definition.specs.SomeIn.{non_vars, process_non_var, process_some_in}
use Rattle.definition.specs.Queries.{process_every, process_literal, process_stmts}
use Rattle.scope_walk.specs.Inner.Sheets.{sheet_at}
use Rattle.definition_walk.specs.Inner.Own.{Holds}
use Rattle.definition_expr.specs.declared.Using.{Using}
use Rattle.definition_literal.specs.declared.context.Context.{Context}
use Rattle.definition_literal.specs.Inner.Contexts.{Stands}
use Rattle.definition_state.specs.declared.Progress.{Progress}
use Rattle.definition_state.specs.Inner.Faults.{is_sound}
use Rattle.definition_state.specs.Inner.Frames.{guarded, Agree}
use Rattle.definition_cycle.specs.Inner.Sites.{way_by, Surrounds, RunsIn, RunsUnder}
use Rattle.definition_cycle.specs.Inner.Asks.{tree_of}
use Rattle.definition_steps.specs.Inner.Pairs.{leaves_at}
use Rattle.scope_gather.specs.Inner.Queries.{stmts_at_row}

module _ (t : List ℕ) where
  -- The comprehensions of some expressions.
  abbrev pub DoesComprs : List ℕ → List Tree → ℕ → Progress → List ℕ → List ℕ → Progress → List ℕ → List ℕ → Type 0
  DoesComprs inner cs levels = RunsIn t inner (λ parents. process_comprs (sheet_at t) (way_by t levels parents) cs)

  -- An expression with its comprehensions, and all names that it uses.
  pub record DoesUse (inner : List ℕ) (extras : Names) (e : Tree) (x : Context) (p : Progress) (firsts work : List ℕ) (r : Using) (firsts' work' : List ℕ) : Type 0 where
    pub runs : (m : Mods) → Stands t x m → (l : List ℕ) → Holds extras l
        → RunsIn t inner (λ parents. use_expr (sheet_at t) (way_by t x.levels parents) x.statement l m e) p firsts work r.progress firsts' work'
    pub names : (m : Mods) → Stands t x m → (l : List ℕ) → Holds extras l → is_sound r.progress.fault ≡ true
        → (parents : List Scope) (spans : List ℕ) (s : State) → Surrounds t inner parents s → Agree t spans p firsts work s
        → Holds r.names (all_used (sheet_at t) (way_by t x.levels parents) l m e (use_expr (sheet_at t) (way_by t x.levels parents) x.statement l m e s))

  -- Pairs of an assignment.
  abbrev pub DoesPairs : List ℕ → List Pairing → Bool → Context → Progress → List ℕ → List ℕ → Progress → List ℕ → List ℕ → Type 0
  DoesPairs inner ps check x p firsts work r firsts' work' =
      (m : Mods) → Stands t x m
      → RunsIn t inner (λ parents s. foldl (assign_pairing (sheet_at t) (way_by t x.levels parents) x.statement m check) s ps) p firsts work r firsts' work'

  -- Parts of a pattern.
  abbrev pub DoesOthers : List ℕ → List Tree → Context → Progress → List ℕ → List ℕ → Progress → List ℕ → List ℕ → Type 0
  DoesOthers inner es x p firsts work r firsts' work' =
      (m : Mods) → Stands t x m
      → RunsIn t inner (λ parents s. foldl (process_non_var (sheet_at t) (way_by t x.levels parents) x.statement m) s es) p firsts work r firsts' work'

  -- The parts of the pattern at a row that are no variables.
  abbrev pub DoesNonVars : List ℕ → ℕ → Context → Progress → List ℕ → List ℕ → Progress → List ℕ → List ℕ → Type 0
  DoesNonVars inner row x p firsts work r firsts' work' =
      (m : Mods) → Stands t x m
      → RunsIn t inner (λ parents s. foldl (process_non_var (sheet_at t) (way_by t x.levels parents) x.statement m) s (non_vars (sheet_at t) s.scope (leaves_at t row)))
      p firsts work r firsts' work'

  -- A step of a statement, for all that its modifiers stand for.
  abbrev pub DoesStep : (List Scope → Mods → State → State) → List ℕ → List ℕ → Context → Progress → List ℕ → List ℕ → Progress → List ℕ → List ℕ → Type 0
  DoesStep f outer spans x p firsts work r firsts' work' =
      (m : Mods) → Stands t x m → RunsUnder t outer spans (λ parents. f parents m) p firsts work r firsts' work'

  -- An expression, with its extra argument if `call`.
  abbrev pub expr_step : Bool → ℕ → Context → List Scope → Mods → State → State
  expr_step call row x parents m =
      guarded (λ s. cond call (process_call (sheet_at t) (way_by t x.levels parents) (get_extra_arg (sheet_at t) (tree_of t row)) x.statement m (tree_of t row) s)
      (process_expr (sheet_at t) (way_by t x.levels parents) x.statement m (tree_of t row) s))

  abbrev pub some_in_step : Statement → Context → List Scope → Mods → State → State
  some_in_step st x parents m =
      process_some_in (sheet_at t) (way_by t x.levels parents) x.statement m (leaves_at t st.first ++ leaves_at t st.second) (tree_of t st.third)

  abbrev pub every_step : Statement → Context → List Scope → Mods → State → State
  every_step st x parents m =
      process_every (sheet_at t) (way_by t x.levels parents) x.statement m (tree_of t st.first) (tree_of t st.second) (tree_of t st.third) st.query

  abbrev pub literal_step : Statement → Context → List Scope → Mods → State → State
  literal_step st x parents m =
      guarded (process_literal (sheet_at t) (way_by t x.levels parents) x.statement m (literal_of (sheet_at t) st))

  -- The statements from a row on.
  abbrev pub DoesStmts : List ℕ → List ℕ → ℕ → ℕ → ℕ → Progress → List ℕ → List ℕ → Progress → List ℕ → List ℕ → Type 0
  DoesStmts outer spans row i levels =
      RunsUnder t outer spans (λ parents. process_stmts (sheet_at t) (way_by t levels parents) i (stmts_at_row t row))

-- The code's way, beside the Rust's (`RustWay` of `definition`): each comprehension is analysed where it is met first. The code is proved
-- against it, and `original` proves that both come to the same. Nobody has to believe it.
use Rattle.std.specs.Prelude.{false, List, [], ◌∷◌, ℕ, zero, suc}
use Rattle.std.proofs.Math.Option.{Option, none, some}
use Rattle.order.specs.Definitions.{Definition}
use Rattle.base.specs.Limits.{nesting}
use Rattle.sheet.specs.Sheet.{Sheet}
use Rattle.scope.specs.Trees.{Tree, row_of, outputs_of}
use Rattle.scope.specs.Scopes.{elements, Scope, no_scope}
use Rattle.scope.specs.Gather.{gather_assigned_vars, gather_local_vars}
use Rattle.definition.specs.States.{sound, QuerySchedule, Run, State, schedule_of, scope_in, set_run, Way}
use Rattle.definition.specs.Inner.Queries.{definitions_in}
use Rattle.definition.specs.Queries.{analyze_query}

-- Query analysis at the next level: the parents, innermost in front; the query; its outputs.
abbrev pub Nested : Type 0
Nested = List Scope → ℕ → List Tree → Run → Run

-- ---- the query of a comprehension

-- Its scope, once it is analysed.
abbrev pub compr_scope : State → Tree → Scope
compr_scope s e = scope_in (schedule_of s.run.schedules (row_of e).third)

-- f, unless there is a schedule: each query is analysed at most once.
abbrev pub unless_scheduled : Option QuerySchedule → (State → State) → State → State
unless_scheduled none f s = f s
unless_scheduled (some a) f s = s

-- It is analysed below the scopes ps.
unfoldable pub analyze_compr : Nested → List Scope → Tree → State → State
analyze_compr nested ps e s =
    unless_scheduled (schedule_of s.run.schedules (row_of e).third)
    (λ t. set_run (nested ps (row_of e).third (outputs_of e) t.run) t) s

-- ---- the way

abbrev pub once_way : Sheet → Nested → List Scope → Way
once_way sheet nested parents = record {
  start = gather_local_vars sheet parents;
  extra_vars = λ arg. elements (gather_assigned_vars sheet parents false arg no_scope).unscoped;
  compr = λ sc. analyze_compr nested (sc ∷ parents);
  compr_scope = λ sc s e. compr_scope s e;
  body = λ inner sc q s. set_run (nested (inner ∷ (sc ∷ parents)) q [] s.run) s;
}

-- Query analysis with so many levels left: the one recursion over queries.
unfoldable pub analyze_once : ℕ → Sheet → Nested
analyze_once zero sheet parents q outputs r = r
analyze_once (suc levels) sheet parents q outputs r =
    analyze_query sheet (once_way sheet (λ ps q outputs r. analyze_once levels sheet ps q outputs r) parents) q outputs r

-- `analyze_query_snippet`: the outer query, row 1. Nesting goes down to level 8.
unfoldable pub analyze_query_snippet_once : Sheet → Run
analyze_query_snippet_once sheet = analyze_once nesting sheet [] 1 [] (record { schedules = []; fault = sound })

-- ---- what is read off

-- The schedule of a query; none if it is never analysed.
unfoldable pub schedule_once : Sheet → ℕ → Option QuerySchedule
schedule_once sheet q = schedule_of (analyze_query_snippet_once sheet).schedules q

-- The definitions that a query recorded; none if it is never analysed.
unfoldable pub recorded_once : Sheet → ℕ → List Definition
recorded_once sheet q = definitions_in (schedule_once sheet q)

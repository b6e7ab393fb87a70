-- The Rust's way: every comprehension is analysed wherever it is met, again if it was analysed before. `analyze_query` of the Rust reads
-- the table of schedules only for the query that it has just analysed. So what it does is given by the parents, the query and the
-- outputs: a run of its own, whose schedules go in front of those that are there.
-- Beside: scheduler.rs, `analyze_query_snippet`.
use Rattle.std.specs.Prelude.{false, List, [], ◌∷◌, ◌++◌, ℕ, zero, suc}
use Rattle.std.proofs.Math.Option.{Option}
use Rattle.base.specs.Limits.{nesting}
use Rattle.sheet.specs.Sheet.{Sheet}
use Rattle.scope.specs.Trees.{Tree, row_of, outputs_of}
use Rattle.scope.specs.Scopes.{elements, Scope, no_scope}
use Rattle.scope.specs.Gather.{gather_assigned_vars, gather_local_vars}
use Rattle.definition.specs.States.{sound, QuerySchedule, Run, State, schedule_of, scope_in, set_run, Way}
use Rattle.definition.specs.Queries.{analyze_query}

-- A run that has written nothing.
abbrev pub no_run : Run
no_run = record { schedules = []; fault = sound }

-- What a query's analysis comes to, from parents (the innermost in front), query and outputs.
abbrev pub Answer : Type 0
Answer = List Scope → ℕ → List Tree → Run

-- A nested run's schedules enter the table, and its fault is the analysis's.
unfoldable pub take : Run → State → State
take o s = set_run (record { schedules = o.schedules ++ s.run.schedules; fault = o.fault }) s

-- The Rust analyses a list of comprehensions below one copy of the scope, made before the first of them; here each is analysed below the scope
-- as it is then. Inputs and the input flag alone differ, and nothing nested reads these of its parents (`analyze-same` in `original`).
unfoldable pub rust_way : Sheet → Answer → List Scope → Way
rust_way sheet answer parents = record {
  start = gather_local_vars sheet parents;
  extra_vars = λ arg. elements (gather_assigned_vars sheet parents false arg no_scope).unscoped;
  compr = λ sc e. take (answer (sc ∷ parents) (row_of e).third (outputs_of e));
  compr_scope = λ sc s e. scope_in (schedule_of (answer (sc ∷ parents) (row_of e).third (outputs_of e)).schedules (row_of e).third);
  body = λ inner sc q. take (answer (inner ∷ (sc ∷ parents)) q []);
}

-- Query analysis with so many levels left: the one recursion over queries. That the levels suffice is `levels_suffice` in `promises`.
unfoldable pub analyze : ℕ → Sheet → Answer
analyze zero sheet parents q outputs = no_run
analyze (suc levels) sheet parents q outputs =
    analyze_query sheet (rust_way sheet (λ ps q outputs. analyze levels sheet ps q outputs) parents) q outputs no_run

-- `analyze_query_snippet`: the outer query, row 1. Nesting goes down to level 8.
unfoldable pub analyze_query_snippet : Sheet → Run
analyze_query_snippet sheet = analyze nesting sheet [] 1 []

-- ---- what is read off

-- The schedule of a query, the last that was written; none if it is never analysed.
unfoldable pub schedule_in : Sheet → ℕ → Option QuerySchedule
schedule_in sheet q = schedule_of (analyze_query_snippet sheet).schedules q

-- The outer query: nothing exists around it, and all queries have room in work.
use mathlib.Core.Path.{◌≡◌, refl, sym, ap, ◌∙◌, subst}
use mathlib.Core.List.{List, [], ◌++◌}
use mathlib.Core.Logic.{inl, inr}
use Prim.Native.Nat.{ℕ, ◌≤◌}
use native.Mathlib.Omega.{arith}
use lib.Dec.{leb}
use lib.ListN.{length, replicate, get_or-replicate}
use borrow.Author.Tests.{lt-leb}
use Rattle.std.specs.Prelude.{Option}
use Rattle.base.specs.Limits as limits
use Rattle.names_width.specs.declared.Width.{Width}
use Rattle.names_width.specs.Inner.Widths as limit
use Rattle.scope.specs.Trees.{Tree}
use Rattle.scope.specs.Scopes.{var_exists}
use Rattle.definition.specs.States.{sound, Run}
use Rattle.definition_once.specs.Inner.OnceWay.{analyze_once, analyze_query_snippet_once}
use Rattle.scope_walk.specs.Inner.Sheets.{sheet_at, Accepted, query_count}
use Rattle.scope_state.specs.Inner.Chains.{chain_at}
use Rattle.scope_state.proofs.Laws.Chains.{chain-none}
use Rattle.scope_state.specs.Inner.Outers.{Outer}
use Rattle.definition_state.specs.declared.Fault.{Fault}
use Rattle.answer_text.specs.Inner.Stored.{Stored}
use Rattle.definition_state.specs.Inner.Table.{answers_of, Table}
use Rattle.definition_cycle.specs.Inner.Analysed.{Analysed}
use Rattle.definition_cycle.specs.Inner.Asks.{AsksQuery}
use Rattle.definition_cycle.proofs.Laws.Budgets.{all_fit, work-fits}
use Rattle.definition_cycle.specs.Inner.Queries.{DoesQuery}

-- A number past all lines for every name.
pub nothing-around : Outer (replicate limits.per_name 65536) []
unfolding var_exists
nothing-around = record {
  has = λ w low lined.
      sym (ap (λ (n : ℕ). leb n w.line) (get_or-replicate limits.per_name w.name 65536 0 low) ∙ lt-leb 65536 w.line lined);
}

-- No schedule, no fault.
abbrev fresh : Run
fresh = record { schedules = []; fault = sound }

module _ (v : Width) (t : List ℕ) (ok : Accepted t) (outer : List ℕ) (none : Outer outer []) (work : List ℕ) (table : Table v t work []) where
  pub outer-asks : 1 ≤ query_count t → limit.work v ≤ length work → AsksQuery t v outer work 1 0 0
  outer-asks some enough = inr (record {
    from = omega arith;
    to = some;
    key-low = omega arith;
    value_low = omega arith;
    key-lies = inl refl;
    value-lies = inl refl;
    room = work-fits v (length work) _ enough (all_fit t ok some);
    parents = [];
    beneath = none;
    schedules = [];
    table = table;
  })

  outputs : (chain_at t 0 ++ chain_at t 0) ≡ []
  outputs = rw (chain-none t ok)

  snippet_is : analyze_once 8 (sheet_at t) [] 1 (chain_at t 0 ++ chain_at t 0) fresh ≡ analyze_query_snippet_once (sheet_at t)
  unfolding analyze_query_snippet_once
  snippet_is = ap (λ (es : List Tree). analyze_once 8 (sheet_at t) [] 1 es fresh) outputs

  pub snippet_analysed : (r : Option Fault) (w : List ℕ) → DoesQuery t v outer 1 0 0 8 work r w → Analysed v t w r
  snippet_analysed r w does =
      let end = does.one (λ z. omega (arith, z)) [] fresh none refl table in
      record {
        fault = end.0 ∙ ap (λ (u : Run). u.fault) snippet_is;
        stored = λ e. subst (λ (u : Run). Stored v (answers_of v w) u.schedules) snippet_is (end.1 (ap (λ (u : Run). u.fault) snippet_is ∙ e)).stored;
      }

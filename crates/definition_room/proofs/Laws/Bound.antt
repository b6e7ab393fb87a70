-- Laws of `Bound`.
use mathlib.Core.Path.{◌≡◌}
use mathlib.Core.List.{List}
use mathlib.Core.Logic.{◌⊎◌, inl, inr}
use Prim.Native.Nat.{ℕ, suc, ◌+◌, ◌≤◌, ◌<◌}
use native.Mathlib.Omega.{arith}
use Rattle.base.proofs.Laws.Truth.{lt_cases}
use Rattle.sheet.specs.declared.Counts.{Counts}
use Rattle.sheet.specs.Inner.Records.{Within}
use Rattle.sheet.specs.declared.Special.{Special}
use Rattle.sheet.specs.Naming.{namings}
use Rattle.sheet.specs.Faults.{first_line}
use Rattle.sheet_facts.proofs.Laws.Accepted.{FineRows, fine-rows}
use Rattle.sheet.specs.Inner.Sheet.{sheet_of}
use Rattle.scope.specs.Statements.{Stmt, stmts_of}
use Rattle.definition_room.specs.Inner.Sizes.{total, weight}
use Rattle.definition_room.proofs.Laws.Once.{expr-once, statement-once}
use Rattle.definition_room.specs.Inner.Sums.{sum_to}
use Rattle.definition_room.proofs.Laws.Sums.{sum_mono, sum_add, sum_suc, sum_at, named-once}
use Rattle.definition_room.proofs.Laws.Worth.{query_worth, statement_worth, expr_worth, worth-namings}
use Rattle.definition_room.proofs.Laws.Costs.{cost_at, cost_from, cost-none, cost-row, cost-query}
use Rattle.definition_room.proofs.Laws.Rows.{size_at, size_none, size-row, weight-at, weight_no_query}
use Rattle.definition_room.proofs.Laws.Named.{expr_value, statement_value, expr-worth, statement-worth, next-worth, query-worth}
use Rattle.sheet.specs.Inner.Rows.{in_tables}
use Rattle.definition_room.specs.Inner.Bound.{most_recorded}

module _ (c : Counts) (x : Special) (t : List ℕ) (ok : FineRows c (in_tables t)) where
  -- Each expression is worth the size of its tree.
  abbrev exprs_by : ℕ → ℕ
  exprs_by = expr_value c (size_at c x t)

  -- The expressions that statements name are different ones.
  wholes_fit : sum_to (statement_worth c exprs_by t) c.statements ≤ c.exprs
  unfolding expr_value
  wholes_fit =
      omega (
        arith,
        worth-namings c exprs_by t,
        named-once 160 (size_at c x t) c.exprs (namings c (in_tables t)) (expr-once c t ok),
        sum_mono (size_at c x t) (λ r. suc (expr_worth c exprs_by t r)) c.exprs
            (λ r a b. omega (arith, size-row c x t r a b, expr-worth c (size_at c x t) t (size_none c x t) ok r a b)),
        sum_suc (expr_worth c exprs_by t) c.exprs,
      )

  -- So are the statements that queries name: whatever they cost, it is no more than all statements do.
  module _ (cost : Stmt → ℕ) where
    -- Each statement is worth what those from it on cost.
    abbrev statements_by : ℕ → ℕ
    statements_by = statement_value c (cost_from cost c x t)

    pub costs_fit : sum_to (λ q. total cost (stmts_of (sheet_of c x t) q)) c.queries ≤ sum_to (cost_at cost c x t) c.statements
    unfolding statement_value
    costs_fit =
        omega (
          arith,
          worth-namings c statements_by t,
          named-once 32 (cost_from cost c x t) c.statements (namings c (in_tables t)) (statement-once c t ok),
          sum_mono (cost_from cost c x t) (λ s. cost_at cost c x t s + statement_worth c statements_by t s) c.statements
              (λ s a b. omega (arith, cost-row cost c x t s a b, next-worth c (cost_from cost c x t) t (cost-none cost c x t) ok s a b)),
          sum_add (cost_at cost c x t) (statement_worth c statements_by t) c.statements,
          sum_mono (λ q. total cost (stmts_of (sheet_of c x t) q)) (query_worth c statements_by t) c.queries
              (λ q a b. omega (arith, cost-query cost c x t q a b, query-worth c (cost_from cost c x t) t (cost-none cost c x t) ok q a b)),
        )

  -- All queries together weigh no more than the sheet has expressions and statements.
  pub weights_fit : sum_to (λ q. total weight (stmts_of (sheet_of c x t) q)) c.queries ≤ c.exprs + c.statements
  weights_fit =
      omega (
        arith,
        costs_fit weight,
        sum_mono (cost_at weight c x t) (λ s. suc (statement_worth c exprs_by t s)) c.statements
            (λ s a b. omega (arith, weight-at c x t s, statement-worth c (size_at c x t) t (size_none c x t) ok s a b)),
        sum_suc (statement_worth c exprs_by t) c.statements,
        wholes_fit,
      )

  -- So does each.
  pub weight-fits : (q : ℕ) → total weight (stmts_of (sheet_of c x t) q) ≤ c.exprs + c.statements
  weight-fits q = go (lt_cases 0 q) (lt_cases c.queries q)
    where
      go : (0 < q) ⊎ (q ≤ 0) → (c.queries < q) ⊎ (q ≤ c.queries) → total weight (stmts_of (sheet_of c x t) q) ≤ c.exprs + c.statements
      go (inr l) h = omega (arith, weight_no_query c x t q (λ a b. omega arith))
      go (inl l) (inl h) = omega (arith, weight_no_query c x t q (λ a b. omega arith))
      go (inl l) (inr h) = omega (arith, weights_fit, sum_at (λ q. total weight (stmts_of (sheet_of c x t) q)) c.queries q l h)

-- A query weighs no more.
pub weight_in_bounds : (c : Counts) (x : Special) (t : List ℕ) → Within c → first_line c (in_tables t) ≡ 0 → (q : ℕ)
    → total weight (stmts_of (sheet_of c x t) q) ≤ most_recorded
weight_in_bounds c x t few none q = omega (arith, weight-fits c x t (fine-rows c (in_tables t) none) q, few.few-exprs, few.few-statements)

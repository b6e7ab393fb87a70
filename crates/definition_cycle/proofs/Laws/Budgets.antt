-- Laws of `Budgets`.
use mathlib.Core.Path.{◌≡◌, refl}
use mathlib.Core.List.{List, [], ◌∷◌}
use Prim.Native.Nat.{ℕ, ◌+◌, ◌-◌, ◌≤◌, ◌<◌}
use native.Mathlib.Omega.{arith}
use lib.ListN.{length}
use Rattle.base.specs.Limits as limits
use Rattle.names_width.specs.declared.Width.{Width}
use Rattle.names_width.specs.declared.Width.TheVariants.{Two, Eight}
use Rattle.names_width.specs.Inner.Widths.{work}
use Rattle.sheet_facts.proofs.Laws.Accepted.{fine-rows}
use Rattle.scope.specs.Statements.{Stmt, stmts_of}
use Rattle.definition_room.specs.Inner.Sizes.{total, weight}
use Rattle.definition_room.specs.Inner.Sums.{sum_to}
use Rattle.definition_room.proofs.Laws.Sums.{sum_mono, sum_add, sum_longer, sum_last}
use Rattle.definition_room.proofs.Laws.Bound.{weights_fit}
use Rattle.definition_room.proofs.Laws.Bases.{counts-fit}
use Rattle.scope_walk.specs.Inner.Sheets.{counts_at, special_at, sheet_at, Accepted, query_count}
use Rattle.definition_state.specs.Inner.Frames.{Room}
use Rattle.sheet.specs.Inner.Rows.{in_tables}
use Rattle.definition_cycle.specs.Inner.Budgets.{budget, budget_at, above_at}

budget_sum : (l : List Stmt) → total budget l ≡ total weight l + length l
budget_sum [] = refl
budget_sum (st ∷ l) = omega (arith, budget_sum l)

module _ (t : List ℕ) where
  -- All queries of a sheet together.
  budgets_fit : Accepted t → sum_to (budget_at t) (query_count t) ≤ limits.most_definitions + limits.most_statements
  unfolding sheet_at
  budgets_fit ok =
      let c = counts_at t in
      let x = special_at t in
      omega (
        arith,
        sum_mono (budget_at t) (λ q. total weight (stmts_of (sheet_at t) q) + length (stmts_of (sheet_at t) q)) (query_count t)
            (λ q a b. omega (arith, budget_sum (stmts_of (sheet_at t) q))),
        sum_add (λ q. total weight (stmts_of (sheet_at t) q)) (λ q. length (stmts_of (sheet_at t) q)) (query_count t),
        weights_fit c x t (fine-rows c (in_tables t) ok.fine),
        counts-fit c x t ok.fine,
        ok.within.few-exprs,
        ok.within.few-statements,
      )

  -- A nested query, and those above it, are above the one that it is nested in.
  pub above_later_at : (q v : ℕ) → q < v → v ≤ query_count t → budget_at t v + above_at t v ≤ above_at t q
  above_later_at q v l h =
      omega (
        arith,
        sum_last (budget_at t) v (omega arith),
        sum_longer (budget_at t) q (v - 1) (omega arith),
        sum_longer (budget_at t) v (query_count t) h,
      )

  -- The outer query and all others.
  pub all_fit : Accepted t → 1 ≤ query_count t → budget_at t 1 + above_at t 1 ≤ limits.most_definitions + limits.most_statements
  all_fit ok l =
      omega (arith, budgets_fit ok, sum_last (budget_at t) 1 (omega arith), sum_longer (budget_at t) 1 (query_count t) l)

-- So many rows, and the answers, have room in the work that a call is lent.
pub work-fits : (v : Width) (n k : ℕ) → work v ≤ n → k ≤ limits.most_definitions + limits.most_statements → Room v n k
work-fits Two n k long few = record { enough = omega arith; rows = omega arith }
work-fits Eight n k long few = record { enough = omega arith; rows = omega arith }

-- What the statements of a sheet cost, from row to row of the tables, whatever a statement costs.
use mathlib.Core.Path.{◌≡◌, refl, ap, ◌∙◌}
use mathlib.Core.List.{List, ◌∷◌}
use mathlib.Core.Logic.{◌⊎◌, inl, inr}
use Prim.Native.Nat.{ℕ, zero, suc, ◌+◌, ◌≤◌, ◌<◌}
use native.Mathlib.Omega.{arith}
use lib.ListN.{length, get_or, get_or-eq_default}
use Rattle.base.proofs.Laws.Truth.{lt_cases}
use Rattle.sheet.specs.declared.Counts.{Counts}
use Rattle.sheet.specs.declared.Statement.{Statement}
use Rattle.sheet.specs.Inner.Records.{statement_row_at, first_at}
use Rattle.sheet.specs.declared.Special.{Special}
use Rattle.sheet.specs.Sheet.{Sheet, no_statement}
use Rattle.sheet.specs.Inner.Sheet.{rows_to, sheet_of}
use Rattle.scope.specs.Trees.{tree_at, chain}
use Rattle.scope.specs.Statements.{Stmt, literal_of, stmts_from, stmts_of}
use Rattle.scope_walk.proofs.Laws.RowTrees.{rows-length, rows_at}
use Rattle.definition_room.specs.Inner.Sizes.{total}

-- A row with its expressions.
unfoldable pub stmt_of : Sheet → Statement → Stmt
stmt_of sheet st = record { literal = literal_of sheet st; with_mods = chain (tree_at sheet st.with) }

module _ (cost : Stmt → ℕ) (sheet : Sheet) where
  -- Longer lists cost no less.
  stmts_more : (most r : ℕ) → total cost (stmts_from sheet most r) ≤ total cost (stmts_from sheet (suc most) r)
  unfolding stmts_from
  stmts_more zero r = omega arith
  stmts_more (suc most) zero = omega arith
  stmts_more (suc most) (suc r) = omega (arith, stmts_more most (get_or sheet.statements r no_statement).next)

  stmts_row : (most r : ℕ) → total cost (stmts_from sheet most (suc r))
      ≤ cost (stmt_of sheet (get_or sheet.statements r no_statement))
      + total cost (stmts_from sheet most (get_or sheet.statements r no_statement).next)
  unfolding stmts_from stmt_of
  stmts_row zero r = omega arith
  stmts_row (suc most) r = omega (arith, stmts_more most (get_or sheet.statements r no_statement).next)

module _ (cost : Stmt → ℕ) (c : Counts) (x : Special) (t : List ℕ) where
  abbrev sheet : Sheet
  sheet = sheet_of c x t

  -- ---- statements

  -- What statement s costs.
  abbrev pub cost_at : ℕ → ℕ
  cost_at s = cost (stmt_of sheet (statement_row_at t s))

  -- What the statements from row s on cost.
  unfoldable pub cost_from : ℕ → ℕ
  cost_from s = total cost (stmts_from sheet (length sheet.statements) s)

  pub cost-none : cost_from 0 ≡ 0
  unfolding cost_from stmts_from
  cost-none = go (length sheet.statements)
    where
      go : (n : ℕ) → total cost (stmts_from sheet n 0) ≡ 0
      go zero = refl
      go (suc n) = refl

  row-statements : (s : ℕ) → suc s ≤ c.statements → get_or sheet.statements s no_statement ≡ statement_row_at t (suc s)
  unfolding sheet_of
  row-statements s h = rows_at (statement_row_at t) c.statements s no_statement h

  cost-suc : (s : ℕ) → cost_from (suc s)
      ≤ cost (stmt_of sheet (get_or sheet.statements s no_statement)) + cost_from (get_or sheet.statements s no_statement).next
  unfolding cost_from
  cost-suc s = stmts_row cost sheet (length sheet.statements) s

  -- From a statement on, that is its own cost, and that of the rest.
  pub cost-row : (s : ℕ) → 1 ≤ s → s ≤ c.statements → cost_from s ≤ cost_at s + cost_from (statement_row_at t s).next
  cost-row zero a b = absurd (omega arith)
  cost-row (suc s) a b =
      let e = row-statements s b in
      omega (
        arith,
        cost-suc s,
        ap (λ (st : Statement). cost (stmt_of sheet st)) e,
        ap (λ (st : Statement). cost_from st.next) e,
      )

  -- ---- queries

  cost-from : (q : ℕ) → total cost (stmts_of sheet q) ≡ cost_from (get_or (0 ∷ sheet.queries) q 0)
  unfolding stmts_of cost_from
  cost-from q = refl

  row-queries : (q : ℕ) → suc q ≤ c.queries → get_or sheet.queries q 0 ≡ first_at t (suc q)
  unfolding sheet_of
  row-queries q h = rows_at (first_at t) c.queries q 0 h

  no_queries : (q : ℕ) → c.queries ≤ q → get_or sheet.queries q 0 ≡ 0
  unfolding sheet_of
  no_queries q h = get_or-eq_default (rows_to (first_at t) c.queries) 0 (omega (arith, rows-length (first_at t) c.queries))

  -- A query costs what its statements do.
  pub cost-query : (q : ℕ) → 1 ≤ q → q ≤ c.queries → total cost (stmts_of sheet q) ≡ cost_from (first_at t q)
  cost-query zero a b = absurd (omega arith)
  cost-query (suc q) a b = cost-from (suc q) ∙ ap cost_from (row-queries q b)

  -- There are no other queries.
  pub cost_no_query : (q : ℕ) → (1 ≤ q → q ≤ c.queries → ⊥) → total cost (stmts_of sheet q) ≡ 0
  cost_no_query zero h = cost-from 0 ∙ cost-none
  cost_no_query (suc q) h = cost-from (suc q) ∙ ap cost_from (no_queries q (beyond (lt_cases q c.queries))) ∙ cost-none
    where
      beyond : (q < c.queries) ⊎ (c.queries ≤ q) → c.queries ≤ q
      beyond (inl l) = absurd (h (omega arith) l)
      beyond (inr l) = l

-- The sums over all rows of an accepted sheet. Each row but the first query is named at most once: so the number of the first query is at most 1.
use mathlib.Core.Path.{◌≡◌, refl, ap}
use mathlib.Core.List.{List}
use mathlib.Core.Logic.{◌⊎◌, inl, inr}
use Prim.Native.Nat.{ℕ, zero, suc, ◌+◌, ◌-◌, ◌≤◌, ◌<◌}
use native.Mathlib.Omega.{arith}
use borrow.Author.Tests.{eq-eqb, ne_eqb}
use Rattle.base.proofs.Laws.Truth.{eq_cases}
use Rattle.sheet.specs.declared.Counts.{Counts}
use Rattle.sheet.specs.declared.Special.{Special}
use Rattle.sheet.specs.Naming.{namings}
use Rattle.sheet_facts.proofs.Laws.Accepted.{FineRows}
use Rattle.sheet_facts.specs.Inner.Facts.{SheetFacts}
use Rattle.sheet.specs.Inner.Sheet.{sheet_of}
use Rattle.scope.specs.Statements.{stmts_of}
use Rattle.definition_room.specs.Inner.Sizes.{total}
use Rattle.definition_room.specs.Inner.Sums.{sum_to}
use Rattle.definition_room.proofs.Laws.Sums.{sum_mono, sum_add, named-once}
use Rattle.definition_room.proofs.Laws.Worth.{query_worth, statement_worth, expr_worth, worth-namings}
use Rattle.definition_room.proofs.Laws.Once.{expr-once, statement-once, query-once}
use Rattle.definition_room.proofs.Laws.Named.{expr_value, statement_value, expr-worth, statement-worth, next-worth, query-worth}
use Rattle.original.proofs.Laws.Counting.{is}
use Rattle.original.proofs.Laws.Tally.{stmt_tally}
use Rattle.original.proofs.Laws.QueryFields.{query_value, compr-worth}
use Rattle.original.proofs.Laws.RowTallies.{tally_at, tally_from, tally-none, tally-row, tally_from-none, from_row, of_query}
use Rattle.sheet.specs.Inner.Rows.{in_tables}

-- ---- sums

-- The first row, and the others.
sum_first : (g : ℕ → ℕ) (n : ℕ) → sum_to g (suc n) ≡ g 1 + sum_to (λ q. g (suc q)) n
unfolding sum_to
sum_first g zero = omega arith
sum_first g (suc n) = omega (arith, sum_first g n)

-- Below row k none is row k.
none_below : (k n : ℕ) → n < k → sum_to (is k) n ≡ 0
unfolding sum_to
none_below k zero h = refl
none_below k (suc n) h = rw (ne_eqb k (suc n) (λ e. omega arith)) (omega (arith, none_below k n (omega arith)))

-- At most one row is row k.
one_at_most : (k n : ℕ) → sum_to (is k) n ≤ 1
unfolding sum_to
one_at_most k zero = omega arith
one_at_most k (suc n) = go (eq_cases k (suc n)) (one_at_most k n)
  where
    go : (k ≡ suc n) ⊎ (k ≡ suc n → ⊥) → sum_to (is k) n ≤ 1 → sum_to (is k) n + is k (suc n) ≤ 1
    go (inl e) ih = rw (eq-eqb k (suc n) e) (omega (arith, none_below k n (omega arith)))
    go (inr ne) ih = rw (ne_eqb k (suc n) ne) (omega arith)

-- ---- the rows of a sheet

module _ (c : Counts) (x : Special) (t : List ℕ) (facts : SheetFacts c (in_tables t)) (ok : FineRows c (in_tables t)) (g : ℕ → ℕ) where
  -- Each query but the first is worth its number.
  abbrev queries_by : ℕ → ℕ
  queries_by = query_value c g

  -- Each statement is worth the tally from it on.
  abbrev statements_by : ℕ → ℕ
  statements_by = statement_value c (tally_from c x t g)

  -- Each expression is worth the tally of its tree.
  abbrev exprs_by : ℕ → ℕ
  exprs_by = expr_value c (tally_at c x t g)

  -- The expressions are worth what they name.
  exprs-fit : sum_to (tally_at c x t g) c.exprs ≤ sum_to (expr_worth c queries_by t) c.exprs + sum_to (expr_worth c exprs_by t) c.exprs
  exprs-fit =
      omega (
        arith,
        sum_mono (tally_at c x t g) (λ r. expr_worth c queries_by t r + expr_worth c exprs_by t r) c.exprs
            (λ r a b. omega (
              arith,
              tally-row c x t g facts r a b,
              compr-worth c g t ok r a b,
              expr-worth c (tally_at c x t g) t (tally-none c x t g facts) ok r a b,
            )),
        sum_add (expr_worth c queries_by t) (expr_worth c exprs_by t) c.exprs,
      )

  -- The statements are worth what they name.
  statements-fit : sum_to (tally_from c x t g) c.statements
      ≤ sum_to (statement_worth c exprs_by t) c.statements
      + (sum_to (statement_worth c queries_by t) c.statements + sum_to (statement_worth c statements_by t) c.statements)
  statements-fit =
      omega (
        arith,
        sum_mono (tally_from c x t g)
            (λ s. statement_worth c exprs_by t s + (statement_worth c queries_by t s + statement_worth c statements_by t s)) c.statements
            (λ s a b. omega (
              arith,
              from_row c x t g facts ok s a b,
              statement-worth c (tally_at c x t g) t (tally-none c x t g facts) ok s a b,
              next-worth c (tally_from c x t g) t (tally_from-none c x t g facts) ok s a b,
            )),
        sum_add (statement_worth c exprs_by t) (λ s. statement_worth c queries_by t s + statement_worth c statements_by t s) c.statements,
        sum_add (statement_worth c queries_by t) (statement_worth c statements_by t) c.statements,
      )

  -- The queries that are named are worth no more than all but the first.
  queries-named : sum_to (statement_worth c queries_by t) c.statements + sum_to (expr_worth c queries_by t) c.exprs
      ≤ sum_to (λ q. g (suc q)) (c.queries - 1)
  unfolding query_value
  queries-named =
      omega (
        arith,
        worth-namings c (query_value c g) t,
        named-once 1 (λ q. g (suc q)) (c.queries - 1) (namings c (in_tables t)) (λ q a b. query-once c t ok (1 + q) (omega arith) (omega arith)),
      )

  -- The statements that are named are worth no more than all.
  statements-named : sum_to (query_worth c statements_by t) c.queries + sum_to (statement_worth c statements_by t) c.statements
      ≤ sum_to (tally_from c x t g) c.statements
  unfolding statement_value
  statements-named =
      omega (
        arith,
        worth-namings c (statement_value c (tally_from c x t g)) t,
        named-once 32 (tally_from c x t g) c.statements (namings c (in_tables t)) (statement-once c t ok),
      )

  -- Nor the expressions.
  exprs-named : sum_to (statement_worth c exprs_by t) c.statements + sum_to (expr_worth c exprs_by t) c.exprs
      ≤ sum_to (tally_at c x t g) c.exprs
  unfolding expr_value
  exprs-named =
      omega (
        arith,
        worth-namings c (expr_value c (tally_at c x t g)) t,
        named-once 160 (tally_at c x t g) c.exprs (namings c (in_tables t)) (expr-once c t ok),
      )

  -- If each query is at most its own naming and what its statements name, the first is at most 1.
  pub first_at-most : 1 ≤ c.queries → (k : ℕ) → ((q : ℕ) → g q ≤ is k q + total (stmt_tally g) (stmts_of (sheet_of c x t) q)) → g 1 ≤ 1
  first_at-most some k few =
      let n : c.queries ≡ suc (c.queries - 1) = omega arith in
      omega (
        arith,
        ap (sum_to g) n,
        sum_first g (c.queries - 1),
        sum_mono g (λ q. is k q + query_worth c statements_by t q) c.queries
            (λ q a b. omega (
              arith,
              few q,
              of_query c x t g facts q a b,
              query-worth c (tally_from c x t g) t (tally_from-none c x t g facts) ok q a b,
            )),
        sum_add (is k) (query_worth c statements_by t) c.queries,
        one_at_most k c.queries,
        exprs-fit,
        statements-fit,
        queries-named,
        statements-named,
        exprs-named,
      )

-- In an accepted sheet each row is named at most once; of the queries, each but the first.
use mathlib.Core.Path.{◌≡◌, refl}
use mathlib.Core.Bool.{true}
use mathlib.Core.List.{List, [], ◌∷◌}
use Prim.Native.Nat.{ℕ, ◌≤◌, ◌<◌}
use native.Mathlib.Omega.{arith}
use lib.ListN.{length}
use Rattle.base.proofs.Laws.Truth.{not-both}
use Rattle.sheet.specs.declared.Counts.{Counts}
use Rattle.sheet.specs.Naming.{query_row, statement_row, expr_row, Naming, namers, named_so, namings}
use Rattle.sheet.specs.Faults.{is_named_so}
use Rattle.sheet_facts.proofs.Laws.Accepted.{FineRows}
use Rattle.sheet_facts.proofs.Laws.Rows.{fine-expr_row, fine-statement_row, fine-query_row}
use Rattle.sheet.specs.Inner.Rows.{in_tables}

-- A row that is named so is named once.
once : (k : ℕ) (ns : List Naming) → named_so k ns ≡ true → length ns ≤ 1
once k [] h = omega arith
once k (x ∷ []) h = omega arith
once k (x ∷ y ∷ ns) h = absurd (not-both h refl)

module _ (c : Counts) (t : List ℕ) (ok : FineRows c (in_tables t)) where
  -- Each expression.
  pub expr-once : (r : ℕ) → 1 ≤ r → r ≤ c.exprs → length (namers (expr_row r) (namings c (in_tables t))) ≤ 1
  unfolding is_named_so
  expr-once r a b = once (expr_row r) (namers (expr_row r) (namings c (in_tables t))) (fine-expr_row c (in_tables t) r (ok.fine-expr r a b)).named

  -- Each statement.
  pub statement-once : (s : ℕ) → 1 ≤ s → s ≤ c.statements → length (namers (statement_row s) (namings c (in_tables t))) ≤ 1
  unfolding is_named_so
  statement-once s a b =
      once (statement_row s) (namers (statement_row s) (namings c (in_tables t))) (fine-statement_row c (in_tables t) s (ok.fine-statement s a b)).named

  -- Each query but the first.
  pub query-once : (q : ℕ) → 1 < q → q ≤ c.queries → length (namers (query_row q) (namings c (in_tables t))) ≤ 1
  unfolding is_named_so
  query-once q a b =
      once (query_row q) (namers (query_row q) (namings c (in_tables t))) ((fine-query_row c (in_tables t) q (ok.fine-query q (omega arith) b)).named (λ e. omega arith))

-- Rows that are not at fault.
use mathlib.Core.Path.{◌≡◌, ap}
use mathlib.Core.Bool.{true, false, not, ◌&&◌, ◌||◌}
use mathlib.Core.List.{Memᴰ}
use Prim.Native.Nat.{ℕ, ◌≤◌}
use native.Mathlib.Omega.{arith}
use lib.Dec.{eqb, ltb}
use borrow.Author.Tests.{eqb-false, ne_eqb, ltb-false, not-false}
use Rattle.base.proofs.Laws.Truth.{neither_left, neither_right}
use Rattle.sheet.specs.declared.Counts.{Counts}
use Rattle.sheet.specs.Sheet.{Rows}
use Rattle.sheet.specs.Naming.{Entry, query_row, statement_row, expr_row, expr_entries, statement_entries, query_entries}
use Rattle.sheet.specs.Inner.Enclosing.{enclosing_query}
use Rattle.sheet.specs.Faults.{is_named_so, is_member, expr_fault, statement_fault, query_fault}
use Rattle.sheet_facts.proofs.Laws.Neither.{not-second}
use Rattle.sheet_facts.specs.Inner.FineFields.{Fine}
use Rattle.sheet_facts.proofs.Laws.FineFields.{fine-fields}

module _ (c : Counts) (t : Rows) where
  pub record FineExpr (r : ℕ) : Type 0 where
    pub named : is_named_so c t (expr_row r) ≡ true
    pub kind_low : 1 ≤ (t.expr r).kind
    pub kind_high : (t.expr r).kind ≤ 22
    pub fields : {e : Entry} → Memᴰ e (expr_entries c t (is_member c t r) r) → Fine c t (enclosing_query c t (expr_row r)) e

  pub record FineStatement (s : ℕ) : Type 0 where
    pub named : is_named_so c t (statement_row s) ≡ true
    pub form-low : 1 ≤ (t.statement s).form
    pub form-high : (t.statement s).form ≤ 5
    pub fields : {e : Entry} → Memᴰ e (statement_entries c t s) → Fine c t (enclosing_query c t (statement_row s)) e

  pub record FineQuery (q : ℕ) : Type 0 where
    pub named : (q ≡ 1 → ⊥) → is_named_so c t (query_row q) ≡ true
    pub fields : {e : Entry} → Memᴰ e (query_entries c t q) → Fine c t q e

  pub fine-expr_row : (r : ℕ) → expr_fault c t r ≡ false → FineExpr r
  unfolding expr_fault
  fine-expr_row r h =
      let kind = (t.expr r).kind in
      let rest = neither_right (not (is_named_so c t (expr_row r))) _ h in
      let known = neither_left (eqb kind 0 || ltb 22 kind) _ rest in
      let some = eqb-false kind 0 (neither_left (eqb kind 0) _ known) in
      record {
        named = not-false _ (neither_left (not (is_named_so c t (expr_row r))) _ h);
        kind_low = omega arith;
        kind_high = ltb-false 22 kind (neither_right (eqb kind 0) _ known);
        fields = fine-fields c t (enclosing_query c t (expr_row r)) _ (neither_right (eqb kind 0 || ltb 22 kind) _ rest);
      }

  pub fine-statement_row : (s : ℕ) → statement_fault c t s ≡ false → FineStatement s
  unfolding statement_fault
  fine-statement_row s h =
      let form = (t.statement s).form in
      let rest = neither_right (not (is_named_so c t (statement_row s))) _ h in
      let known = neither_left (eqb form 0 || ltb 5 form) _ rest in
      let some = eqb-false form 0 (neither_left (eqb form 0) _ known) in
      record {
        named = not-false _ (neither_left (not (is_named_so c t (statement_row s))) _ h);
        form-low = omega arith;
        form-high = ltb-false 5 form (neither_right (eqb form 0) _ known);
        fields = fine-fields c t (enclosing_query c t (statement_row s)) _ (neither_right (eqb form 0 || ltb 5 form) _ rest);
      }

  pub fine-query_row : (q : ℕ) → query_fault c t q ≡ false → FineQuery q
  unfolding query_fault
  fine-query_row q h = record {
    named = λ ne.
        not-false _ (not-second (not (eqb q 1)) _ (neither_left (not (eqb q 1) && not (is_named_so c t (query_row q))) _ h) (ap not (ne_eqb q 1 ne)));
    fields = fine-fields c t q _ (neither_right (not (eqb q 1) && not (is_named_so c t (query_row q))) _ h);
  }

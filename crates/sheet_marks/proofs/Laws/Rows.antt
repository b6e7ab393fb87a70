-- Laws of `Rows`.
use mathlib.Core.Path.{◌≡◌, refl, sym}
use mathlib.Core.Bool.{Bool, true, false}
use mathlib.Core.Logic.{◌⊎◌, inl, inr}
use mathlib.Core.List.{List}
use Prim.Native.Nat.{ℕ, suc, ◌+◌, ◌/◌, ◌%◌, ◌≤◌, ◌<◌}
use native.Mathlib.Numerals.{add-one}
use native.Mathlib.Omega.{arith}
use lib.Dec.{eqb}
use lib.ListN.{get_or}
use Rattle.base.specs.Limits as limits
use Rattle.base.specs.Inner.Sizes as sizes
use Rattle.base.proofs.Laws.Truth.{bool_cases}
use Rattle.sheet.specs.declared.Counts.{Counts}
use Rattle.sheet.specs.declared.Row.{Row}
use Rattle.sheet.specs.Inner.Records.{Within, expr_at, statement_row_at}
use Rattle.sheet.specs.declared.fields.Field.{Field}
use Rattle.sheet.specs.Fields.{a_query, kind_of}
use Rattle.sheet_fields.proofs.Laws.Tables.{name_in_kind}
use Rattle.sheet.specs.Naming.{query_row, statement_row, expr_row, place_of, expr_entries, statement_entries, query_entries, namers, in_chain, by_queries, by_statements, by_exprs}
use Rattle.sheet_marks.proofs.Laws.Codes.{code-member}
use Rattle.sheet_marks.specs.Inner.Marks.{Marks, name_work, row_work}
use Rattle.sheet_marks.proofs.Laws.Marks.{marks-row, target-bound}
use Rattle.sheet_marks.proofs.Laws.Steps.{target_of-name, name-none}
use Rattle.sheet.specs.Inner.Rows.{in_tables}
use Rattle.sheet_marks.specs.Inner.Rows.{parts_of, fields_of, part_of}

module _ (c : Counts) where
  module _ (t : List ℕ) where
    pub parts_are : (member : Bool) (r : ℕ) → parts_of c member (expr_at t r) r ≡ expr_entries c (in_tables t) member r
    unfolding expr_entries
    parts_are member r = refl

    pub fields_are : (r : ℕ) → fields_of (statement_row_at t r) r ≡ statement_entries c (in_tables t) r
    unfolding statement_entries
    fields_are r = refl

-- ---- one row more

module _ (c : Counts) (t : List ℕ) (within : Within c) where
  pub next-query : (q : ℕ) (w : List ℕ) → Marks (by_queries c (in_tables t) q) w
      → Marks (by_queries c (in_tables t) (q + 1)) (row_work c (query_row (q + 1)) (query_entries c (in_tables t) (q + 1)) w)
  unfolding by_queries
  next-query q w m = rw (add-one q) (marks-row c within (query_row (suc q)) (query_entries c (in_tables t) (suc q)) (by_queries c (in_tables t) q) w m)

  pub next-statement : (s : ℕ) (w : List ℕ) → Marks (by_statements c (in_tables t) s) w
      → Marks (by_statements c (in_tables t) (s + 1)) (row_work c (statement_row (s + 1)) (fields_of (statement_row_at t (s + 1)) (s + 1)) w)
  unfolding by_statements
  next-statement s w m =
      rw (fields_are c t (s + 1), add-one s)
      (marks-row c within (statement_row (suc s)) (statement_entries c (in_tables t) (suc s)) (by_statements c (in_tables t) s) w m)

  -- The rows before have told whether the row is a member of a chain.
  pub next-expr : (r : ℕ) (w : List ℕ) → r < limits.most_expressions → Marks (by_exprs c (in_tables t) r) w
      → Marks (by_exprs c (in_tables t) (r + 1))
      (row_work c (expr_row (r + 1)) (parts_of c (eqb (get_or w (160 + (r + 1)) 0 / 4 % 2) 1) (expr_at t (r + 1)) (r + 1)) w)
  unfolding by_exprs
  next-expr r w h m =
      rw (m.code (160 + (r + 1)) (omega arith), code-member (160 + (r + 1)) (namers (160 + (r + 1)) (by_exprs c (in_tables t) r)))
      (rw (parts_are c t (in_chain (160 + (r + 1)) (namers (160 + (r + 1)) (by_exprs c (in_tables t) r))) (r + 1), add-one r)
      (marks-row c within (expr_row (suc r)) (expr_entries c (in_tables t) (in_chain (expr_row (suc r)) (namers (expr_row (suc r)) (by_exprs c (in_tables t) r))) (suc r)) (by_exprs c (in_tables t) r) w m))

-- What one row does to the marks, for a loop that stands at the row.
pub next-row : (P : ℕ → List ℕ → Type 0) (f : ℕ → List ℕ → List ℕ) (r before after : ℕ) (w u : List ℕ)
    → (P before w → P (before + 1) (f (before + 1) w)) → before + 1 ≡ r → after ≡ r → u ≡ f r w → P before w → P after u
next-row P f r before after w u step b a e m = rw (a, e, sym b) (step m)

-- Where a part lies is one of the rows.
pub place-bound : (c : Counts) → Within c → (f : Field) (x : Row) (r : ℕ) → r ≤ limits.most_expressions → place_of c f x.third r ≤ sizes.named_rows
unfolding place_of
place-bound c within f x r h = go (bool_cases f.term)
  where
    go : (f.term ≡ true) ⊎ (f.term ≡ false) → place_of c f x.third r ≤ sizes.named_rows
    go (inl p) = rw p (target-bound c within a_query x.third)
    go (inr p) = rw p (omega arith)

-- ---- the fields of a row one after the other

-- The `name` comes first, and names no row.
pub unnamed-first : (c : Counts) (x : Row) (r : ℕ) (w : List ℕ) → w ≡ name_work c (expr_row r) (part_of c x r (kind_of x.kind).name x.name) w
unnamed-first c x r w =
    let named = (kind_of x.kind).name in
    name-none c (expr_row r) (part_of c x r named x.name) w 0 (target_of-name c named x.name (name_in_kind x.kind)) refl

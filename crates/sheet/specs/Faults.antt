-- Question 6: which rows are at fault, and the first line at fault.
-- Beside: document 01, Sheet and Questions.
use Rattle.std.specs.Prelude.{Bool, false, not, cond, ◌&&◌, ◌||◌, List, [], ◌∷◌, ℕ, zero, suc, eqb, leb, ltb, get_or}
use Rattle.sheet.specs.declared.Counts.{Counts}
use Rattle.sheet.specs.declared.Builtin.{Builtin}
use Rattle.base.specs.Limits.{most_arity, nesting}
use Rattle.sheet.specs.Sheet.{Rows}
use Rattle.sheet.specs.declared.fields.Field.{Field}
use Rattle.sheet.specs.Fields.{limit_of, for_queries}
use Rattle.sheet.specs.Naming.{Entry, query_row, statement_row, expr_row, expr_entries, statement_entries, query_entries, namers, named_so, in_chain, namings}
use Rattle.sheet.specs.Nesting.{enclosing, level, is_var_at, all_vars, ends_odd}
use Rattle.sheet.specs.Form.{built_ins_at, exprs_at, statements_at, queries_at, line_or}

module _ (c : Counts) (t : Rows) where
  -- ---- a field that holds number v

  -- Is the row, or a member of the chain, no Var though it should be one?
  abbrev pub not_var : Field → ℕ → Bool
  not_var f v = f.var && not (cond f.chain (all_vars c t v) (is_var_at c t v))

  -- Does a chain of keys and values lack the last value?
  abbrev pub unpaired : Field → ℕ → Bool
  unpaired f v = f.pairs && ends_odd c t v

  -- Is query v, which the field nests in query q, not larger, or is query q as deep as a query may be? Row 1 is larger than no query's.
  abbrev pub misnested : Field → ℕ → ℕ → Bool
  misnested f v q = for_queries f.section && (leb v q || (eqb v 1 || leb nesting (level c t q)))

  -- Is the field at fault, in a row that lies in query q?
  unfoldable pub field_fault : ℕ → Entry → Bool
  field_fault q e =
      let f = e.field in
      let v = e.value in
      cond (eqb v 0) f.set (ltb (limit_of c f.section) v || (not_var f v || (unpaired f v || misnested f v q)))

  unfoldable pub entries_fault : ℕ → List Entry → Bool
  entries_fault q [] = false
  entries_fault q (e ∷ es) = field_fault q e || entries_fault q es

  -- ---- the rows

  -- Is row k, of a section other than the built-ins, named so?
  unfoldable pub is_named_so : ℕ → Bool
  is_named_so k = named_so k (namers k (namings c t))

  unfoldable pub is_member : ℕ → Bool
  is_member r = in_chain (expr_row r) (namers (expr_row r) (namings c t))

  unfoldable pub expr_fault : ℕ → Bool
  expr_fault r =
      not (is_named_so (expr_row r)) || ((eqb (t.expr r).kind 0 || ltb 22 (t.expr r).kind)
      || entries_fault (get_or (enclosing c t) (expr_row r) 0) (expr_entries c t (is_member r) r))

  unfoldable pub statement_fault : ℕ → Bool
  statement_fault s =
      not (is_named_so (statement_row s)) || ((eqb (t.statement s).form 0 || ltb 5 (t.statement s).form)
      || entries_fault (get_or (enclosing c t) (statement_row s) 0) (statement_entries c t s))

  -- Nothing names row 1.
  unfoldable pub query_fault : ℕ → Bool
  query_fault q = (not (eqb q 1) && not (is_named_so (query_row q))) || entries_fault q (query_entries c t q)

  -- ---- built-ins

  abbrev pub same_path : Builtin → Builtin → Bool
  same_path a b = eqb a.first b.first && (eqb a.second b.second && eqb a.third b.third)

  -- Has one of the first n built-ins the path?
  unfoldable pub path_before : ℕ → Builtin → Bool
  path_before zero b = false
  path_before (suc n) b = same_path (t.builtin (suc n)) b || path_before n b

  -- No `first`, or a part after none.
  abbrev pub gap : Builtin → Bool
  gap b = eqb b.first 0 || (eqb b.second 0 && not (eqb b.third 0))

  abbrev pub beyond_names : Builtin → Bool
  beyond_names b = ltb c.names b.first || (ltb c.names b.second || ltb c.names b.third)

  unfoldable pub builtin_fault : ℕ → Bool
  builtin_fault zero = false
  builtin_fault (suc r) =
      let b = t.builtin (suc r) in
      ltb most_arity b.arity || (gap b || (beyond_names b || path_before r b))

-- ---- the first line at fault

-- The first of n rows from r on that is at fault, or 0.
unfoldable pub first_at_fault : (ℕ → Bool) → ℕ → ℕ → ℕ
first_at_fault fault r zero = 0
first_at_fault fault r (suc n) = cond (fault r) r (first_at_fault fault (suc r) n)

module _ (c : Counts) where
  abbrev pub listed : List ℕ
  listed = c.names ∷ c.builtins ∷ c.exprs ∷ c.statements ∷ c.queries ∷ []

  -- The first line at fault, in the order of the sheet, or 0.
  unfoldable pub first_line : Rows → ℕ
  first_line t =
      line_or listed built_ins_at (first_at_fault (builtin_fault c t) 1 c.builtins)
      (line_or listed exprs_at (first_at_fault (expr_fault c t) 1 c.exprs)
      (line_or listed statements_at (first_at_fault (statement_fault c t) 1 c.statements)
      (line_or listed queries_at (first_at_fault (query_fault c t) 1 c.queries) 0)))

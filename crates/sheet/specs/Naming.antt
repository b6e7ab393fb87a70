-- Question 6: which rows name a row, and which rows are named so, exactly once and by a smaller row of their section.
-- Beside: document 01, Sheet (the paragraph behind the lists).
use Rattle.std.specs.Prelude.{Bool, cond, ◌&&◌, false, ◌||◌, Option, Some, None, List, [], ◌∷◌, ◌++◌, ℕ, ◌+◌, zero, suc, eqb, leb, ltb}
use Rattle.base.specs.Limits as limits
use Rattle.sheet.specs.declared.Counts.{Counts}
use Rattle.sheet.specs.Sheet.{Rows}
use Rattle.sheet.specs.declared.fields.Section.{Section}
use Rattle.sheet.specs.declared.fields.Section.TheVariants as section
use Rattle.sheet.specs.declared.fields.Field.{Field}
use Rattle.sheet.specs.Fields.{limit_of, absent, a_chain, a_statement, a_query, or0, kind_of, form_of}
use Rattle.base.specs.Lists.{filter}

-- ---- one numbering for the rows that are named
-- Queries come first, then statements, then expressions: queries and statements name statements, statements and expressions name expressions.
-- So "by a smaller row where both are in one section" is "by a smaller row", but for queries, which no query names. Row 0 is none.

abbrev pub query_row : ℕ → ℕ
query_row q = q

abbrev pub statement_row : ℕ → ℕ
statement_row s = limits.most_queries + s

abbrev pub expr_row : ℕ → ℕ
expr_row r = limits.most_queries + limits.most_statements + r

abbrev pub is_query : ℕ → Bool
is_query k = leb k limits.most_queries

-- Row n of a section. A name is no row that is named.
abbrev pub row_in : Option Section → ℕ → ℕ
row_in None n = 0
row_in (Some section.Name) n = 0
row_in (Some section.Expression) n = expr_row n
row_in (Some section.Statement) n = statement_row n
row_in (Some section.Query) n = query_row n

-- `next` is for members of chains.
abbrev pub next_field : Bool → Field
next_field member = cond member (or0 a_chain) absent

-- ---- the fields of each row, with what each holds and names

-- A field of a row: what it holds, its number, and where the row that it names lies: in a query, or where another row lies.
pub record Entry : Type 0 where
  pub field : Field
  pub value : ℕ
  pub place : ℕ

module _ (c : Counts) where
  -- Does the field's number stand for a row?
  abbrev pub in_range : Field → ℕ → Bool
  in_range f v = ltb 0 v && leb v (limit_of c f.section)

  -- The row that a field names, or 0.
  unfoldable pub target : Field → ℕ → ℕ
  target f v = cond (in_range f v) (row_in f.section v) 0

  -- A comprehension's term, key and value lie in its query, which its third field names, and any other part where its whole lies.
  unfoldable pub place_of : Field → ℕ → ℕ → ℕ
  place_of f third r = cond f.term (target a_query third) (expr_row r)

  module _ (t : Rows) where
    abbrev pub expr_entry : ℕ → Field → ℕ → Entry
    expr_entry r f v = record { field = f; value = v; place = place_of f (t.expr r).third r }

    unfoldable pub expr_entries : Bool → ℕ → List Entry
    expr_entries member r =
        let x = t.expr r in
        let holds = kind_of x.kind in
        expr_entry r holds.name x.name ∷ expr_entry r holds.first x.first ∷ expr_entry r holds.second x.second
        ∷ expr_entry r holds.third x.third ∷ expr_entry r (next_field member) x.next ∷ []

    abbrev pub statement_entry : ℕ → Field → ℕ → Entry
    statement_entry s f v = record { field = f; value = v; place = statement_row s }

    -- `with` and `next` are every statement's.
    unfoldable pub statement_entries : ℕ → List Entry
    statement_entries s =
        let x = t.statement s in
        let holds = form_of x.form in
        statement_entry s holds.query x.query ∷ statement_entry s holds.first x.first ∷ statement_entry s holds.second x.second
        ∷ statement_entry s holds.third x.third ∷ statement_entry s (or0 a_chain) x.with ∷ statement_entry s (or0 a_statement) x.next ∷ []

    unfoldable pub query_entries : ℕ → List Entry
    query_entries q = record { field = or0 a_statement; value = t.query q; place = query_row q } ∷ []

-- ---- namings

-- Row `by` names row `to`, which by that lies at `place`; `chain`: as the member of a chain.
pub record Naming : Type 0 where
  pub by : ℕ
  pub to : ℕ
  pub place : ℕ
  pub chain : Bool

-- ---- a row and the namings of it

-- Those that name row k.
unfoldable pub namers : ℕ → List Naming → List Naming
namers k ns = filter (λ x. eqb x.to k) ns

-- By a smaller row, or a query, which only rows of other sections name.
abbrev pub upwards : ℕ → ℕ → Bool
upwards by k = is_query k || ltb by k

-- Is row k named so, by these namings of it?
abbrev pub named_so : ℕ → List Naming → Bool
named_so k [] = false
named_so k (x ∷ []) = upwards x.by k
named_so k (x ∷ y ∷ xs) = false

-- Is it a member of a chain, by these namings of it? Only a smaller row makes it one.
unfoldable pub in_chain : ℕ → List Naming → Bool
in_chain k [] = false
in_chain k (x ∷ xs) = (x.chain && upwards x.by k) || in_chain k xs

-- ---- the namings

module _ (c : Counts) where
  -- What a field of row k names: at most one row.
  unfoldable pub entry_naming : ℕ → Entry → List Naming
  entry_naming k e =
      let to = target c e.field e.value in
      cond (eqb to 0) [] (record { by = k; to = to; place = e.place; chain = e.field.chain } ∷ [])

  unfoldable pub row_namings : ℕ → List Entry → List Naming
  row_namings k [] = []
  row_namings k (e ∷ es) = entry_naming k e ++ row_namings k es

  module _ (t : Rows) where
    -- Those by the first q queries.
    unfoldable pub by_queries : ℕ → List Naming
    by_queries zero = []
    by_queries (suc q) = by_queries q ++ row_namings (query_row (suc q)) (query_entries c t (suc q))

    -- Those by the queries and the first s statements.
    unfoldable pub by_statements : ℕ → List Naming
    by_statements zero = by_queries c.queries
    by_statements (suc s) = by_statements s ++ row_namings (statement_row (suc s)) (statement_entries c t (suc s))

    -- Those by the queries, the statements and the first r expressions. The rows before tell whether a row is a member of a chain.
    unfoldable pub by_exprs : ℕ → List Naming
    by_exprs zero = by_statements c.statements
    by_exprs (suc r) =
        let ns = by_exprs r in
        let k = expr_row (suc r) in
        ns ++ row_namings k (expr_entries c t (in_chain k (namers k ns)) (suc r))

    -- All of them.
    unfoldable pub namings : List Naming
    namings = by_exprs c.exprs

-- What an analysis of an accepted sheet may rely on.
use Rattle.std.specs.Prelude.{◌≡◌, ◌⊎◌, ℕ, ◌+◌, ◌≤◌, ◌<◌}
use Rattle.sheet.specs.declared.Counts.{Counts}
use Rattle.sheet.specs.Sheet.{Rows}
use Rattle.sheet.specs.declared.fields.Field.{Field}
use Rattle.sheet.specs.Fields.{expr_section, kind_of, form_of}
use Rattle.sheet.specs.Naming.{statement_row, expr_row, expr_entry, statement_entry}
use Rattle.sheet.specs.Nesting.{parent, level}
use Rattle.sheet_facts.specs.Inner.FineFields.{Fine}
use Rattle.sheet.specs.Inner.Enclosing.{enclosing_query}
use Rattle.sheet_facts.specs.Inner.Levels.{NestedIn}

module _ (c : Counts) (t : Rows) where
  -- The row lies in a query of the sheet.
  abbrev pub Lying : ℕ → Type 0
  Lying k = (1 ≤ enclosing_query c t k) × (enclosing_query c t k ≤ c.queries)

  -- A `next`, of a section of n rows: 0, or a larger row. So chains end.
  abbrev pub Onward : ℕ → ℕ → ℕ → Type 0
  Onward n r next = (next ≡ 0) ⊎ ((r < next) × (next ≤ n))

  -- A field of expression r: what `Fine` says, and that a part comes after its whole.
  pub record Part (r : ℕ) (f : Field) (v : ℕ) : Type 0 where
    pub fine : Fine c t (enclosing_query c t (expr_row r)) (expr_entry c t r f v)
    pub later : f.section ≡ expr_section → 1 ≤ v → r < v

  -- `Fine` says of each field that it is set where it must be, in range, and, of a query, larger than the one that the row lies in.
  pub record ExprFacts (r : ℕ) : Type 0 where
    pub kind_low : 1 ≤ (t.expr r).kind
    pub kind_high : (t.expr r).kind ≤ 22
    pub lying : Lying (expr_row r)
    pub name : Part r (kind_of (t.expr r).kind).name (t.expr r).name
    pub in_first : Part r (kind_of (t.expr r).kind).first (t.expr r).first
    pub in_second : Part r (kind_of (t.expr r).kind).second (t.expr r).second
    pub in_third : Part r (kind_of (t.expr r).kind).third (t.expr r).third
    pub next : Onward c.exprs r (t.expr r).next

  -- A field of statement s.
  abbrev pub WholePart : ℕ → Field → ℕ → Type 0
  WholePart s f v = Fine c t (enclosing_query c t (statement_row s)) (statement_entry c t s f v)

  pub record StatementFacts (s : ℕ) : Type 0 where
    pub form-low : 1 ≤ (t.statement s).form
    pub form-high : (t.statement s).form ≤ 5
    pub lying : Lying (statement_row s)
    pub in_query : WholePart s (form_of (t.statement s).form).query (t.statement s).query
    pub in_first : WholePart s (form_of (t.statement s).form).first (t.statement s).first
    pub in_second : WholePart s (form_of (t.statement s).form).second (t.statement s).second
    pub in_third : WholePart s (form_of (t.statement s).form).third (t.statement s).third
    pub in_with : (t.statement s).with ≤ c.exprs
    pub next : Onward c.statements s (t.statement s).next

  pub record QueryFacts (q : ℕ) : Type 0 where
    pub in_first : t.query q ≤ c.statements
    pub nested : 1 < q → NestedIn c t q
    pub next-deeper : 1 < q → level c t q ≡ level c t (parent c t q) + 1

  pub record SheetFacts : Type 0 where
    pub expr : (r : ℕ) → 1 ≤ r → r ≤ c.exprs → ExprFacts r
    pub statement : (s : ℕ) → 1 ≤ s → s ≤ c.statements → StatementFacts s
    pub query : (q : ℕ) → 1 ≤ q → q ≤ c.queries → QueryFacts q
    pub outer-level : level c t 1 ≡ 1

-- Question 6: what the fields of a row hold, by its kind or form, a line each. An unknown kind or form lists none.
-- Beside: document 01, Sheet (the list of kinds and of forms).
use Rattle.std.specs.Prelude.{Bool, true, false, Option, Some, None, List, [], ◌∷◌, ℕ, get_or}
use Rattle.sheet.specs.declared.Counts.{Counts}
use Rattle.sheet.specs.declared.fields.Section.{Section}
use Rattle.sheet.specs.declared.fields.Section.TheVariants as section
use Rattle.sheet.specs.declared.fields.Field.{Field}
use Rattle.sheet.specs.declared.fields.KindFields.{KindFields}
use Rattle.sheet.specs.declared.fields.FormFields.{FormFields}

-- ---- the section whose rows a field's numbers stand for; none where the field is not listed

abbrev pub name_section : Option Section
name_section = Some section.Name

abbrev pub expr_section : Option Section
expr_section = Some section.Expression

abbrev pub statement_section : Option Section
statement_section = Some section.Statement

abbrev pub query_section : Option Section
query_section = Some section.Query

-- How many rows a section has. Nothing has none.
abbrev pub limit_of : Counts → Option Section → ℕ
limit_of c None = 0
limit_of c (Some section.Name) = c.names
limit_of c (Some section.Expression) = c.exprs
limit_of c (Some section.Statement) = c.statements
limit_of c (Some section.Query) = c.queries

-- Do the numbers stand for queries?
abbrev pub for_queries : Option Section → Bool
for_queries None = false
for_queries (Some section.Name) = false
for_queries (Some section.Expression) = false
for_queries (Some section.Statement) = false
for_queries (Some section.Query) = true

-- ---- what a field holds

-- Nothing: the field is not listed, and is 0.
abbrev pub absent : Field
absent = record { section = None; set = false; term = false; chain = false; var = false; pairs = false }

-- A row of a section; it is set.
abbrev pub a_row : Option Section → Field
a_row s = record { section = s; set = true; term = false; chain = false; var = false; pairs = false }

abbrev pub a_name : Field
a_name = a_row name_section

-- An expression that lies where its whole does.
abbrev pub a_part : Field
a_part = a_row expr_section

-- A comprehension's term, key or value, which lies in the comprehension's query.
abbrev pub a_term : Field
a_term = record { section = expr_section; set = true; term = true; chain = false; var = false; pairs = false }

abbrev pub a_var : Field
a_var = record { section = expr_section; set = true; term = false; chain = false; var = true; pairs = false }

-- The first row of a chain; of a chain of Var; of one that alternates key and value.
abbrev pub a_chain : Field
a_chain = record { section = expr_section; set = true; term = false; chain = true; var = false; pairs = false }

abbrev pub a_chain_of_vars : Field
a_chain_of_vars = record { section = expr_section; set = true; term = false; chain = true; var = true; pairs = false }

abbrev pub a_chain_of_pairs : Field
a_chain_of_pairs = record { section = expr_section; set = true; term = false; chain = true; var = false; pairs = true }

abbrev pub a_statement : Field
a_statement = a_row statement_section

abbrev pub a_query : Field
a_query = a_row query_section

-- The same, or 0.
abbrev pub or0 : Field → Field
or0 f = record { section = f.section; set = false; term = f.term; chain = f.chain; var = f.var; pairs = f.pairs }

-- ---- the kinds

abbrev a_kind : Field → Field → Field → Field → KindFields
a_kind n f s t = record { name = n; first = f; second = s; third = t }

abbrev pub no_kind : KindFields
no_kind = a_kind absent absent absent absent

-- Name, first, second, third.
unfoldable pub kinds : List KindFields
kinds =
    no_kind  -- 0
    ∷ a_kind (or0 a_name) absent absent absent  -- 1 String
    ∷ a_kind absent absent absent absent  -- 2 RawString
    ∷ a_kind absent absent absent absent  -- 3 Number
    ∷ a_kind absent absent absent absent  -- 4 Bool
    ∷ a_kind absent absent absent absent  -- 5 Null
    ∷ a_kind a_name absent absent absent  -- 6 Var
    ∷ a_kind absent (or0 a_chain) absent absent  -- 7 Array
    ∷ a_kind absent (or0 a_chain) absent absent  -- 8 Set
    ∷ a_kind absent (or0 a_chain_of_pairs) absent absent  -- 9 Object
    ∷ a_kind absent a_term absent a_query  -- 10 ArrayCompr
    ∷ a_kind absent a_term absent a_query  -- 11 SetCompr
    ∷ a_kind absent a_term a_term a_query  -- 12 ObjectCompr
    ∷ a_kind absent a_part (or0 a_chain) absent  -- 13 Call
    ∷ a_kind absent a_part absent absent  -- 14 UnaryExpr
    ∷ a_kind a_name a_part absent absent  -- 15 RefDot
    ∷ a_kind absent a_part a_part absent  -- 16 RefBrack
    ∷ a_kind absent a_part a_part absent  -- 17 BinExpr
    ∷ a_kind absent a_part a_part absent  -- 18 BoolExpr
    ∷ a_kind absent a_part a_part absent  -- 19 ArithExpr
    ∷ a_kind absent a_part a_part absent  -- 20 AssignExpr `Eq`
    ∷ a_kind absent a_part a_part absent  -- 21 AssignExpr `ColEq`
    ∷ a_kind absent (or0 a_part) a_part a_part  -- 22 Membership
    ∷ []

unfoldable pub kind_of : ℕ → KindFields
kind_of k = get_or kinds k no_kind

-- ---- the forms

abbrev a_form : Field → Field → Field → Field → FormFields
a_form f s t q = record { first = f; second = s; third = t; query = q }

abbrev pub no_form : FormFields
no_form = a_form absent absent absent absent

-- First, second, third, query. `with` and `next` are every form's.
unfoldable pub forms : List FormFields
forms =
    no_form  -- 0
    ∷ a_form a_chain_of_vars absent absent absent  -- 1 SomeVars
    ∷ a_form (or0 a_part) a_part a_part absent  -- 2 SomeIn
    ∷ a_form a_part absent absent absent  -- 3 Expr
    ∷ a_form a_part absent absent absent  -- 4 NotExpr
    ∷ a_form (or0 a_var) a_var a_part a_query  -- 5 Every
    ∷ []

unfoldable pub form_of : ℕ → FormFields
form_of f = get_or forms f no_form

-- What each function of the cycle asks of where it is called.
use Rattle.std.specs.Prelude.{◌≡◌, true, false, List, [], ◌∷◌, ◌⊎◌, ℕ, zero, suc, ◌+◌, ◌*◌, ◌≤◌, ◌<◌, length}
use Rattle.base.specs.Limits as limits
use Rattle.base.specs.Lists.{all}
use Rattle.names_width.specs.declared.Width.{Width}
use Rattle.names_width.specs.Inner.Widths as Widths
use Rattle.answer_blocks.specs.Inner.Layout.{answers_size}
use Rattle.sheet.specs.declared.Row.{Row}
use Rattle.sheet.specs.declared.Statement.{Statement}
use Rattle.sheet.specs.Inner.Records.{statement_row_at}
use Rattle.scope.specs.Trees.{Tree, tree_at}
use Rattle.scope.specs.Statements.{literal_of}
use Rattle.scope.specs.Scopes.{Scope}
use Rattle.definition.specs.States.{sound, QuerySchedule}
use Rattle.definition.specs.Exprs.{Pairing, pair, pairings}
use Rattle.definition_room.specs.Inner.Sizes.{total, size, literal_size}
use Rattle.definition_room.specs.Inner.Adds.{below}
use Rattle.definition_room.specs.Inner.Lying.{StatementLies}
use Rattle.scope_walk.specs.Inner.Sheets.{counts_at, sheet_at, Accepted, name_count, expr_count, query_count, statement_count}
use Rattle.scope_walk.specs.Inner.Exprs.{expr_by}
use Rattle.scope_state.specs.Inner.Outers.{Outer}
use Rattle.scope_gather.specs.Inner.Queries.{stmts_left, stmts_at_row}
use Rattle.definition_literal.specs.declared.context.Context.{Context}
use Rattle.definition_state.specs.declared.Progress.{Progress}
use Rattle.definition_state.specs.Inner.Table.{Table}
use Rattle.definition_state.specs.Inner.Frames.{Room}
use Rattle.definition_comprs.specs.Inner.Lists.{ListedComprs}
use Rattle.definition_cycle.specs.Inner.Budgets.{budget, budget_at, above_at}
use Rattle.definition_cycle.specs.Inner.Sites.{LiesIn, Inside, Under}

module _ (t : List ℕ) where
  abbrev pub tree_of : ℕ → Tree
  tree_of row = tree_at (sheet_at t) row

  -- ---- what is lent has an element for each name; `Asks` is what a function asks besides

  -- On the expression at a row, or none.
  pub record OnRow (inner firsts : List ℕ) (row : ℕ) (Asks : Type 0) : Type 0 where
    pub accepted : Accepted t
    pub inner_room : limits.per_name ≤ length inner
    pub firsts_room : limits.per_name ≤ length firsts
    pub row_in : row ≤ expr_count t
    pub asks : Asks

  -- On the expressions at two rows.
  pub record OnRows (inner firsts : List ℕ) (left right : ℕ) (Asks : Type 0) : Type 0 where
    pub accepted : Accepted t
    pub inner_room : limits.per_name ≤ length inner
    pub firsts_room : limits.per_name ≤ length firsts
    pub left_in : left ≤ expr_count t
    pub right_in : right ≤ expr_count t
    pub asks : Asks

  -- On statements.
  pub record OnStatement (outer spans firsts : List ℕ) (Asks : Type 0) : Type 0 where
    pub accepted : Accepted t
    pub outer-room : limits.per_name ≤ length outer
    pub spans-room : limits.per_name ≤ length spans
    pub firsts_room : limits.per_name ≤ length firsts
    pub asks : Asks

  -- ---- expressions

  -- What an expression and its modifiers use, as the answers have it.
  pub record AsksUsedBy (v : Width) (row mods : ℕ) (work : List ℕ) : Type 0 where
    pub accepted : Accepted t
    pub row_in : row ≤ expr_count t
    pub mods_in : mods ≤ expr_count t
    pub answers-room : answers_size v ≤ length work

  -- The same of a variable of a some-in pattern.
  pub record AsksVarUsed (v : Width) (row : ℕ) (w : Row) (mods : ℕ) (work : List ℕ) : Type 0 where
    pub var : w.kind ≡ 6
    pub name-low : w.name < limits.per_name
    pub some-row : row ≡ 0 → ⊥
    pub used-by : AsksUsedBy v row mods work

  -- `process_comprs`: comprehensions of the query, from place `at` of a list on, before place `end`. They add no definition to it.
  pub record AsksComprs (inner rows : List ℕ) (at end : ℕ) (p : Progress) (firsts work : List ℕ) : Type 0 where
    pub accepted : Accepted t
    pub inner_room : limits.per_name ≤ length inner
    pub firsts_room : limits.per_name ≤ length firsts
    pub up : at ≤ end
    pub in_list : end ≤ length rows
    pub inside : Inside t inner p firsts work 0
    pub comprehensions : ListedComprs t (λ q. q ≡ inside.at.query) rows at end

  -- A function that is given a context, and rows of the query.
  pub record AsksExpr (inner : List ℕ) (a b : ℕ) (x : Context) (p : Progress) (firsts work : List ℕ) (more : ℕ) : Type 0 where
    pub inside : Inside t inner p firsts work more
    pub first-lies : LiesIn t inside.at.query a
    pub second-lies : LiesIn t inside.at.query b
    pub mods_lie : LiesIn t inside.at.query x.mods
    pub mods-low : x.mods ≤ expr_count t

  -- ---- assignments

  -- The pair of two rows; none where there is none.
  abbrev pub pair_at : ℕ → ℕ → List Pairing
  pair_at zero r = []
  pair_at (suc l) r = pair (expr_by t false (suc l)) (expr_by t false r) ∷ []

  abbrev pub pairs_at : ℕ → ℕ → List Pairing
  pairs_at l r = pairings (tree_of l) (tree_of r)

  -- ---- patterns

  -- The part of a pattern at a row; none where there is none.
  abbrev pub other_at : ℕ → List Tree
  other_at zero = []
  other_at (suc r) = expr_by t false (suc r) ∷ []

  -- ---- statements

  -- An expression that is a literal.
  pub record AsksWhole (outer spans : List ℕ) (row : ℕ) (x : Context) (p : Progress) (firsts work : List ℕ) : Type 0 where
    pub under : Under t outer spans p firsts work (suc (size (tree_of row)))
    pub there : 1 ≤ row
    pub low : row ≤ expr_count t
    pub lies : LiesIn t under.at.query row
    pub mods_lie : LiesIn t under.at.query x.mods
    pub mods-low : x.mods ≤ expr_count t

  -- A statement of the query.
  pub record AsksLiteral (outer spans : List ℕ) (st : Statement) (x : Context) (p : Progress) (firsts work : List ℕ) : Type 0 where
    pub under : Under t outer spans p firsts work (suc (literal_size (literal_of (sheet_at t) st)))
    pub row : ℕ
    pub there : 1 ≤ row
    pub low : row ≤ statement_count t
    pub is : st ≡ statement_row_at t row
    pub lies : StatementLies (counts_at t) t under.at.query row
    pub mods_lie : LiesIn t under.at.query x.mods
    pub mods-low : x.mods ≤ expr_count t

  pub record AsksStmts (outer spans : List ℕ) (row i : ℕ) (p : Progress) (firsts work : List ℕ) : Type 0 where
    pub under : Under t outer spans p firsts work (total budget ((stmts_at_row t) row))
    pub lies : StatementLies (counts_at t) t under.at.query row
    pub few : i + stmts_left t row ≤ 2 * limits.most_statements
    pub older : under.at.state.run.fault ≡ sound → all (below i) under.at.state.definitions ≡ true

  -- ---- queries

  -- A query that is to be analysed.
  pub record Begun (v : Width) (outer work : List ℕ) (query key value : ℕ) : Type 0 where
    pub from : 1 ≤ query
    pub to : query ≤ query_count t
    pub key-low : key ≤ expr_count t
    pub value_low : value ≤ expr_count t
    pub key-lies : LiesIn t query key
    pub value-lies : LiesIn t query value
    pub room : Room v (length work) (budget_at t query + above_at t query)
    pub parents : List Scope
    pub beneath : Outer outer parents
    pub schedules : List QuerySchedule
    pub table : Table v t work schedules

  -- There may be none.
  abbrev pub AsksQuery : Width → List ℕ → List ℕ → ℕ → ℕ → ℕ → Type 0
  AsksQuery v outer work query key value = (query ≡ 0) ⊎ Begun v outer work query key value

  -- ---- sheets

  pub record AsksSheet (v : Width) (work : List ℕ) : Type 0 where
    pub accepted : Accepted t
    pub names-few : name_count t ≤ Widths.names v
    pub work-room : Widths.work v ≤ length work

-- How many definitions the queries of a sheet may record: the room that each is lent.
use Rattle.std.specs.Prelude.{List, ℕ, suc, ◌-◌}
use Rattle.scope.specs.Statements.{Stmt, stmts_of}
use Rattle.definition_room.specs.Inner.Sizes.{total, weight}
use Rattle.definition_room.specs.Inner.Sums.{sum_to}
use Rattle.scope_walk.specs.Inner.Sheets.{sheet_at, query_count}

-- A statement records at most what it weighs; one row more, so that there is always room for the row that a statement without any gets.
abbrev pub budget : Stmt → ℕ
budget st = suc (weight st)

module _ (t : List ℕ) where
  -- Of all statements of query q.
  abbrev pub budget_at : ℕ → ℕ
  budget_at q = total budget (stmts_of (sheet_at t) q)

  -- Of the queries with larger numbers: those nested in q are among them.
  abbrev pub above_at : ℕ → ℕ
  above_at q = sum_to budget_at (query_count t) - sum_to budget_at q

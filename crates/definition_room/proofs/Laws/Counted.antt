-- A query has no more statements than its sheet.
use mathlib.Core.List.{◌∷◌}
use Prim.Native.Nat.{ℕ, zero, suc, ◌≤◌}
use native.Mathlib.Omega.{arith}
use lib.ListN.{length, get_or}
use Rattle.sheet.specs.Sheet.{Sheet, no_statement}
use Rattle.scope.specs.Statements.{stmts_from, stmts_of}

-- A chain of statements is no longer than it may be.
chain-few : (sheet : Sheet) (most r : ℕ) → length (stmts_from sheet most r) ≤ most
unfolding stmts_from
chain-few sheet zero r = omega arith
chain-few sheet (suc most) zero = omega arith
chain-few sheet (suc most) (suc r) = omega (arith, chain-few sheet most (get_or sheet.statements r no_statement).next)

-- Nor are the statements of a query more than the sheet's.
pub query_statements_few : (sheet : Sheet) (q : ℕ) → length (stmts_of sheet q) ≤ length sheet.statements
unfolding stmts_of
query_statements_few sheet q = chain-few sheet (length sheet.statements) (get_or (0 ∷ sheet.queries) q 0)

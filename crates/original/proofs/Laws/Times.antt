-- How often query k is named at and below each query: a number for each, which is that query's own naming and what its statements name.
use mathlib.Core.List.{List}
use Prim.Native.Nat.{ℕ, zero, suc, ◌+◌, ◌≤◌}
use native.Mathlib.Omega.{arith}
use Rattle.sheet.specs.Sheet.{Sheet}
use Rattle.scope.specs.Trees.{Tree}
use Rattle.scope.specs.Statements.{stmts_of}
use Rattle.definition_room.specs.Inner.Sizes.{total}
use Rattle.definition_room.proofs.Laws.Lists.{total_mono}
use Rattle.original.specs.Inner.Places.{family}
use Rattle.original.proofs.Laws.Counting.{is, count}
use Rattle.original.proofs.Laws.Tally.{tally, stmt_tally, tally_mono, stmt_mono}
use Rattle.original.proofs.Laws.NamedCount.{named-few}

module _ (k : ℕ) (sheet : Sheet) where
  -- So many levels down. The outputs of a comprehension are counted where the comprehension stands.
  unfoldable pub times : ℕ → ℕ → ℕ
  times zero q = is k q
  times (suc levels) q = is k q + total (stmt_tally (times levels)) (stmts_of sheet q)

  -- One level more is no less.
  pub times_more : (levels q : ℕ) → times levels q ≤ times (suc levels) q
  unfolding times
  times_more zero q = omega arith
  times_more (suc levels) q =
      omega (
        arith,
        total_mono (stmt_tally (times levels)) (stmt_tally (times (suc levels))) (stmt_mono (times levels) (times (suc levels)) (times_more levels))
            (stmts_of sheet q),
      )

  -- So a query's number is at most its own naming and what its statements name.
  pub times-few : (levels q : ℕ) → times levels q ≤ is k q + total (stmt_tally (times levels)) (stmts_of sheet q)
  unfolding times
  times-few levels q = times_more levels q

  -- The family of a query has k at most so often.
  pub family-few : (levels q : ℕ) (outputs : List Tree)
      → count k (family levels sheet q outputs) ≤ times levels q + total (tally (times levels)) outputs
  unfolding family times
  family-few zero q outputs = omega arith
  family-few (suc levels) q outputs =
      omega (
        arith,
        named-few k (λ b ts. family levels sheet b ts) (times levels) (family-few levels) sheet (stmts_of sheet q) outputs,
        total_mono (tally (times levels)) (tally (times (suc levels))) (tally_mono (times levels) (times (suc levels)) (times_more levels)) outputs,
      )

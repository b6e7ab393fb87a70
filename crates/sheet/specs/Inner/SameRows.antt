-- Question 6 asks of the rows of a sheet and of nothing else: rows that are the same up to their number have the same first line at fault.
use Rattle.std.specs.Prelude.{◌≡◌, ℕ, ◌≤◌}
use Rattle.sheet.specs.declared.Counts.{Counts}
use Rattle.sheet.specs.Sheet.{Rows}

pub record SameRows (c : Counts) (t u : Rows) : Type 0 where
  pub builtins : (r : ℕ) → 1 ≤ r → r ≤ c.builtins → t.builtin r ≡ u.builtin r
  pub exprs : (r : ℕ) → 1 ≤ r → r ≤ c.exprs → t.expr r ≡ u.expr r
  pub statements : (r : ℕ) → 1 ≤ r → r ≤ c.statements → t.statement r ≡ u.statement r
  pub queries : (r : ℕ) → 1 ≤ r → r ≤ c.queries → t.query r ≡ u.query r

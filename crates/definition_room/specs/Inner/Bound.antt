-- In an accepted sheet each row is named once: so its queries weigh no more than the sheet has expressions and statements.
use Rattle.std.specs.Prelude.{ℕ, ◌+◌}
use Rattle.base.specs.Limits.{most_expressions, most_statements}

-- 640: the most expressions and statements that a sheet may have.
abbrev pub most_recorded : ℕ
most_recorded = most_expressions + most_statements

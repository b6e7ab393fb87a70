-- Records put into words row by row.
use Rattle.std.specs.Prelude.{◌≡◌, List, ◌++◌, ℕ, ◌+◌, ◌*◌, length, take}
use Rattle.order_records.specs.declared.Definition.{Definition}
use Rattle.order_records.specs.Records.{row_of_record}

-- `after` is as long as `before`, and has the row of a record behind its first i rows.
pub record RowPut (before : List ℕ) (i : ℕ) (d : Definition) (after : List ℕ) : Type 0 where
  pub long : length after ≡ length before
  pub rows : take (10 * i + 10) after ≡ take (10 * i) before ++ row_of_record d

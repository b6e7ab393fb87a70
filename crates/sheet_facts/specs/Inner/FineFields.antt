-- A field that is not at fault.
use Rattle.std.specs.Prelude.{◌≡◌, true, false, cond, ℕ, ◌≤◌, ◌<◌}
use Rattle.sheet.specs.declared.Counts.{Counts}
use Rattle.base.specs.Limits.{nesting}
use Rattle.sheet.specs.Sheet.{Rows}
use Rattle.sheet.specs.Fields.{query_section, limit_of}
use Rattle.sheet.specs.Naming.{Entry}
use Rattle.sheet.specs.Nesting.{level, is_var_at, all_vars, ends_odd}

-- The query v is nested in query q.
pub record Nests (c : Counts) (t : Rows) (q v : ℕ) : Type 0 where
  pub larger : q < v
  pub not_first : 1 < v
  pub shallow : level c t q < nesting

-- In a row that lies in query q.
pub record Fine (c : Counts) (t : Rows) (q : ℕ) (e : Entry) : Type 0 where
  pub is_set : e.field.set ≡ true → 1 ≤ e.value
  pub in_range : e.value ≤ limit_of c e.field.section
  pub is-var : 1 ≤ e.value → e.field.var ≡ true → cond e.field.chain (all_vars c t e.value) (is_var_at c t e.value) ≡ true
  pub paired : 1 ≤ e.value → e.field.pairs ≡ true → ends_odd c t e.value ≡ false
  pub nests : 1 ≤ e.value → e.field.section ≡ query_section → Nests c t q e.value

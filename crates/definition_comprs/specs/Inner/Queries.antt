-- The query of a comprehension, among those of its sheet.
use Rattle.std.specs.Prelude.{◌≡◌, true, ◌≤◌}
use Rattle.base.specs.Limits as limits
use Rattle.sheet.specs.declared.Row.{Row}
use Rattle.sheet.specs.Kinds.{is_compr}

-- If w is a comprehension, its query has a block.
abbrev pub QueryIn : Row → Type 0
QueryIn w = is_compr w ≡ true → (1 ≤ w.third) × (w.third ≤ limits.most_queries)

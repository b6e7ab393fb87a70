-- A list of definitions as words: a row of w words for each, its statement, its name, and the words of its used names.
use Rattle.std.specs.Prelude.{List, ℕ, ◌-◌, ◌*◌, ltb}
use Rattle.base.specs.Lists.{filter}
use Rattle.names_width.specs.Inner.Widths.{row_words}
use Rattle.order.specs.Definitions.{Definition}
use Rattle.order.specs.Call.{definitions}
use Rattle.order_rows.specs.declared.Rows.{Rows}

-- The definitions of the rows.
abbrev pub definitions_of : Rows → List Definition
definitions_of r = definitions (row_words r.width) r.words.now

-- What a row of w words can hold of a definition: the used names that its words have room for.
unfoldable pub held_row : ℕ → Definition → Definition
held_row w d = record { statement = d.statement; var = d.var; used = filter (λ y. ltb y (64 * (w - 2))) d.used }

-- One member after the other: what is asked of a chain is asked of its first member and of the rest.
use Rattle.std.specs.Prelude.{Bool, List, ℕ, suc}
use Rattle.sheet.specs.declared.Counts.{Counts}
use Rattle.sheet.specs.Nesting.{ends_in}
use Rattle.sheet.specs.Inner.Rows.{in_tables}

-- Does the chain end, after an odd number of members? With `false`: an even number.
unfoldable pub ends_so : Counts → List ℕ → Bool → ℕ → Bool
ends_so c t odd r = ends_in c (in_tables t) (suc c.exprs) odd r

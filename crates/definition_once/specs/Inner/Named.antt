-- What a query records is named below the bound, in every sheet whose names lie below it: what the theorems about the turn rule ask for.
use Rattle.std.specs.Prelude.{◌≡◌, true, ℕ}
use Rattle.base.specs.Lists.{all}
use Rattle.sheet.specs.Sheet.{Sheet, name_bound}
use Rattle.scope.specs.Inner.Below.{name_below}

-- The names of all rows lie below n.
abbrev pub NamesUnder : ℕ → Sheet → Type 0
NamesUnder n sheet = all (name_below n) sheet.exprs ≡ true

-- Below the bound of all sheets.
abbrev pub NamesBelow : Sheet → Type 0
NamesBelow = NamesUnder name_bound

-- The walk to the first undefined variable.
use Rattle.std.specs.Prelude.{◌≡◌, Bool, cond, List, ℕ, ◌≤◌, Option, None, Some, IfSome}
use Rattle.std.proofs.Math.Option as maybe
use Rattle.std.proofs.Math.Option.{none, some}
use Rattle.sheet.specs.declared.Row.{Row}
use Rattle.sheet.specs.Inner.Sheet.{row_at}
use Rattle.sheet.specs.Kinds.{is_var}
use Rattle.scope.specs.Trees.{Tree, row_of}
use Rattle.scope.specs.Scopes as spec
use Rattle.definition.specs.Uses.{is_undefined, undefined_var}
use Rattle.scope_state.specs.declared.Scope.{Scope}
use Rattle.scope_walk.specs.Inner.Sheets.{sheet_at, expr_count}
use Rattle.scope_state.specs.Inner.Agrees.{Sets}
use Rattle.scope_walk.specs.Inner.Exprs.{expr_by}
use Rattle.scope_walk.specs.Inner.Walking.{Walk}

-- The first of two.
abbrev pub or_row : maybe.Option Row → maybe.Option Row → maybe.Option Row
or_row none o = o
or_row (some w) o = some w

-- What is found at a row, where `found` was found before it.
abbrev pub found_at : (Row → Bool) → maybe.Option Row → Row → maybe.Option Row
found_at p found w = or_row found (cond (is_var w) (cond (p w) (some w) none) none)

module _ (t : List ℕ) where
  -- The variable at a row, where there is one.
  abbrev pub variable_at : Option ℕ → maybe.Option Row
  variable_at None = none
  variable_at (Some r) = some (row_at t r)

  pub record FoundVariable (r : Option ℕ) (found : maybe.Option Row) : Type 0 where
    pub high : IfSome r (λ n. n ≤ expr_count t)
    pub is : found ≡ variable_at r

  module _ (k : Scope) where
    abbrev pub UndefinedStep : ℕ → Row → Option ℕ → Option ℕ → Type 0
    UndefinedStep row w a r =
        (s : spec.Scope) → Sets k s → w ≡ row_at t row → (found : maybe.Option Row) → FoundVariable a found → FoundVariable r (found_at (is_undefined (sheet_at t) s) found w)

    abbrev pub UndefinedWalk : ℕ → Bool → Option ℕ → Option ℕ → Type 0
    UndefinedWalk row rest a r =
        (s : spec.Scope) → Sets k s → Walk t FoundVariable (λ (u : maybe.Option Row) (e : Tree). found_at (is_undefined (sheet_at t) s) u (row_of e)) row rest a r

    -- The first undefined variable of the expression at a row: its own row, or none.
    abbrev pub Undefined : ℕ → Bool → Option ℕ → Type 0
    Undefined row rest r = (s : spec.Scope) → Sets k s → FoundVariable r (undefined_var (sheet_at t) s (expr_by t rest row))

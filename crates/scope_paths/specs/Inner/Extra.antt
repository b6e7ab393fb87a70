-- The end of a chain, and the extra argument of a call.
use Rattle.std.specs.Prelude.{◌≡◌, false, cond, List, ℕ, ◌+◌, ◌≤◌, eqb, length}
use Rattle.std.proofs.Math.Option.{Option, none, some}
use Rattle.sheet.specs.declared.Row.{Row}
use Rattle.base.specs.Lists.{last}
use Rattle.scope.specs.Trees.{Tree, tree_at}
use Rattle.scope.specs.Paths.{builtin_with, beyond, get_extra_arg}
use Rattle.scope_paths.specs.declared.extra.End.{End}
use Rattle.scope_walk.specs.Inner.Sheets.{sheet_at, expr_count}
use Rattle.scope_walk.specs.Inner.Exprs.{expr_by}
use Rattle.scope_walk.specs.Inner.Walking.{remains}
use Rattle.scope_state.specs.Inner.Chains.{chain_at}
use Rattle.scope_paths.specs.Inner.Paths.{path_at}

abbrev pub end_after : End → ℕ → End
end_after e row = record { count = e.count + 1; last = cond (eqb e.count 0) row e.last }

module _ (t : List ℕ) where
  -- The expression at a row, if it is one.
  abbrev pub some_at : ℕ → Option Tree
  some_at row = cond (eqb row 0) none (some (expr_by t false row))

  pub record EndAt (row : ℕ) (e : End) : Type 0 where
    pub count : length (chain_at t row) ≡ e.count
    pub last-is : last (chain_at t row) ≡ some_at e.last
    pub low : e.last ≤ expr_count t
    pub few : e.count ≤ remains t row

  abbrev pub CallExtra : Row → ℕ → Type 0
  CallExtra w r = (beyond (builtin_with (sheet_at t).builtins (path_at t w.first)) (chain_at t w.second) ≡ some_at r) × (r ≤ expr_count t)

  abbrev pub ExtraAt : ℕ → ℕ → Type 0
  ExtraAt row r = (get_extra_arg (sheet_at t) (tree_at (sheet_at t) row) ≡ some_at r) × (r ≤ expr_count t)

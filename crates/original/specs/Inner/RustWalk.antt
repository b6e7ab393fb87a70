-- The walk of `gather_used_vars_comprs_index_vars` (scheduler.rs) as the Rust has it, with its repeats, and the walk done once.
use Rattle.std.specs.Prelude.{cond, List, [], ◌∷◌, ◌++◌, ℕ}
use Rattle.base.specs.Lists.{concat_map}
use Rattle.sheet.specs.declared.Row.{Row}
use Rattle.sheet.specs.Sheet.{Sheet}
use Rattle.sheet.specs.Kinds.{is_var, is_compr, is_ref_brack}
use Rattle.scope.specs.Trees.{Tree, nil, node}
use Rattle.scope.specs.Traverse.{children_of, entered}
use Rattle.scope.specs.Scopes.{Scope}
use Rattle.definition.specs.Uses.{define, index_vars, is_use}
use Rattle.original.specs.Inner.Events.{Event, seen, met, used, defined}

module _ (sheet : Sheet) (s : Scope) (extras : List ℕ) (i : ℕ) where
  -- What an event adds to `used_vars`.
  abbrev pub rust_used_at : Event → List ℕ
  rust_used_at (seen w) = cond (is_use sheet s extras w) (w.name ∷ []) []
  rust_used_at (met e) = []
  rust_used_at (used x) = x ∷ []
  rust_used_at (defined d) = []

  -- `used_vars` after a walk.
  abbrev pub names_used : List Event → List ℕ
  names_used = concat_map rust_used_at

  -- At a name x of a bracket's index, after a walk over what is indexed: x is defined from what that used, and used itself.
  abbrev pub indexed : List Event → ℕ → List Event
  indexed walk x = defined (define i x (names_used walk)) ∷ used x ∷ []

  -- At a Var, and at a comprehension.
  abbrev pub own_events : Row → Tree → List Event
  own_events w e = cond (is_var w) (seen w ∷ []) (cond (is_compr w) (met e ∷ []) [])

  -- The visiting function: at a bracket, for each name of the index, the walk over what is indexed and then that name.
  abbrev pub visit : Row → Tree → List Event → List Event
  visit w e walk = cond (is_ref_brack w) (concat_map (λ x. walk ++ indexed walk x) (index_vars s e)) (own_events w e)

  -- The Rust's walk: `traverse` with this visiting function. What a bracket indexes is walked for each name of the index, and then again.
  unfoldable pub rust_walk : Tree → List Event
  rust_walk nil = []
  rust_walk (node w a b c n) =
      let walk = rust_walk a in
      (visit w (node w a b c nil) walk ++ entered (children_of w) walk (rust_walk b) (rust_walk c)) ++ rust_walk n

-- Laws of `RustWalk`.
use mathlib.Core.Bool.{cond}
use mathlib.Core.List.{List, [], ◌++◌}
use Prim.Native.Nat.{ℕ}
use Rattle.base.specs.Lists.{concat_map}
use Rattle.sheet.specs.Sheet.{Sheet}
use Rattle.sheet.specs.Kinds.{is_ref_brack}
use Rattle.scope.specs.Trees.{Tree, nil, node}
use Rattle.scope.specs.Traverse.{children_of, entered}
use Rattle.scope.specs.Scopes.{Scope}
use Rattle.definition.specs.Uses.{index_vars}
use Rattle.original.specs.Inner.Events.{Event}
use Rattle.original.specs.Inner.RustWalk.{indexed, own_events}

module _ (sheet : Sheet) (s : Scope) (extras : List ℕ) (i : ℕ) where
  -- The walk done once: at a bracket, what is indexed, then each name of the index, then the index.
  unfoldable pub walk_once : Tree → List Event
  walk_once nil = []
  walk_once (node w a b c n) =
      let walk = walk_once a in
      cond (is_ref_brack w) (walk ++ (concat_map (indexed sheet s extras i walk) (index_vars s (node w a b c nil)) ++ walk_once b))
      (own_events sheet s extras i w (node w a b c nil) ++ entered (children_of w) walk (walk_once b) (walk_once c))
      ++ walk_once n

-- The built-in that a path names, as the code looks for it.
use Rattle.std.specs.Prelude.{Bool, cond, List, map, ℕ, ◌+◌, ltb, Option, None, Some}
use Rattle.std.proofs.Math.Option as found
use Rattle.base.specs.Lists.{range, find}
use Rattle.sheet.specs.declared.Builtin.{Builtin}
use Rattle.sheet.specs.Inner.Records.{builtin_at}
use Rattle.scope.specs.Paths.{path_of}
use Rattle.scope_paths.specs.declared.paths.Path.{Path}
use Rattle.scope_walk.specs.Inner.Sheets.{builtin_count}
use Rattle.scope_paths.specs.Inner.Paths.{short_of, appended, paths_agree}

-- ---- the path of a built-in

abbrev pub add_if : Bool → Path → ℕ → Path
add_if b p x = cond b (appended p x) p

abbrev pub parted : Path → ℕ → Path
parted p x = add_if (ltb 0 x) p x

-- ---- the search

abbrev pub has_path : Path → Builtin → Bool
has_path p b = paths_agree (short_of (path_of b)) p

abbrev pub arity_in : found.Option Builtin → Option ℕ
arity_in found.none = None
arity_in (found.some b) = Some b.arity

module _ (t : List ℕ) where
  abbrev pub builtins_from : ℕ → List Builtin
  builtins_from row = map (builtin_at t) (range row (builtin_count t + 1))

  -- Of the first from a row on, and of the first of all.
  unfoldable pub arity_from : ℕ → Path → Option ℕ
  arity_from row p = arity_in (find (has_path p) (builtins_from row))

  abbrev pub arity_with : Path → Option ℕ
  arity_with p = arity_from 1 p

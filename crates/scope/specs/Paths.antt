-- The path of a called function, and the extra argument of a call.
-- Beside: utils.rs, `get_path_string` and `get_extra_arg`.
use Rattle.std.specs.Prelude.{cond, List, [], ◌∷◌, ◌++◌, ℕ, ◌+◌, eqb, ltb, length}
use Rattle.std.proofs.Math.Option.{Option, none, some}
use Rattle.base.specs.Lists.{filter, find, last}
use Rattle.sheet.specs.declared.Builtin.{Builtin}
use Rattle.sheet.specs.Form.{same}
use Rattle.sheet.specs.Sheet.{Sheet}
use Rattle.sheet.specs.Kinds.{is_string, is_var, is_call, is_ref_dot, is_ref_brack}
use Rattle.scope.specs.Trees.{Tree, nil, node, row_of, first_of, second_of, chain}

-- A path with one name more.
abbrev pub append : Option (List ℕ) → ℕ → Option (List ℕ)
append none x = none
append (some path) x = some (path ++ (x ∷ []))

-- `get_path_string`: a simple reference as names, from its root. An index that is no String is dropped. A String that is no identifier has
-- name 0; the Rust puts its text in brackets and quotes, which no built-in's path has, and neither has any a part 0.
unfoldable pub get_path_string : Tree → Option (List ℕ)
get_path_string nil = none
get_path_string (node w a b c n) =
    cond (is_var w) (some (w.name ∷ []))
    (cond (is_ref_dot w) (append (get_path_string a) w.name)
    (cond (is_ref_brack w) (cond (is_string (row_of b)) (append (get_path_string a) (row_of b).name) (get_path_string a))
    none))

-- The dotted path of a built-in, as names. No part follows a 0.
abbrev pub path_of : Builtin → List ℕ
path_of b = filter (ltb 0) (b.first ∷ b.second ∷ b.third ∷ [])

-- The built-in with a path.
abbrev pub builtin_with : List Builtin → Option (List ℕ) → Option Builtin
builtin_with builtins none = none
builtin_with builtins (some path) = find (λ b. same (path_of b) path) builtins

-- The last of the arguments, if there is one more than the built-in takes.
abbrev pub beyond : Option Builtin → List Tree → Option Tree
beyond none args = none
beyond (some b) args = cond (eqb (b.arity + 1) (length args)) (last args) none

-- `get_extra_arg`: the last parameter of a call of a built-in that has one parameter more than its arity.
unfoldable pub get_extra_arg : Sheet → Tree → Option Tree
get_extra_arg sheet e =
    cond (is_call (row_of e)) (beyond (builtin_with sheet.builtins (get_path_string (first_of e))) (chain (second_of e))) none

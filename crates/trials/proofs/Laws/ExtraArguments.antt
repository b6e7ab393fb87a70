-- Calls and extra arguments: rules that are easy to miss, with the answers of the original.
use mathlib.Core.Path.{◌≡◌, refl}
use mathlib.Core.Bool.{true}
use mathlib.Core.List.{List, [], ◌∷◌}
use Rattle.base.specs.Lists.{all}
use Rattle.trials.proofs.Laws.Trial.{Trial, trial, answers, passes}
use Rattle.trials.proofs.Laws.Computed.{computed}

-- Names, built-ins, expressions, statements, queries; then what each query recorded, a row `query statement name used..` for a definition;
-- then the answer's rows, section by section, or the refusal.
abbrev pub trials : List Trial
trials =
    -- An extra argument is unscoped also where it is a local: `n := 1`, `f(1, n)`, f of arity 1.
    trial "f\nn\n" "1 1 0 0\n"
    "21 0 1 1 2 3 0 0\n6 2 1 1 0 0 0 0\n3 0 1 1 0 0 0 0\n13 0 2 1 5 6 0 0\n6 1 2 1 0 0 0 0\n3 0 2 3 0 0 0 7\n6 2 2 6 0 0 0 0\n"
    "3 1 0 0 0 0 2\n3 4 0 0 0 0 0\n" "1\n"
    ((1 ∷ 0 ∷ 0 ∷ 2 ∷ []) ∷ (1 ∷ 0 ∷ 2 ∷ []) ∷ (1 ∷ 1 ∷ 2 ∷ []) ∷ [])
    (answers "1 1 0\n" "1 0 0 1\n1 1 1 1\n" "1 1 2 1 1\n1 2 2 0 0\n")
    -- The function of a call is no variable: `g(1)`.
    ∷ trial "g\n" ""
    "13 0 1 1 2 3 0 0\n6 1 1 1 0 0 0 0\n3 0 1 3 0 0 0 0\n"
    "3 1 0 0 0 0 0\n" "1\n"
    ((1 ∷ 0 ∷ 0 ∷ []) ∷ [])
    (answers "1 1 0\n" "1 0 0 1\n" "")
    -- A name of an extra argument is used in an index of the call: `a := [1]`, `f(a[n], n)`, f of arity 1.
    ∷ trial "a\nf\nn\n" "1 2 0 0\n"
    "21 0 1 1 2 3 0 0\n6 1 1 1 0 0 0 0\n7 0 1 1 4 0 0 0\n3 0 1 1 0 0 0 0\n13 0 2 1 6 7 0 0\n6 2 2 1 0 0 0 0\n16 0 1 1 8 9 0 10\n6 1 2 3 0 0 0 0\n6 3 2 5 0 0 0 0\n6 3 2 9 0 0 0 0\n"
    "3 1 0 0 0 0 2\n3 5 0 0 0 0 0\n" "1\n"
    ((1 ∷ 0 ∷ 0 ∷ 1 ∷ []) ∷ (1 ∷ 0 ∷ 1 ∷ []) ∷ (1 ∷ 1 ∷ 3 ∷ 1 ∷ []) ∷ (1 ∷ 1 ∷ 3 ∷ 1 ∷ 3 ∷ []) ∷ [])
    (answers "1 1 0\n" "1 0 0 1\n1 1 1 1\n" "1 1 1 1 1\n1 2 3 0 0\n")
    -- An index that is no String is dropped from a path: `f.g[0](1, n)`, f.g of arity 1.
    ∷ trial "f\ng\nn\n" "1 1 2 0\n"
    "13 0 1 1 2 6 0 0\n16 0 1 1 3 5 0 0\n15 2 1 1 4 0 0 0\n6 1 1 1 0 0 0 0\n3 0 1 5 0 0 0 0\n3 0 1 8 0 0 0 7\n6 3 1 11 0 0 0 0\n"
    "3 1 0 0 0 0 0\n" "1\n"
    ((1 ∷ 0 ∷ 3 ∷ []) ∷ [])
    (answers "1 1 0\n" "1 0 0 1\n" "1 2 3 0 0\n")
    -- An extra argument that is an assignment binds, and defines nothing: `f(1, n = 2)`, f of arity 1.
    ∷ trial "f\nn\n" "1 1 0 0\n"
    "13 0 1 1 2 3 0 0\n6 1 1 1 0 0 0 0\n3 0 1 3 0 0 0 4\n20 0 1 6 5 6 0 0\n6 2 1 6 0 0 0 0\n3 0 1 10 0 0 0 0\n"
    "3 1 0 0 0 0 0\n" "1\n"
    ((1 ∷ 0 ∷ 0 ∷ 2 ∷ []) ∷ [])
    (answers "1 0 0\n" "1 0 0 0\n" "1 2 2 0 0\n")
    ∷ []

-- All of them pass.
pub trials-pass : all passes trials ≡ true
unfolding computed
trials-pass = refl

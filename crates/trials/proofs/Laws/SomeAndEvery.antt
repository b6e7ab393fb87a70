-- `some` and `every`: rules that are easy to miss, with the answers of the original.
use mathlib.Core.Path.{◌≡◌, refl}
use mathlib.Core.Bool.{true}
use mathlib.Core.List.{List, [], ◌∷◌}
use Rattle.base.specs.Lists.{all}
use Rattle.trials.proofs.Laws.Trial.{Trial, trial, answers, refuses, passes}
use Rattle.trials.proofs.Laws.Computed.{computed}

-- Names, built-ins, expressions, statements, queries; then what each query recorded, a row `query statement name used..` for a definition;
-- then the answer's rows, section by section, or the refusal.
abbrev pub trials : List Trial
trials =
    -- The names of modifiers count for the collection, their comprehensions for the pattern too: `n := 1`, `some [k, 1] in [2] with input as [c | c := n]`.
    trial "c\nk\nn\n" ""
    "21 0 1 1 2 3 0 0\n6 3 1 1 0 0 0 0\n3 0 1 1 0 0 0 0\n7 0 1 1 5 0 0 0\n6 2 2 7 0 0 0 6\n3 0 2 9 0 0 0 0\n7 0 1 1 8 0 0 0\n3 0 2 14 0 0 0 0\n10 0 2 29 10 0 2 0\n6 1 2 30 0 0 0 0\n21 0 2 33 12 13 0 0\n6 1 2 33 0 0 0 0\n6 3 2 38 0 0 0 0\n"
    "3 1 0 0 0 0 2\n2 0 4 7 0 9 0\n3 11 0 0 0 0 0\n" "1\n3\n"
    ((1 ∷ 0 ∷ 0 ∷ 3 ∷ []) ∷ (1 ∷ 0 ∷ 3 ∷ []) ∷ (1 ∷ 1 ∷ 0 ∷ 3 ∷ []) ∷ (1 ∷ 1 ∷ 2 ∷ 3 ∷ []) ∷ (2 ∷ 0 ∷ 0 ∷ 1 ∷ []) ∷ (2 ∷ 0 ∷ 1 ∷ []) ∷ [])
    (answers "1 1 0\n2 1 0\n" "1 0 0 1\n1 1 1 1\n2 0 0 1\n" "1 1 2 2 7\n1 1 3 1 1\n2 1 1 2 33\n2 3 3 0 0\n")
    -- A comprehension under `with` of a `some` is never analysed: `some x with input as [1 | 1]`.
    ∷ trial "x\n" ""
    "6 1 1 6 0 0 0 0\n10 0 1 5 3 0 2 0\n3 0 1 1 0 0 0 0\n3 0 1 1 0 0 0 0\n"
    "1 1 0 0 0 2 0\n3 4 0 0 0 0 0\n" "1\n2\n"
    ((1 ∷ 0 ∷ 0 ∷ []) ∷ [])
    (answers "1 1 0\n2 2 0\n" "1 0 0 1\n" "1 1 1 1 6\n")
    -- 14: `i := 0`, `a := [1]`, `some [a[i]] in [1]`.
    ∷ trial "a\ni\n" ""
    "21 0 1 1 2 3 0 0\n6 2 1 1 0 0 0 0\n3 0 1 1 0 0 0 0\n21 0 2 1 5 6 0 0\n6 1 2 1 0 0 0 0\n7 0 1 1 7 0 0 0\n3 0 1 1 0 0 0 0\n7 0 1 1 9 0 0 0\n16 0 1 1 10 11 0 0\n6 1 3 7 0 0 0 0\n6 2 3 9 0 0 0 0\n7 0 1 1 13 0 0 0\n3 0 1 1 0 0 0 0\n"
    "3 1 0 0 0 0 2\n3 4 0 0 0 0 3\n2 0 8 12 0 0 0\n" "1\n"
    []
    (refuses "14 0 0\n")
    -- `_` as a local is used in an index, and nowhere else: `some _`, `input[_]`.
    ∷ trial "_\ninput\n" ""
    "6 1 1 6 0 0 0 0\n16 0 1 1 3 4 0 0\n6 2 2 1 0 0 0 0\n6 1 2 7 0 0 0 0\n"
    "1 1 0 0 0 0 2\n3 2 0 0 0 0 0\n" "1\n"
    ((1 ∷ 0 ∷ 0 ∷ []) ∷ (1 ∷ 1 ∷ 0 ∷ 1 ∷ []) ∷ (1 ∷ 1 ∷ 1 ∷ []) ∷ [])
    (answers "1 1 1\n" "1 0 0 1\n1 1 1 1\n" "1 1 1 1 6\n")
    -- Nothing of an `every` rises: `n := 1`, `every w in [1] { w > n }`.
    ∷ trial "n\nw\n" ""
    "21 0 1 1 2 3 0 0\n6 1 1 1 0 0 0 0\n3 0 1 1 0 0 0 0\n6 2 2 7 0 0 0 0\n7 0 1 1 6 0 0 0\n3 0 1 1 0 0 0 0\n18 0 1 1 8 9 0 0\n6 2 2 20 0 0 0 0\n6 1 2 24 0 0 0 0\n"
    "3 1 0 0 0 0 2\n5 0 4 5 2 0 0\n3 7 0 0 0 0 0\n" "1\n3\n"
    ((1 ∷ 0 ∷ 0 ∷ 1 ∷ []) ∷ (1 ∷ 0 ∷ 1 ∷ []) ∷ (1 ∷ 1 ∷ 0 ∷ []) ∷ (2 ∷ 0 ∷ 0 ∷ []) ∷ [])
    (answers "1 1 0\n2 1 0\n" "1 0 0 1\n1 1 1 1\n2 0 0 1\n" "1 1 1 1 1\n2 3 1 0 0\n2 3 2 0 0\n")
    -- A name that `some` binds may stand in the collection: `some x in x`.
    ∷ trial "x\n" ""
    "6 1 1 6 0 0 0 0\n6 1 1 11 0 0 0 0\n"
    "2 0 1 2 0 0 0\n" "1\n"
    ((1 ∷ 0 ∷ 0 ∷ []) ∷ (1 ∷ 0 ∷ 1 ∷ 1 ∷ []) ∷ [])
    (answers "1 0 0\n" "1 0 0 0\n" "1 1 1 1 6\n")
    -- `input` is no name of a pattern, and is seen: `some input in [1]`.
    ∷ trial "input\n" ""
    "6 1 1 6 0 0 0 0\n7 0 1 1 3 0 0 0\n3 0 1 1 0 0 0 0\n"
    "2 0 1 2 0 0 0\n" "1\n"
    ((1 ∷ 0 ∷ 0 ∷ []) ∷ [])
    (answers "1 1 1\n" "1 0 0 1\n" "")
    -- 12 at a `some`: `some x` at line 2, below `y = x`.
    ∷ trial "x\ny\n" ""
    "20 0 1 1 2 3 0 0\n6 2 1 1 0 0 0 0\n6 1 1 5 0 0 0 0\n6 1 2 6 0 0 0 0\n"
    "3 1 0 0 0 0 2\n1 4 0 0 0 0 0\n" "1\n"
    []
    (refuses "12 1 5\n")
    ∷ []

-- All of them pass.
pub trials-pass : all passes trials ≡ true
unfolding computed
trials-pass = refl

-- Comprehensions and scopes: rules that are easy to miss, with the answers of the original.
use mathlib.Core.Path.{◌≡◌, refl}
use mathlib.Core.Bool.{true}
use mathlib.Core.List.{List, [], ◌∷◌}
use Rattle.base.specs.Lists.{all}
use Rattle.trials.proofs.Laws.Trial.{Trial, trial, answers, refuses, passes}
use Rattle.trials.proofs.Laws.Computed.{computed}

-- Names, built-ins, expressions, statements, queries; then what each query recorded, a row `query statement name used..` for a definition;
-- then the answer's rows, section by section, or the refusal.
abbrev pub trials : List Trial
trials =
    -- Outputs see all names of the body, whatever their line: `a = [[x | 1] | x := 1]`, where x stands a line below.
    trial "a\nx\n" ""
    "20 0 1 1 2 3 0 0\n6 1 1 1 0 0 0 0\n10 0 1 5 4 0 2 0\n10 0 1 5 5 0 3 0\n6 2 1 7 0 0 0 0\n21 0 2 1 7 8 0 0\n6 2 2 1 0 0 0 0\n3 0 2 6 0 0 0 0\n3 0 1 1 0 0 0 0\n"
    "3 1 0 0 0 0 0\n3 6 0 0 0 0 0\n3 9 0 0 0 0 0\n" "1\n2\n3\n"
    ((1 ∷ 0 ∷ 0 ∷ 1 ∷ []) ∷ (1 ∷ 0 ∷ 1 ∷ []) ∷ (2 ∷ 0 ∷ 0 ∷ 2 ∷ []) ∷ (2 ∷ 0 ∷ 2 ∷ []) ∷ (3 ∷ 0 ∷ 0 ∷ []) ∷ [])
    (answers "1 1 0\n2 1 0\n3 1 0\n" "1 0 0 1\n2 0 0 1\n3 0 0 1\n" "1 2 1 0 0\n2 1 2 2 1\n3 3 2 0 0\n")
    -- A name is not gathered as an input where it is unscoped: `x := 1` at line 2, `y = [1 | input[x]; x > 0]` with `input[x]` at line 1.
    ∷ trial "input\nx\ny\n" ""
    "21 0 2 1 2 3 0 0\n6 2 2 1 0 0 0 0\n3 0 1 1 0 0 0 0\n20 0 1 1 5 6 0 0\n6 3 1 1 0 0 0 0\n10 0 1 5 7 0 2 0\n3 0 1 1 0 0 0 0\n16 0 1 1 9 10 0 0\n6 1 1 9 0 0 0 0\n6 2 1 15 0 0 0 0\n18 0 3 1 12 13 0 0\n6 2 3 1 0 0 0 0\n3 0 3 9 0 0 0 0\n"
    "3 1 0 0 0 0 2\n3 4 0 0 0 0 0\n3 8 0 0 0 0 4\n3 11 0 0 0 0 0\n" "1\n3\n"
    ((1 ∷ 0 ∷ 0 ∷ 2 ∷ []) ∷ (1 ∷ 0 ∷ 2 ∷ []) ∷ (1 ∷ 1 ∷ 0 ∷ 3 ∷ []) ∷ (1 ∷ 1 ∷ 3 ∷ []) ∷ (2 ∷ 0 ∷ 0 ∷ 2 ∷ []) ∷ (2 ∷ 0 ∷ 2 ∷ []) ∷ (2 ∷ 1 ∷ 0 ∷ 2 ∷ []) ∷ [])
    (answers "1 1 1\n2 1 1\n" "1 0 0 1\n1 1 1 1\n2 0 0 1\n2 1 1 1\n" "1 1 2 2 1\n1 2 3 0 0\n2 2 2 0 0\n")
    -- A name can be unscoped and an input: `x := 1` at line 2, `y = [1 | input[x]; input[x]]` at the lines 1 and 3.
    ∷ trial "input\nx\ny\n" ""
    "21 0 2 1 2 3 0 0\n6 2 2 1 0 0 0 0\n3 0 1 1 0 0 0 0\n20 0 1 1 5 6 0 0\n6 3 1 1 0 0 0 0\n10 0 1 5 7 0 2 0\n3 0 1 1 0 0 0 0\n16 0 1 1 9 10 0 0\n6 1 1 9 0 0 0 0\n6 2 1 15 0 0 0 0\n16 0 1 1 12 13 0 0\n6 1 3 9 0 0 0 0\n6 2 3 15 0 0 0 0\n"
    "3 1 0 0 0 0 2\n3 4 0 0 0 0 0\n3 8 0 0 0 0 4\n3 11 0 0 0 0 0\n" "1\n3\n"
    ((1 ∷ 0 ∷ 0 ∷ 2 ∷ []) ∷ (1 ∷ 0 ∷ 2 ∷ []) ∷ (1 ∷ 1 ∷ 0 ∷ 3 ∷ []) ∷ (1 ∷ 1 ∷ 3 ∷ 2 ∷ []) ∷ (2 ∷ 0 ∷ 0 ∷ 2 ∷ []) ∷ (2 ∷ 0 ∷ 2 ∷ []) ∷ (2 ∷ 1 ∷ 0 ∷ 2 ∷ []) ∷ (2 ∷ 1 ∷ 2 ∷ []) ∷ [])
    (answers "1 1 1\n2 1 1\n" "1 0 0 1\n1 1 1 1\n2 0 0 1\n2 1 1 1\n" "1 1 2 2 1\n1 2 3 0 0\n2 2 2 0 0\n2 3 2 0 0\n")
    -- Nor under `with` of empty arrays: `[] = [] with input as [1 | 1]`.
    ∷ trial "" ""
    "20 0 1 1 2 3 0 0\n7 0 1 1 0 0 0 0\n7 0 1 1 0 0 0 0\n10 0 1 5 5 0 2 0\n3 0 1 1 0 0 0 0\n3 0 1 1 0 0 0 0\n"
    "3 1 0 0 0 4 0\n3 6 0 0 0 0 0\n" "1\n2\n"
    ((1 ∷ 0 ∷ 0 ∷ []) ∷ [])
    (answers "1 1 0\n2 2 0\n" "1 0 0 1\n" "")
    -- 12 stands at the comprehension that used the name, lines and columns count: `y = [x | 1]; x := 1` on one line.
    ∷ trial "x\ny\n" ""
    "20 0 1 1 2 3 0 0\n6 2 1 1 0 0 0 0\n10 0 1 5 4 0 2 0\n6 1 1 6 0 0 0 0\n21 0 1 14 6 7 0 0\n6 1 1 14 0 0 0 0\n3 0 1 19 0 0 0 0\n3 0 1 1 0 0 0 0\n"
    "3 1 0 0 0 0 2\n3 5 0 0 0 0 0\n3 8 0 0 0 0 0\n" "1\n3\n"
    []
    (refuses "12 1 5\n")
    -- Terms are not checked for undefined variables: `y = [z | 1]`.
    ∷ trial "y\nz\n" ""
    "20 0 1 1 2 3 0 0\n6 1 1 1 0 0 0 0\n10 0 1 5 4 0 2 0\n6 2 1 6 0 0 0 0\n3 0 1 1 0 0 0 0\n"
    "3 1 0 0 0 0 0\n3 5 0 0 0 0 0\n" "1\n2\n"
    ((1 ∷ 0 ∷ 0 ∷ 1 ∷ []) ∷ (1 ∷ 0 ∷ 1 ∷ []) ∷ (2 ∷ 0 ∷ 0 ∷ []) ∷ [])
    (answers "1 1 0\n2 1 0\n" "1 0 0 1\n2 0 0 1\n" "1 2 1 0 0\n2 2 2 0 0\n")
    -- A modifier uses what its statement defines: `x = 1 with input as x[0]`.
    ∷ trial "x\n" ""
    "20 0 1 1 2 3 0 0\n6 1 1 1 0 0 0 0\n3 0 1 5 0 0 0 0\n16 0 1 1 5 6 0 0\n6 1 1 20 0 0 0 0\n3 0 1 1 0 0 0 0\n"
    "3 1 0 0 0 4 0\n" "1\n"
    ((1 ∷ 0 ∷ 0 ∷ 1 ∷ []) ∷ (1 ∷ 0 ∷ 1 ∷ []) ∷ [])
    (answers "1 1 0\n" "1 0 0 1\n" "1 2 1 0 0\n")
    -- Modifiers with comprehensions, both ways of an assignment: `a := 1`, `x = a with input as [c | c := a] with data as [c | c := a]`.
    ∷ trial "a\nc\nx\n" ""
    "21 0 1 1 2 3 0 0\n6 1 1 1 0 0 0 0\n3 0 1 1 0 0 0 0\n20 0 2 1 5 6 0 0\n6 3 2 1 0 0 0 0\n6 1 2 5 0 0 0 0\n10 0 2 19 8 0 3 9\n6 2 2 20 0 0 0 0\n10 0 2 49 10 0 2 0\n6 2 2 50 0 0 0 0\n21 0 2 54 12 13 0 0\n6 2 2 54 0 0 0 0\n6 1 2 59 0 0 0 0\n21 0 2 24 15 16 0 0\n6 2 2 24 0 0 0 0\n6 1 2 29 0 0 0 0\n"
    "3 1 0 0 0 0 2\n3 4 0 0 0 7 0\n3 11 0 0 0 0 0\n3 14 0 0 0 0 0\n" "1\n3\n4\n"
    ((1 ∷ 0 ∷ 0 ∷ 1 ∷ []) ∷ (1 ∷ 0 ∷ 1 ∷ []) ∷ (1 ∷ 1 ∷ 1 ∷ 3 ∷ []) ∷ (1 ∷ 1 ∷ 3 ∷ 1 ∷ []) ∷ (2 ∷ 0 ∷ 0 ∷ 2 ∷ []) ∷ (2 ∷ 0 ∷ 2 ∷ []) ∷ (3 ∷ 0 ∷ 0 ∷ 2 ∷ []) ∷ (3 ∷ 0 ∷ 2 ∷ []) ∷ [])
    (answers "1 1 0\n2 1 0\n3 1 0\n" "1 0 0 1\n1 1 1 1\n2 0 0 1\n3 0 0 1\n" "1 1 1 1 1\n1 2 3 0 0\n2 1 2 2 54\n2 3 1 0 0\n3 1 2 2 24\n3 3 1 0 0\n")
    ∷ []

-- All of them pass.
pub trials-pass : all passes trials ≡ true
unfolding computed
trials-pass = refl

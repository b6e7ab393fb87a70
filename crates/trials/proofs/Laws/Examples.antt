-- The trial queries of the specification.
use mathlib.Core.List.{List, [], ◌∷◌}
use Rattle.trials.proofs.Laws.Trial.{Trial, trial, answers, refuses}

-- A trial: names, built-ins, expressions, statements, queries; then what each query recorded, a row `query statement name used..` for a
-- definition; then the answer's rows, section by section, or the refusal.

-- The worked example, `y = x` above `x = input.a`.
abbrev pub worked : Trial
worked =
    trial "a\ninput\nx\ny\n" ""
    "20 0 1 1 2 3 0 0\n6 4 1 1 0 0 0 0\n6 3 1 5 0 0 0 0\n20 0 2 1 5 6 0 0\n6 3 2 1 0 0 0 0\n15 1 2 5 7 0 0 0\n6 2 2 5 0 0 0 0\n"
    "3 1 0 0 0 0 2\n3 4 0 0 0 0 0\n" "1\n"
    ((1 ∷ 0 ∷ 3 ∷ 4 ∷ []) ∷ (1 ∷ 0 ∷ 4 ∷ 3 ∷ []) ∷ (1 ∷ 1 ∷ 0 ∷ 3 ∷ []) ∷ (1 ∷ 1 ∷ 3 ∷ []) ∷ [])
    (answers "1 1 1\n" "1 0 1 1\n1 1 0 1\n" "1 2 3 0 0\n1 2 4 0 0\n")

abbrev pub trials : List Trial
trials =
    worked
    -- `x := x + 1`: {x<-, e<-x}, placed
    ∷ trial "x\n" ""
    "21 0 1 1 2 3 0 0\n6 1 1 1 0 0 0 0\n19 0 1 6 4 5 0 0\n6 1 1 6 0 0 0 0\n3 0 1 10 0 0 0 0\n"
    "3 1 0 0 0 0 0\n" "1\n"
    ((1 ∷ 0 ∷ 0 ∷ 1 ∷ []) ∷ (1 ∷ 0 ∷ 1 ∷ []) ∷ [])
    (answers "1 1 0\n" "1 0 0 1\n" "1 1 1 1 1\n")
    -- `x > 0` above `x := 1`: 12 at the first x
    ∷ trial "x\n" ""
    "18 0 1 1 2 3 0 0\n6 1 1 1 0 0 0 0\n3 0 1 5 0 0 0 0\n21 0 2 1 5 6 0 0\n6 1 2 1 0 0 0 0\n3 0 2 6 0 0 0 0\n"
    "3 1 0 0 0 0 2\n3 4 0 0 0 0 0\n" "1\n"
    []
    (refuses "12 1 1\n")
    -- `z > 0`: 11
    ∷ trial "z\n" ""
    "18 0 1 1 2 3 0 0\n6 1 1 1 0 0 0 0\n3 0 1 5 0 0 0 0\n"
    "3 1 0 0 0 0 0\n" "1\n"
    []
    (refuses "11 1 1\n")
    -- `not f(1, n)`, f of arity 1: n is gathered and never defined, unplaced
    ∷ trial "f\nn\n" "1 1 0 0\n"
    "13 0 1 5 2 3 0 0\n6 1 1 5 0 0 0 0\n3 0 1 7 0 0 0 4\n6 2 1 10 0 0 0 0\n"
    "4 1 0 0 0 0 0\n" "1\n"
    ((1 ∷ 0 ∷ 0 ∷ 2 ∷ []) ∷ [])
    (answers "1 0 0\n" "1 0 0 0\n" "1 2 2 0 0\n")
    ∷ []

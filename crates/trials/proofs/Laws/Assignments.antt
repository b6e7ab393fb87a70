-- Assignments and brackets: rules that are easy to miss, with the answers of the original.
use mathlib.Core.Path.{◌≡◌, refl}
use mathlib.Core.Bool.{true}
use mathlib.Core.List.{List, [], ◌∷◌}
use Rattle.base.specs.Lists.{all}
use Rattle.trials.proofs.Laws.Trial.{Trial, trial, answers, refuses, passes}
use Rattle.trials.proofs.Laws.Computed.{computed}

-- Names, built-ins, expressions, statements, queries; then what each query recorded, a row `query statement name used..` for a definition;
-- then the answer's rows, section by section, or the refusal.
abbrev pub trials : List Trial
trials =
    -- Both sides are patterns, so w is no undefined variable: `[z, [y]] := [w, [2, 3]]` is 13 at the inner array.
    trial "w\ny\nz\n" ""
    "21 0 1 1 2 6 0 0\n7 0 1 1 3 0 0 0\n6 3 1 1 0 0 0 4\n7 0 1 1 5 0 0 0\n6 2 1 1 0 0 0 0\n7 0 1 19 7 0 0 0\n6 1 1 20 0 0 0 8\n7 0 1 23 9 0 0 0\n3 0 1 1 0 0 0 10\n3 0 1 1 0 0 0 0\n"
    "3 1 0 0 0 0 0\n" "1\n"
    []
    (refuses "13 1 23\n")
    -- 13 at the inner array: `[z, [y]] := [1, [2, 3]]`.
    ∷ trial "y\nz\n" ""
    "21 0 1 1 2 6 0 0\n7 0 1 1 3 0 0 0\n6 2 1 1 0 0 0 4\n7 0 1 1 5 0 0 0\n6 1 1 1 0 0 0 0\n7 0 1 19 7 0 0 0\n3 0 1 20 0 0 0 8\n7 0 1 23 9 0 0 0\n3 0 1 1 0 0 0 10\n3 0 1 1 0 0 0 0\n"
    "3 1 0 0 0 0 0\n" "1\n"
    []
    (refuses "13 1 23\n")
    -- `:=` twice is 12 at the first x: `x := 1`, `x := 2`.
    ∷ trial "x\n" ""
    "21 0 1 1 2 3 0 0\n6 1 1 1 0 0 0 0\n3 0 1 1 0 0 0 0\n21 0 2 1 5 6 0 0\n6 1 2 1 0 0 0 0\n3 0 1 1 0 0 0 0\n"
    "3 1 0 0 0 0 2\n3 4 0 0 0 0 0\n" "1\n"
    []
    (refuses "12 1 1\n")
    -- A Set is no pattern, so 11: `{n} = [1]`.
    ∷ trial "n\n" ""
    "20 0 1 1 2 4 0 0\n8 0 1 1 3 0 0 0\n6 1 1 2 0 0 0 0\n7 0 1 1 5 0 0 0\n3 0 1 1 0 0 0 0\n"
    "3 1 0 0 0 0 0\n" "1\n"
    []
    (refuses "11 1 2\n")
    -- `=` has no 12: `x > 0` above `x = 1`.
    ∷ trial "x\n" ""
    "18 0 1 1 2 3 0 0\n6 1 1 1 0 0 0 0\n3 0 1 9 0 0 0 0\n20 0 2 1 5 6 0 0\n6 1 2 1 0 0 0 0\n3 0 1 1 0 0 0 0\n"
    "3 1 0 0 0 0 2\n3 4 0 0 0 0 0\n" "1\n"
    ((1 ∷ 0 ∷ 0 ∷ 1 ∷ []) ∷ (1 ∷ 1 ∷ 0 ∷ 1 ∷ []) ∷ (1 ∷ 1 ∷ 1 ∷ []) ∷ [])
    (answers "1 1 0\n" "1 0 1 1\n1 1 0 1\n" "1 2 1 0 0\n")
    -- Two indexes: `a := [1]`, `a[i][j]`.
    ∷ trial "a\ni\nj\n" ""
    "21 0 1 1 2 3 0 0\n6 1 1 1 0 0 0 0\n7 0 1 1 4 0 0 0\n3 0 1 1 0 0 0 0\n16 0 1 1 6 9 0 0\n16 0 1 1 7 8 0 0\n6 1 2 1 0 0 0 0\n6 2 2 3 0 0 0 0\n6 3 2 6 0 0 0 0\n"
    "3 1 0 0 0 0 2\n3 5 0 0 0 0 0\n" "1\n"
    ((1 ∷ 0 ∷ 0 ∷ 1 ∷ []) ∷ (1 ∷ 0 ∷ 1 ∷ []) ∷ (1 ∷ 1 ∷ 0 ∷ 1 ∷ 2 ∷ 3 ∷ []) ∷ (1 ∷ 1 ∷ 2 ∷ 1 ∷ []) ∷ (1 ∷ 1 ∷ 3 ∷ 1 ∷ 2 ∷ []) ∷ [])
    (answers "1 1 0\n" "1 0 0 1\n1 1 1 1\n" "1 1 1 1 1\n1 2 2 0 0\n1 2 3 0 0\n")
    ∷ []

-- All of them pass.
pub trials-pass : all passes trials ≡ true
unfolding computed
trials-pass = refl

-- Where 11 and 12 lie: at the variable, also where the expressions around it lie elsewhere. The answers are the original's.
use mathlib.Core.Path.{◌≡◌, refl}
use mathlib.Core.Bool.{true}
use mathlib.Core.List.{List, [], ◌∷◌}
use Rattle.base.specs.Lists.{all}
use Rattle.trials.proofs.Laws.Trial.{Trial, trial, refuses, passes}
use Rattle.trials.proofs.Laws.Computed.{computed}

-- Names, built-ins, expressions, statements, queries; nothing is recorded of a sheet that is refused.
abbrev pub trials : List Trial
trials =
    -- `0 < z`
    trial "z\n" ""
    "18 0 1 1 2 3 0 0\n3 0 1 1 0 0 0 0\n6 1 1 5 0 0 0 0\n"
    "3 1 0 0 0 0 0\n" "1\n"
    []
    (refuses "11 1 5\n")
    -- `0 < x` above `x := 1`
    ∷ trial "x\n" ""
    "18 0 1 1 2 3 0 0\n3 0 1 1 0 0 0 0\n6 1 1 5 0 0 0 0\n21 0 2 1 5 6 0 0\n6 1 2 1 0 0 0 0\n3 0 2 6 0 0 0 0\n"
    "3 1 0 0 0 0 2\n3 4 0 0 0 0 0\n" "1\n"
    []
    (refuses "12 1 5\n")
    -- `[0, x] = [1, 2]` above `some x`: the use is the array's member
    ∷ trial "x\n" ""
    "20 0 1 1 2 5 0 0\n7 0 1 1 3 0 0 0\n3 0 1 2 0 0 0 4\n6 1 1 5 0 0 0 0\n7 0 1 10 6 0 0 0\n3 0 1 11 0 0 0 7\n3 0 1 14 0 0 0 0\n6 1 2 6 0 0 0 0\n"
    "3 1 0 0 0 0 2\n1 8 0 0 0 0 0\n" "1\n"
    []
    (refuses "12 1 5\n")
    -- In a nested query, `y = [1 | 0 < z]`
    ∷ trial "y\nz\n" ""
    "20 0 1 1 2 3 0 0\n6 1 1 1 0 0 0 0\n10 0 1 5 4 0 2 0\n3 0 1 6 0 0 0 0\n18 0 1 10 6 7 0 0\n3 0 1 10 0 0 0 0\n6 2 1 14 0 0 0 0\n"
    "3 1 0 0 0 0 0\n3 5 0 0 0 0 0\n" "1\n2\n"
    []
    (refuses "11 1 14\n")
    -- In the body of `every v in [1] { z == v }`
    ∷ trial "v\nz\n" ""
    "6 1 1 7 0 0 0 0\n7 0 1 12 3 0 0 0\n3 0 1 13 0 0 0 0\n18 0 1 18 5 6 0 0\n6 2 1 18 0 0 0 0\n6 1 1 23 0 0 0 0\n"
    "5 0 1 2 2 0 0\n3 4 0 0 0 0 0\n" "1\n2\n"
    []
    (refuses "11 1 18\n")
    ∷ []

-- All of them pass.
pub trials-pass : all passes trials ≡ true
unfolding computed
trials-pass = refl

-- Question 6 on small sheets: nested queries and their levels, `every`, `some`, chains, rings. Each is read, or refused with its number and line.
use mathlib.Core.Path.{◌≡◌, refl}
use mathlib.Core.Bool.{true}
use mathlib.Core.List.{List, [], ◌∷◌}
use Prim.Native.String.{String, ◌++◌}
use Rattle.base.specs.Lists.{all}
use Rattle.sheet.proofs.Laws.Trials.{FormTrial}
use Rattle.sheet.proofs.Laws.ReadTrials.{read_trial, judged_by, read_passes, rows}

-- ---- sheets by their rows

abbrev sheet_with : (names expressions statements queries : List String) → String
sheet_with names expressions statements queries =
    "name\n" ++ rows names ++ "arity first second third\n" ++ rows [] ++ "kind name line col first second third next\n" ++ rows expressions
    ++ "form first second third query with next\n" ++ rows statements ++ "statement\n" ++ rows queries

-- With one name. Expression 1 stands in line 7; of e expressions and s statements, statement 1 in line 9 + e and query 1 in line 11 + e + s.
abbrev one_name : (expressions statements queries : List String) → String
one_name = sheet_with ("x" ∷ [])

-- ---- rows

abbrev x : String
x = "6 1 1 1 0 0 0 0"

abbrev x_then : String → String
x_then next = "6 1 1 1 0 0 0 " ++ next

abbrev number : String
number = "3 0 1 1 0 0 0 0"

abbrev empty_array : String
empty_array = "7 0 1 1 0 0 0 0"

-- An ArrayCompr.
abbrev compr : (term query : String) → String
compr term query = "10 0 1 1 " ++ term ++ " 0 " ++ query ++ " 0"

abbrev array : String → String
array first = "7 0 1 1 " ++ first ++ " 0 0 0"

abbrev object : String → String
object first = "9 0 1 1 " ++ first ++ " 0 0 0"

-- The statement that is an expression.
abbrev expr : String → String
expr first = "3 " ++ first ++ " 0 0 0 0 0"

-- ---- the sheets

abbrev pub comprehensions : List FormTrial
comprehensions =
    -- `[x | x]`
    read_trial (one_name (compr "2" "2" ∷ x ∷ x ∷ []) (expr "1" ∷ expr "3" ∷ []) ("1" ∷ "2" ∷ [])) 0 0
    -- its query is the outer one; it has no query; it has no term
    ∷ read_trial (one_name (compr "2" "1" ∷ x ∷ []) (expr "1" ∷ []) ("1" ∷ [])) 6 7
    ∷ read_trial (one_name (compr "2" "0" ∷ x ∷ []) (expr "1" ∷ []) ("1" ∷ [])) 6 7
    ∷ read_trial (one_name (compr "0" "2" ∷ []) (expr "1" ∷ []) ("1" ∷ "0" ∷ [])) 6 7
    -- its term is named by a statement too, and is itself at fault
    ∷ read_trial (one_name (compr "2" "2" ∷ x ∷ []) (expr "1" ∷ expr "2" ∷ []) ("1" ∷ "2" ∷ [])) 6 8
    -- a comprehension in the term lies in the outer one's query: its own is a larger one
    ∷ read_trial (one_name (compr "2" "2" ∷ compr "3" "3" ∷ x ∷ []) (expr "1" ∷ []) ("1" ∷ "0" ∷ "0" ∷ [])) 0 0
    ∷ read_trial (one_name (compr "2" "3" ∷ compr "3" "2" ∷ x ∷ []) (expr "1" ∷ []) ("1" ∷ "0" ∷ "0" ∷ [])) 6 8
    ∷ []

-- Comprehensions one in the term of the other, down to level 8, and what follows them.
abbrev to_level8 : List String → List String
to_level8 rest =
    compr "2" "2" ∷ compr "3" "3" ∷ compr "4" "4" ∷ compr "5" "5" ∷ compr "6" "6" ∷ compr "7" "7" ∷ compr "8" "8" ∷ rest

abbrev eight : List String → List String
eight rest = "1" ∷ "0" ∷ "0" ∷ "0" ∷ "0" ∷ "0" ∷ "0" ∷ "0" ∷ rest

abbrev pub levels : List FormTrial
levels =
    read_trial (one_name (to_level8 (x ∷ [])) (expr "1" ∷ []) (eight [])) 0 0
    ∷ read_trial (one_name (to_level8 (compr "9" "9" ∷ x ∷ [])) (expr "1" ∷ []) (eight ("0" ∷ []))) 6 14
    -- two rows of query 8 name query 9, which is at fault for that; but each of them names a query of level 9, and the first comes first
    ∷ read_trial (sheet_with []
    (compr "2" "2" ∷ number ∷ compr "4" "3" ∷ number ∷ compr "6" "4" ∷ number ∷ compr "8" "5" ∷ number ∷ compr "10" "6" ∷ number
    ∷ compr "12" "7" ∷ number ∷ compr "14" "8" ∷ number ∷ compr "16" "9" ∷ number ∷ compr "18" "9" ∷ number ∷ [])
    (expr "1" ∷ expr "3" ∷ expr "5" ∷ expr "7" ∷ expr "9" ∷ expr "11" ∷ expr "13" ∷ "3 15 0 0 0 0 9" ∷ expr "17" ∷ [])
    ("1" ∷ "2" ∷ "3" ∷ "4" ∷ "5" ∷ "6" ∷ "7" ∷ "8" ∷ "0" ∷ [])) 6 20
    ∷ []

abbrev pub everys : List FormTrial
everys =
    -- without a key, and with one
    read_trial (one_name (x ∷ empty_array ∷ []) ("5 0 1 2 2 0 0" ∷ []) ("1" ∷ "0" ∷ [])) 0 0
    ∷ read_trial (one_name (x ∷ x ∷ empty_array ∷ []) ("5 1 2 3 2 0 0" ∷ []) ("1" ∷ "0" ∷ [])) 0 0
    -- the key, the value is no Var
    ∷ read_trial (one_name (number ∷ x ∷ empty_array ∷ []) ("5 1 2 3 2 0 0" ∷ []) ("1" ∷ "0" ∷ [])) 6 12
    ∷ read_trial (one_name (number ∷ empty_array ∷ []) ("5 0 1 2 2 0 0" ∷ []) ("1" ∷ "0" ∷ [])) 6 11
    -- no body; the outer query for a body; one body for two
    ∷ read_trial (one_name (x ∷ empty_array ∷ []) ("5 0 1 2 0 0 0" ∷ []) ("1" ∷ [])) 6 11
    ∷ read_trial (one_name (x ∷ empty_array ∷ []) ("5 0 1 2 1 0 0" ∷ []) ("1" ∷ [])) 6 11
    ∷ read_trial (one_name (x ∷ empty_array ∷ x ∷ empty_array ∷ []) ("5 0 1 2 2 0 2" ∷ "5 0 3 4 2 0 0" ∷ []) ("1" ∷ "0" ∷ [])) 6 18
    ∷ []

abbrev pub chains : List FormTrial
chains =
    -- `some x, x`; a member that is no Var; no member
    read_trial (one_name (x_then "2" ∷ x ∷ []) ("1 1 0 0 0 0 0" ∷ []) ("1" ∷ [])) 0 0
    ∷ read_trial (one_name (x_then "2" ∷ number ∷ []) ("1 1 0 0 0 0 0" ∷ []) ("1" ∷ [])) 6 11
    ∷ read_trial (one_name [] ("1 0 0 0 0 0 0" ∷ []) ("1" ∷ [])) 6 9
    -- an Object with a key and a value, with one member, with three; a chain that breaks off is not judged
    ∷ read_trial (one_name (object "2" ∷ x_then "3" ∷ x ∷ []) (expr "1" ∷ []) ("1" ∷ [])) 0 0
    ∷ read_trial (one_name (object "2" ∷ x ∷ []) (expr "1" ∷ []) ("1" ∷ [])) 6 7
    ∷ read_trial (one_name (object "2" ∷ x_then "3" ∷ x_then "4" ∷ x ∷ []) (expr "1" ∷ []) ("1" ∷ [])) 6 7
    ∷ read_trial (one_name (object "2" ∷ x_then "9" ∷ []) (expr "1" ∷ []) ("1" ∷ [])) 6 8
    ∷ []

abbrev pub rings : List FormTrial
rings =
    -- a chain that leads back, a row that names itself, statements that lead back
    read_trial (one_name (array "2" ∷ x_then "3" ∷ x_then "2" ∷ []) (expr "1" ∷ []) ("1" ∷ [])) 6 8
    ∷ read_trial (one_name ("14 0 1 1 1 0 0 0" ∷ []) (expr "1" ∷ []) ("1" ∷ [])) 6 7
    ∷ read_trial (one_name (x ∷ x ∷ []) ("3 1 0 0 0 0 2" ∷ "3 2 0 0 0 0 1" ∷ []) ("1" ∷ [])) 6 11
    -- a comprehension in its own query; two, each in the other's
    ∷ read_trial (one_name (compr "2" "2" ∷ x ∷ compr "4" "2" ∷ x ∷ []) (expr "1" ∷ expr "3" ∷ []) ("1" ∷ "2" ∷ [])) 6 9
    ∷ read_trial (one_name (x ∷ compr "3" "3" ∷ x ∷ compr "5" "2" ∷ x ∷ []) (expr "1" ∷ expr "2" ∷ expr "4" ∷ []) ("1" ∷ "2" ∷ "3" ∷ [])) 6 10
    ∷ []

pub comprehensions-pass : all read_passes comprehensions ≡ true
unfolding judged_by
comprehensions-pass = refl

pub levels-pass : all read_passes levels ≡ true
unfolding judged_by
levels-pass = refl

pub everys-pass : all read_passes everys ≡ true
unfolding judged_by
everys-pass = refl

pub chains-pass : all read_passes chains ≡ true
unfolding judged_by
chains-pass = refl

pub rings-pass : all read_passes rings ≡ true
unfolding judged_by
rings-pass = refl

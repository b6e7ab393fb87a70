-- The rows of an answer, and their text.
-- Beside: document 01, Answer.
use Rattle.std.specs.Prelude.{cond, List, [], ◌∷◌, ◌++◌, map, ℕ, zero, suc, ◌+◌, ◌/◌, ◌%◌, ltb, get_or}
use Rattle.std.proofs.Math.Option.{Option, none, some}
use Prim.Native.String.{String}
use Rattle.sheet.specs.Text.{newline, space, bytes}
use Rattle.base.specs.Lists.{range, concat_map}
use Rattle.order.specs.Turns.{placed, order, reached, mark}
use Rattle.sheet.specs.Sheet.{name_bound}
use Rattle.scope.specs.Scopes.{elements, Span, span_in}
use Rattle.definition.specs.States.{QuerySchedule, schedule_of}

-- ---- numbers and rows as text

-- A number in decimal, with at most so many digits.
unfoldable pub digits : ℕ → ℕ → List ℕ
digits zero n = []
digits (suc most) n =
    let front = digits most (n / 10) in
    cond (ltb n 10) ((48 + n) ∷ []) (front ++ ((48 + n % 10) ∷ []))

-- A value, which is at most 65,535.
abbrev pub decimal : ℕ → List ℕ
decimal n = digits 5 n

-- A row as a line: one space between the values.
abbrev pub row_line : List ℕ → List ℕ
row_line [] = newline ∷ []
row_line (x ∷ []) = decimal x ++ (newline ∷ [])
row_line (x ∷ (y ∷ row)) = decimal x ++ (space ∷ row_line (y ∷ row))

-- ---- the rows of an answer

-- `query placed input`; a query that is never analysed has placed 2 and no other row.
abbrev pub query_rows : ℕ → Option QuerySchedule → List (List ℕ)
query_rows q none = (q ∷ 2 ∷ 0 ∷ []) ∷ []
query_rows q (some a) = (q ∷ mark (placed a.definitions a.count name_bound) ∷ mark a.scope.uses_input ∷ []) ∷ []

-- `query place index reached`: the statement at each place of the order, with its mark.
abbrev pub place_rows : ℕ → Option QuerySchedule → List (List ℕ)
place_rows q none = []
place_rows q (some a) =
    map (λ k. let i = get_or (order a.definitions a.count name_bound) k 0 in
    q ∷ k ∷ i ∷ mark (reached a.definitions a.count name_bound i) ∷ []) (range 0 a.count)

-- The row of a local, at its position.
abbrev pub local_row : ℕ → ℕ → Option Span → List (List ℕ)
local_row q x none = []
local_row q x (some p) = (q ∷ 1 ∷ x ∷ p.line ∷ p.col ∷ []) ∷ []

-- `query set name line col`: set 1, the locals with their positions; 2, unscoped; 3, inputs.
abbrev pub set_rows : ℕ → Option QuerySchedule → List (List ℕ)
set_rows q none = []
set_rows q (some a) =
    concat_map (λ x. local_row q x (span_in a.scope.locals x)) (range 0 name_bound)
    ++ (map (λ x. q ∷ 2 ∷ x ∷ 0 ∷ 0 ∷ []) (elements a.scope.unscoped)
    ++ map (λ x. q ∷ 3 ∷ x ∷ 0 ∷ 0 ∷ []) (elements a.scope.inputs))

-- The rows of all n queries.
unfoldable pub all_rows : (ℕ → Option QuerySchedule → List (List ℕ)) → ℕ → List QuerySchedule → List (List ℕ)
all_rows rows n schedules = concat_map (λ q. rows q (schedule_of schedules q)) (range 1 (suc n))

-- ---- its text

-- A section: the line of names, the rows, an empty line.
unfoldable pub section : String → List (List ℕ) → List ℕ
section heading rows = bytes heading ++ (newline ∷ (concat_map row_line rows ++ (newline ∷ [])))

-- The answer about n queries.
unfoldable pub answer_text : ℕ → List QuerySchedule → List ℕ
answer_text n schedules =
    section "query placed input" (all_rows query_rows n schedules)
    ++ (section "query place index reached" (all_rows place_rows n schedules)
    ++ section "query set name line col" (all_rows set_rows n schedules))

-- What the printing program writes of a refusal.
unfoldable pub refusal_text : ℕ → ℕ → ℕ → List ℕ
refusal_text number l c = section "refusal line col" ((number ∷ l ∷ c ∷ []) ∷ [])

-- What a walk over the leaves of a pattern enters of each kind.
use Rattle.std.specs.Prelude.{List, [], ◌∷◌, get_or}
use Rattle.sheet.specs.declared.Row.{Row}
use Rattle.scope.specs.Traverse.{Child, first_field}

-- Of an Array.
abbrev items : Child
items = first_field

-- Of an Object: keys and values, in turn.
abbrev fields : Child
fields = first_field

-- In the order of the Rust's match.
abbrev pub pattern_children : List (List Child)
pattern_children =
    []  -- 0 no kind
    ∷ []  -- 1 String
    ∷ []  -- 2 RawString
    ∷ []  -- 3 Number
    ∷ []  -- 4 Bool
    ∷ []  -- 5 Null
    ∷ []  -- 6 Var
    ∷ (items ∷ [])  -- 7 Array
    ∷ []  -- 8 Set
    ∷ (fields ∷ [])  -- 9 Object
    ∷ []  -- 10 ArrayCompr
    ∷ []  -- 11 SetCompr
    ∷ []  -- 12 ObjectCompr
    ∷ []  -- 13 Call
    ∷ []  -- 14 UnaryExpr
    ∷ []  -- 15 RefDot
    ∷ []  -- 16 RefBrack
    ∷ []  -- 17 BinExpr
    ∷ []  -- 18 BoolExpr
    ∷ []  -- 19 ArithExpr
    ∷ []  -- 20 AssignExpr `Eq`
    ∷ []  -- 21 AssignExpr `ColEq`
    ∷ []  -- 22 Membership
    ∷ []

abbrev pub pattern_children_of : Row → List Child
pattern_children_of w = get_or pattern_children w.kind []

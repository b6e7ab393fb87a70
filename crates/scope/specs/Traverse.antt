-- What a walk over an expression meets. A visiting function of the Rust answers `false` at expressions that `traverse` would not enter
-- anyway, or at all but Array and Object: so there are two walks, and each is the list of what it meets, in order.
-- Beside: traversal.rs, `traverse`.
use Rattle.std.specs.Prelude.{cond, List, [], ◌∷◌, ◌++◌, get_or}
use Rattle.base.specs.Lists.{concat_map}
use Rattle.sheet.specs.declared.Row.{Row}
use Rattle.sheet.specs.Kinds.{is_var, is_pattern, is_compr}
use Rattle.scope.specs.Trees.{Tree, nil, node, row_of}

-- ---- the children of an expression, by the Rust's names; each is one of a row's three fields, with its chain

pub data Child : Type 0 where
  first_field second_field third_field : Child

-- Of an Array, of a Set.
abbrev items : Child
items = first_field

-- Of an Object: keys and values, in turn.
abbrev fields : Child
fields = first_field

-- Of a Call, whose first field is its function.
abbrev params : Child
params = second_field

-- Of a UnaryExpr.
abbrev expr : Child
expr = first_field

-- Of a RefDot, of a RefBrack: what has the field, what is indexed.
abbrev refr : Child
refr = first_field

-- Of a RefBrack.
abbrev index : Child
index = second_field

-- Of a BinExpr, a BoolExpr, an ArithExpr, an AssignExpr: left, right.
abbrev lhs : Child
lhs = first_field

abbrev rhs : Child
rhs = second_field

-- Of a Membership; without a key the field is 0.
abbrev key : Child
key = first_field

abbrev value : Child
value = second_field

abbrev collection : Child
collection = third_field

-- What is entered of each kind, in the order of the Rust's match.
abbrev pub children : List (List Child)
children =
    []  -- 0 no kind
    ∷ []  -- 1 String
    ∷ []  -- 2 RawString
    ∷ []  -- 3 Number
    ∷ []  -- 4 Bool
    ∷ []  -- 5 Null
    ∷ []  -- 6 Var
    ∷ (items ∷ [])  -- 7 Array
    ∷ (items ∷ [])  -- 8 Set
    ∷ (fields ∷ [])  -- 9 Object
    ∷ []  -- 10 ArrayCompr
    ∷ []  -- 11 SetCompr
    ∷ []  -- 12 ObjectCompr
    ∷ (params ∷ [])  -- 13 Call
    ∷ (expr ∷ [])  -- 14 UnaryExpr
    ∷ (refr ∷ [])  -- 15 RefDot
    ∷ (refr ∷ index ∷ [])  -- 16 RefBrack
    ∷ (lhs ∷ rhs ∷ [])  -- 17 BinExpr
    ∷ (lhs ∷ rhs ∷ [])  -- 18 BoolExpr
    ∷ (lhs ∷ rhs ∷ [])  -- 19 ArithExpr
    ∷ (lhs ∷ rhs ∷ [])  -- 20 AssignExpr `Eq`
    ∷ (lhs ∷ rhs ∷ [])  -- 21 AssignExpr `ColEq`
    ∷ (key ∷ value ∷ collection ∷ [])  -- 22 Membership
    ∷ []

abbrev pub children_of : Row → List Child
children_of w = get_or children w.kind []

-- Of what the three fields hold, that which some children do.
abbrev pub child_of : {A : Type 0} → Child → A → A → A → A
child_of first_field a b c = a
child_of second_field a b c = b
child_of third_field a b c = c

abbrev pub entered : {A : Type 0} → List Child → List A → List A → List A → List A
entered cs a b c = concat_map (λ k. child_of k a b c) cs

-- `traverse`: every expression met, an expression before its parts, each without the rest of its chain.
unfoldable pub traverse : Tree → List Tree
traverse nil = []
traverse (node w a b c n) =
    (node w a b c nil ∷ entered (children_of w) (traverse a) (traverse b) (traverse c)) ++ traverse n

-- The leaves of a pattern: Array and Object are entered, nothing else is.
unfoldable pub leaves : Tree → List Tree
leaves nil = []
leaves (node w a b c n) = cond (is_pattern w) (leaves a) (node w a b c nil ∷ []) ++ leaves n

-- The variables among expressions.
abbrev pub vars : List Tree → List Row
vars = concat_map (λ e. cond (is_var (row_of e)) (row_of e ∷ []) [])

-- The comprehensions that `traverse` meets.
abbrev pub comprs : Tree → List Tree
comprs t = concat_map (λ e. cond (is_compr (row_of e)) (e ∷ []) []) (traverse t)

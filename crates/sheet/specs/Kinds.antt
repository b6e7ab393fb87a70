-- The kinds of expressions that the analysis tells apart, by their numbers in the sheet.
-- Beside: document 01, Sheet; ast.rs, `Expr`.
use Rattle.std.specs.Prelude.{Bool, ◌||◌, ◌&&◌, eqb, leb}
use Rattle.sheet.specs.declared.Row.{Row}

-- A String; a RawString is none.
abbrev pub is_string : Row → Bool
is_string w = eqb w.kind 1

-- A Var.
abbrev pub is_var : Row → Bool
is_var w = eqb w.kind 6

-- An Array.
abbrev pub is_array : Row → Bool
is_array w = eqb w.kind 7

-- An Array or an Object: what a pattern is made of.
abbrev pub is_pattern : Row → Bool
is_pattern w = eqb w.kind 7 || eqb w.kind 9

-- An ArrayCompr, a SetCompr or an ObjectCompr.
abbrev pub is_compr : Row → Bool
is_compr w = leb 10 w.kind && leb w.kind 12

-- A Call.
abbrev pub is_call : Row → Bool
is_call w = eqb w.kind 13

-- A RefDot, `a.b`.
abbrev pub is_ref_dot : Row → Bool
is_ref_dot w = eqb w.kind 15

-- A RefBrack, `a[b]`.
abbrev pub is_ref_brack : Row → Bool
is_ref_brack w = eqb w.kind 16

-- An AssignExpr, `Eq` or `ColEq`.
abbrev pub is_assign : Row → Bool
is_assign w = eqb w.kind 20 || eqb w.kind 21

-- An AssignExpr `ColEq`, that is `:=`.
abbrev pub is_col_eq : Row → Bool
is_col_eq w = eqb w.kind 21

-- Which number in a sheet stands for each kind of expression and each form of statement.
use Rattle.std.specs.Prelude.{◌≡◌, ℕ, zero, suc}
use Rattle.sheet.specs.declared.kinds.Kind.{Kind}
use Rattle.sheet.specs.declared.kinds.Kind.TheVariants as kind
use Rattle.sheet.specs.declared.kinds.Form.{Form}
use Rattle.sheet.specs.declared.kinds.Form.TheVariants as form

-- The number k is none from 1 to n.
abbrev pub NoArm : ℕ → ℕ → Type 0
NoArm zero k = Unit
NoArm (suc n) k = NoArm n k × (k ≡ suc n → ⊥)

-- The number stands for the kind; it is no kind's where the kind is unknown.
abbrev pub KindNumbered : ℕ → Kind → Type 0
KindNumbered n kind.String = n ≡ 1
KindNumbered n kind.RawString = n ≡ 2
KindNumbered n kind.Number = n ≡ 3
KindNumbered n kind.Bool = n ≡ 4
KindNumbered n kind.Null = n ≡ 5
KindNumbered n kind.Var = n ≡ 6
KindNumbered n kind.Array = n ≡ 7
KindNumbered n kind.Set = n ≡ 8
KindNumbered n kind.Object = n ≡ 9
KindNumbered n kind.ArrayCompr = n ≡ 10
KindNumbered n kind.SetCompr = n ≡ 11
KindNumbered n kind.ObjectCompr = n ≡ 12
KindNumbered n kind.Call = n ≡ 13
KindNumbered n kind.UnaryExpr = n ≡ 14
KindNumbered n kind.RefDot = n ≡ 15
KindNumbered n kind.RefBrack = n ≡ 16
KindNumbered n kind.BinExpr = n ≡ 17
KindNumbered n kind.BoolExpr = n ≡ 18
KindNumbered n kind.ArithExpr = n ≡ 19
KindNumbered n kind.AssignEq = n ≡ 20
KindNumbered n kind.AssignColEq = n ≡ 21
KindNumbered n kind.Membership = n ≡ 22
KindNumbered n kind.Unknown = NoArm 22 n

-- The same of a form.
abbrev pub FormNumbered : ℕ → Form → Type 0
FormNumbered n form.SomeVars = n ≡ 1
FormNumbered n form.SomeIn = n ≡ 2
FormNumbered n form.Expr = n ≡ 3
FormNumbered n form.NotExpr = n ≡ 4
FormNumbered n form.Every = n ≡ 5
FormNumbered n form.Unknown = NoArm 5 n

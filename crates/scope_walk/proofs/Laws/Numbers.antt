-- The kinds by their numbers: what a table by numbers says of a row is what it says of the number of the row's kind.
use mathlib.Core.Path.{◌≡◌, refl, sym, ap, ◌∙◌}
use mathlib.Core.Bool.{false}
use mathlib.Core.List.{List, [], ◌∷◌, map}
use mathlib.Core.Logic.{◌⊎◌, inl, inr}
use Prim.Native.Nat.{ℕ}
use native.Mathlib.Omega.{arith}
use lib.Dec.{eqb}
use lib.ListN.{get_or}
use borrow.Author.Tests.{eq-eqb}
use Rattle.base.proofs.Laws.Truth.{not-both}
use Rattle.sheet_fields.proofs.Laws.Tables.{left_over}
use Rattle.sheet.specs.Inner.Kinds.{KindNumbered, NoArm}
use Rattle.sheet.specs.declared.kinds.Kind.{Kind}
use Rattle.sheet.specs.declared.kinds.Kind.TheVariants as kind

-- No number of a sheet is 0, nor is one past the last kind's.
abbrev pub number_of : Kind → ℕ
number_of kind.String = 1
number_of kind.RawString = 2
number_of kind.Number = 3
number_of kind.Bool = 4
number_of kind.Null = 5
number_of kind.Var = 6
number_of kind.Array = 7
number_of kind.Set = 8
number_of kind.Object = 9
number_of kind.ArrayCompr = 10
number_of kind.SetCompr = 11
number_of kind.ObjectCompr = 12
number_of kind.Call = 13
number_of kind.UnaryExpr = 14
number_of kind.RefDot = 15
number_of kind.RefBrack = 16
number_of kind.BinExpr = 17
number_of kind.BoolExpr = 18
number_of kind.ArithExpr = 19
number_of kind.AssignEq = 20
number_of kind.AssignColEq = 21
number_of kind.Membership = 22
number_of kind.Unknown = 0

-- For an f that gives at every number of no kind what it gives at 0.
pub by_number : {A : Type 0} (f : ℕ → A) (n : ℕ) (k : Kind) → KindNumbered n k → (NoArm 22 n → f n ≡ f 0) → f n ≡ f (number_of k)
by_number f n kind.Unknown e past = past e
by_number f n _ e past = ap f e

-- ---- a number stands for one kind

abbrev by_numbers : List Kind
by_numbers =
    kind.Unknown ∷ kind.String ∷ kind.RawString ∷ kind.Number ∷ kind.Bool ∷ kind.Null ∷ kind.Var ∷ kind.Array ∷ kind.Set ∷ kind.Object
    ∷ kind.ArrayCompr ∷ kind.SetCompr ∷ kind.ObjectCompr ∷ kind.Call ∷ kind.UnaryExpr ∷ kind.RefDot ∷ kind.RefBrack ∷ kind.BinExpr
    ∷ kind.BoolExpr ∷ kind.ArithExpr ∷ kind.AssignEq ∷ kind.AssignColEq ∷ kind.Membership ∷ []

abbrev kind_at : ℕ → Kind
kind_at n = get_or by_numbers n kind.Unknown

kind-at : (n : ℕ) (k : Kind) → KindNumbered n k → kind_at n ≡ k
kind-at n kind.Unknown e = sym (left_over by_numbers kind.Unknown 22 n (omega arith) refl e)
kind-at n _ e = ap kind_at e

-- Another kind has another number.
pub other_number : {k a : Kind} (n : ℕ) → KindNumbered n k → (k ≡ a → ⊥) → KindNumbered n a → ⊥
other_number {k} {a} n e other h = other (sym (kind-at n k e) ∙ kind-at n a h)

-- ---- an arm for some kinds

-- The kind is one of them, as an arm knows it.
abbrev pub OneOf : Kind → List Kind → Type 0
OneOf k [] = ⊥
OneOf k (a ∷ []) = k ≡ a
OneOf k (a ∷ b ∷ ks) = (k ≡ a) ⊎ OneOf k (b ∷ ks)

-- What is the same of each of them is so of this one.
pub same_of : {A : Type 0} (f : Kind → A) (v : A) (k : Kind) (ks : List Kind) → map f ks ≡ map (λ j. v) ks → OneOf k ks → f k ≡ v
same_of f v k [] e is = absurd is
same_of f v k (a ∷ []) e is = let here : f a ≡ v = cc in ap f is ∙ here
same_of f v k (a ∷ b ∷ ks) e (inl is) = let here : f a ≡ v = cc in ap f is ∙ here
same_of f v k (a ∷ b ∷ ks) e (inr is) = let rest : map f (b ∷ ks) ≡ map (λ j. v) (b ∷ ks) = cc in same_of f v k (b ∷ ks) rest is

-- None of the kinds is this one.
abbrev pub Without : Kind → List Kind → Type 0
Without a ks = map (λ j. eqb (number_of j) (number_of a)) ks ≡ map (λ j. false) ks

-- So one of them is another, and its number is another (`other_number`).
pub none_of : {k a : Kind} (ks : List Kind) → Without a ks → OneOf k ks → k ≡ a → ⊥
none_of {k} {a} ks without is e =
    not-both (eq-eqb (number_of k) (number_of a) (ap number_of e)) (same_of (λ j. eqb (number_of j) (number_of a)) false k ks without is)

-- The kinds that `traverse` treats alike.
abbrev pub constants : List Kind
constants = kind.String ∷ kind.RawString ∷ kind.Number ∷ kind.Bool ∷ kind.Null ∷ []

abbrev pub collections : List Kind
collections = kind.Array ∷ kind.Set ∷ kind.Object ∷ []

abbrev pub compr_kinds : List Kind
compr_kinds = kind.ArrayCompr ∷ kind.SetCompr ∷ kind.ObjectCompr ∷ []

abbrev pub wrappers : List Kind
wrappers = kind.UnaryExpr ∷ kind.RefDot ∷ []

abbrev pub operators : List Kind
operators = kind.BinExpr ∷ kind.BoolExpr ∷ kind.ArithExpr ∷ kind.AssignEq ∷ kind.AssignColEq ∷ []

-- Those of a pattern.
abbrev pub patterns : List Kind
patterns = kind.Array ∷ kind.Object ∷ []

-- Those behind them, which are leaves.
abbrev pub behind_patterns : List Kind
behind_patterns =
    kind.ArrayCompr ∷ kind.SetCompr ∷ kind.ObjectCompr ∷ kind.Call ∷ kind.UnaryExpr ∷ kind.RefDot ∷ kind.RefBrack ∷ kind.BinExpr
    ∷ kind.BoolExpr ∷ kind.ArithExpr ∷ kind.AssignEq ∷ kind.AssignColEq ∷ kind.Membership ∷ kind.Unknown ∷ []

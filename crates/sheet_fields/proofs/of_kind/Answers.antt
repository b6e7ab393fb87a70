-- In each arm the number is known, and the table computes; past its end a kind lists nothing.
use mathlib.Core.Path.{◌≡◌, refl, sym, ap, subst}
use mathlib.Core.Logic.{⊎_elim}
use Prim.Native.Nat.{ℕ}
use native.Mathlib.Omega.{arith}
use Rattle.sheet.specs.Inner.Kinds.{KindNumbered}
use Rattle.sheet.specs.Fields.{kinds, kind_of}
use Rattle.sheet_fields.proofs.Laws.Tables.{left_over}
use Rattle.sheet_fields.proofs.of_kind.Goals as goal

known : {n k : ℕ} → n ≡ k → kind_of k ≡ kind_of n
known e = ap kind_of (sym e)

pub returns-in-String : goal.returns-in-String
unfolding kinds kind_of
returns-in-String c = λ number h. known (subst (KindNumbered number) c.in-String.is h)

pub returns-in-Var : goal.returns-in-Var
unfolding kinds kind_of
returns-in-Var c = λ number h. known (subst (KindNumbered number) c.in-Var.is h)

pub returns-in-Array : goal.returns-in-Array
unfolding kinds kind_of
returns-in-Array c = λ number h. ⊎_elim (λ is. known (subst (KindNumbered number) is h)) (λ is. known (subst (KindNumbered number) is h)) c.in-Array.is

pub returns-in-Object : goal.returns-in-Object
unfolding kinds kind_of
returns-in-Object c = λ number h. known (subst (KindNumbered number) c.in-Object.is h)

pub returns-in-ArrayCompr : goal.returns-in-ArrayCompr
unfolding kinds kind_of
returns-in-ArrayCompr c = λ number h. ⊎_elim (λ is. known (subst (KindNumbered number) is h)) (λ is. known (subst (KindNumbered number) is h)) c.in-ArrayCompr.is

pub returns-in-ObjectCompr : goal.returns-in-ObjectCompr
unfolding kinds kind_of
returns-in-ObjectCompr c = λ number h. known (subst (KindNumbered number) c.in-ObjectCompr.is h)

pub returns-in-Call : goal.returns-in-Call
unfolding kinds kind_of
returns-in-Call c = λ number h. known (subst (KindNumbered number) c.in-Call.is h)

pub returns-in-UnaryExpr : goal.returns-in-UnaryExpr
unfolding kinds kind_of
returns-in-UnaryExpr c = λ number h. known (subst (KindNumbered number) c.in-UnaryExpr.is h)

pub returns-in-RefDot : goal.returns-in-RefDot
unfolding kinds kind_of
returns-in-RefDot c = λ number h. known (subst (KindNumbered number) c.in-RefDot.is h)

pub returns-in-RefBrack : goal.returns-in-RefBrack
unfolding kinds kind_of
returns-in-RefBrack c = λ number h. ⊎_elim (λ is. known (subst (KindNumbered number) is h)) (⊎_elim (λ is. known (subst (KindNumbered number) is h)) (⊎_elim (λ is. known (subst (KindNumbered number) is h)) (λ is. known (subst (KindNumbered number) is h)))) c.in-RefBrack.is

pub returns-in-AssignEq : goal.returns-in-AssignEq
unfolding kinds kind_of
returns-in-AssignEq c = λ number h. ⊎_elim (λ is. known (subst (KindNumbered number) is h)) (λ is. known (subst (KindNumbered number) is h)) c.in-AssignEq.is

pub returns-in-Membership : goal.returns-in-Membership
unfolding kinds kind_of
returns-in-Membership c = λ number h. known (subst (KindNumbered number) c.in-Membership.is h)

pub returns-in-RawString : goal.returns-in-RawString
unfolding kinds kind_of
returns-in-RawString c = λ number h. ⊎_elim (λ is. known (subst (KindNumbered number) is h)) (⊎_elim (λ is. known (subst (KindNumbered number) is h)) (⊎_elim (λ is. known (subst (KindNumbered number) is h)) (⊎_elim (λ is. known (subst (KindNumbered number) is h)) (λ is. left_over kinds _ 22 number (omega arith) refl (subst (KindNumbered number) is h))))) c.in-RawString.is

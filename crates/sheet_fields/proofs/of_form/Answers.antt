-- In each arm the number is known, and the table computes; past its end a form lists nothing.
use mathlib.Core.Path.{◌≡◌, refl, sym, ap, subst}
use mathlib.Core.Logic.{⊎_elim}
use Prim.Native.Nat.{ℕ}
use native.Mathlib.Omega.{arith}
use Rattle.sheet.specs.Inner.Kinds.{FormNumbered}
use Rattle.sheet.specs.Fields.{forms, form_of}
use Rattle.sheet_fields.proofs.Laws.Tables.{left_over}
use Rattle.sheet_fields.proofs.of_form.Goals as goal

known : {n k : ℕ} → n ≡ k → form_of k ≡ form_of n
known e = ap form_of (sym e)

pub returns-in-SomeVars : goal.returns-in-SomeVars
unfolding forms form_of
returns-in-SomeVars c = λ number h. known (subst (FormNumbered number) c.in-SomeVars.is h)

pub returns-in-SomeIn : goal.returns-in-SomeIn
unfolding forms form_of
returns-in-SomeIn c = λ number h. known (subst (FormNumbered number) c.in-SomeIn.is h)

pub returns-in-Expr : goal.returns-in-Expr
unfolding forms form_of
returns-in-Expr c = λ number h. ⊎_elim (λ is. known (subst (FormNumbered number) is h)) (λ is. known (subst (FormNumbered number) is h)) c.in-Expr.is

pub returns-in-Every : goal.returns-in-Every
unfolding forms form_of
returns-in-Every c = λ number h. known (subst (FormNumbered number) c.in-Every.is h)

pub returns-in-Unknown : goal.returns-in-Unknown
unfolding forms form_of
returns-in-Unknown c = λ number h. left_over forms _ 5 number (omega arith) refl (subst (FormNumbered number) c.in-Unknown.is h)

-- Laws of `Kids`.
use mathlib.Core.Path.{◌≡◌, refl, sym, ap}
use mathlib.Core.Bool.{true}
use mathlib.Core.List.{List, []}
use mathlib.Core.Logic.{◌⊎◌, inl, inr}
use Prim.Native.Nat.{ℕ}
use native.Mathlib.Omega.{arith}
use lib.Dec.{leb}
use lib.ListN.{get_or}
use borrow.Author.Tests.{leb-true}
use Rattle.base.proofs.Laws.Truth.{eq_cases, and_left, and_right}
use Rattle.sheet.specs.declared.Row.{Row}
use Rattle.sheet.specs.Kinds.{is_compr}
use Rattle.sheet.specs.Inner.Kinds.{NoArm}
use Rattle.sheet_fields.proofs.Laws.Tables.{left_over}
use Rattle.scope.specs.Traverse.{Child, children, children_of}
use Rattle.scope_walk.specs.Inner.Kids.{kids_from, kids_by, kids_of}

-- ---- the children of a row whose kind is known

pub children-at : (w : Row) (n : ℕ) → w.kind ≡ n → children_of w ≡ get_or children n []
children-at w n e = ap (λ (k : ℕ). get_or children k []) e

-- Past the last kind there are none.
pub no_children : (w : Row) → NoArm 22 w.kind → children_of w ≡ []
no_children w h = sym (left_over children [] 22 w.kind (omega arith) refl h)

-- A comprehension's third field, which names a query, is not entered, nor any other of its fields.
pub compr_enters_nothing : (w : Row) → is_compr w ≡ true → children_of w ≡ []
compr_enters_nothing w h = go (eq_cases w.kind 10) (eq_cases w.kind 11)
  where
    go : ((w.kind ≡ 10) ⊎ (w.kind ≡ 10 → ⊥)) → ((w.kind ≡ 11) ⊎ (w.kind ≡ 11 → ⊥)) → children_of w ≡ []
    go (inl p) q = children-at w 10 p
    go (inr p) (inl q) = children-at w 11 q
    go (inr p) (inr q) =
        let low = leb-true 10 w.kind (and_left (leb 10 w.kind) _ h) in
        let high = leb-true w.kind 12 (and_right (leb 10 w.kind) _ h) in
        children-at w 12 (omega arith)

-- ---- the arms of `kids_of`

pub kids_at : (w : Row) (n : ℕ) → w.kind ≡ n → kids_by (get_or children n []) w ≡ kids_of w
unfolding kids_of
kids_at w n e = ap (λ (ks : List Child). kids_by ks w) (sym (children-at w n e))

pub no_kids : (w : Row) → NoArm 22 w.kind → kids_from [] ≡ kids_of w
unfolding kids_of
no_kids w h = ap (λ (ks : List Child). kids_by ks w) (sym (no_children w h))

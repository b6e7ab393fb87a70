-- Laws of `Below`.
use mathlib.Core.Path.{◌≡◌, refl, sym, ap, ◌∙◌}
use mathlib.Core.Bool.{Bool, true, false, not, ◌||◌}
use mathlib.Core.List.{List, [], ◌∷◌}
use mathlib.Core.Logic.{◌⊎◌, inl, inr, ⊎_elim}
use Prim.Native.Nat.{ℕ}
use lib.Dec.{eqb, ltb}
use borrow.Author.Tests.{eqb-true}
use Rattle.base.proofs.Laws.Truth.{bool_cases, not-both, and_right, or_left, or_right, or_cases}
use Rattle.base.specs.Lists.{all}
use Rattle.sheet.specs.declared.Row.{Row}
use Rattle.sheet.specs.Sheet.{Sheet}
use Rattle.scope.specs.Trees.{Tree}
use Rattle.scope.specs.Statements.{Stmt}
use Rattle.scope.proofs.Laws.TreeRows.{rows_pass}
use Rattle.scope.proofs.Laws.StatementRows.{stmt_rows}
use Rattle.scope.specs.Scopes.{NameSet, empty, contains, insert, remove, Span, Scope, no_scope, is_local, owns, add_local, add_unscoped, add_input, use_input, remove_all, remove_shadowed}
use Rattle.scope.specs.Gather.{gather_local_vars}
use Rattle.scope.proofs.Laws.GatherLaws.{KeptByGathering, gather-kept}
use Rattle.scope.specs.Inner.Below.{Below, name_below}

-- ---- the changes

-- An own name of a scope with one more local or unscoped name is that name or was own before.
local_owns : (s : Scope) (w : Row) (x : ℕ) → owns (add_local s w) x ≡ true → (w.name ≡ x) ⊎ (owns s x ≡ true)
unfolding owns add_local
local_owns s w x h = go (bool_cases (eqb w.name x))
  where
    go : (eqb w.name x ≡ true) ⊎ (eqb w.name x ≡ false) → (w.name ≡ x) ⊎ ((is_local s x || contains s.unscoped x) ≡ true)
    go (inl e) = inl (eqb-true w.name x e)
    go (inr e) = inr (rw e at h)

pub unscoped-owns : (s : Scope) (y x : ℕ) → owns (add_unscoped s y) x ≡ true → (x ≡ y) ⊎ (owns s x ≡ true)
unfolding owns add_unscoped contains insert
unscoped-owns s y x h =
    ⊎_elim (λ (p : is_local s x ≡ true). inr (or_left (is_local s x) (contains s.unscoped x) p))
    (λ (p : (eqb x y || contains s.unscoped x) ≡ true).
    ⊎_elim (λ (e : eqb x y ≡ true). inl (eqb-true x y e)) (λ (e : contains s.unscoped x ≡ true). inr (or_right (is_local s x) (contains s.unscoped x) e))
    (or_cases (eqb x y) (contains s.unscoped x) p))
    (or_cases (is_local s x) (eqb x y || contains s.unscoped x) h)

pub removed_from : (spans : List Span) (u : NameSet) (x : ℕ) → contains (remove_all u spans) x ≡ true → contains u x ≡ true
unfolding remove_all contains remove
removed_from [] u x h = h
removed_from (p ∷ spans) u x h = and_right (not (eqb x p.name)) (u x) (removed_from spans (remove u p.name) x h)

module _ (n : ℕ) where
  pub unscoped-below : (s : Scope) (y : ℕ) → ltb y n ≡ true → Below n s → Below n (add_unscoped s y)
  unfolding add_unscoped
  unscoped-below s y l b = record {
    own = λ x h. ⊎_elim (λ (e : x ≡ y). ap (λ (z : ℕ). ltb z n) e ∙ l) (λ (o : owns s x ≡ true). b.own x o) (unscoped-owns s y x h);
    inputs = b.inputs;
  }

  pub input-below : (s : Scope) (y : ℕ) → ltb y n ≡ true → Below n s → Below n (add_input s y)
  unfolding owns add_input contains insert
  input-below s y l b = record {
    own = b.own;
    inputs = λ x h. ⊎_elim (λ (e : eqb x y ≡ true). ap (λ (z : ℕ). ltb z n) (eqb-true x y e) ∙ l) (λ (o : s.inputs x ≡ true). b.inputs x o)
        (or_cases (eqb x y) (s.inputs x) h);
  }

  pub flag-below : (s : Scope) (f : Bool) → Below n s → Below n (use_input f s)
  unfolding owns use_input
  flag-below s f b = record { own = b.own; inputs = b.inputs }

  below-kept : (parents : List Scope) → KeptByGathering parents (name_below n) (Below n)
  unfolding add_local
  below-kept parents = record {
    local = λ s w l b. record {
      own = λ x h. ⊎_elim (λ (e : w.name ≡ x). ap (λ (z : ℕ). ltb z n) (sym e) ∙ l) (λ (o : owns s x ≡ true). b.own x o) (local_owns s w x h);
      inputs = b.inputs;
    };
    unscoped = λ s w l b. unscoped-below s w.name l b;
    input = λ s w l e b. input-below s w.name l b;
    flag = λ s f b. flag-below s f b;
  }

  none_below : Below n no_scope
  unfolding owns contains empty
  none_below = record { own = λ x h. absurd (not-both h refl); inputs = λ x h. absurd (not-both h refl) }

  shadowed_below : (s : Scope) → Below n s → Below n (remove_shadowed s)
  unfolding owns remove_shadowed
  shadowed_below s b = record {
    own = λ x h.
        ⊎_elim (λ (p : is_local s x ≡ true). b.own x (or_left (is_local s x) (contains s.unscoped x) p))
        (λ (p : contains (remove_all s.unscoped s.locals) x ≡ true). b.own x (or_right (is_local s x) (contains s.unscoped x) (removed_from s.locals s.unscoped x p)))
        (or_cases (is_local s x) (contains (remove_all s.unscoped s.locals) x) h);
    inputs = λ x h. b.inputs x (removed_from s.locals s.inputs x h);
  }

  -- ---- the scope of a query

  pub gathered-below : (sheet : Sheet) (parents : List Scope) (stmts : List Stmt) → ltb 0 n ≡ true → all (stmt_rows (name_below n)) stmts ≡ true
      → (outputs : List Tree) → all (rows_pass (name_below n)) outputs ≡ true → Below n (gather_local_vars sheet parents stmts outputs)
  gathered-below sheet parents stmts zero h outputs g =
      gather-kept sheet parents (name_below n) zero (Below n) (below-kept parents) none_below shadowed_below stmts h outputs g

-- Laws of `ExtraNames`.
use mathlib.Core.Path.{◌≡◌, refl, sym, ap, ◌∙◌}
use mathlib.Core.Bool.{true, false, ◌&&◌}
use mathlib.Core.List.{List}
use mathlib.Core.Logic.{◌⊎◌, inl, inr, ⊎_elim}
use mathlib.Core.Option.{none, some}
use Prim.Native.Nat.{ℕ}
use native.Mathlib.Omega.{arith}
use lib.Dec.{eqb, ltb}
use borrow.Author.Tests.{ltb-true, eqb-true}
use Rattle.base.proofs.Laws.Truth.{bool_cases, not-both, or_cases}
use Rattle.base.specs.Lists.{elem, range, is_some}
use Rattle.base.proofs.Laws.Lists.{elem-filter}
use Rattle.base.proofs.Laws.Ranges.{elem-range}
use Rattle.names.specs.Inner.Sets.{Empty}
use Rattle.names.specs.Inner.Names.{Names}
use Rattle.sheet.specs.Sheet.{name_bound}
use Rattle.scope.specs.Trees.{Tree, nil, node, tree_at}
use Rattle.scope.proofs.Laws.TreeRows as rows
use Rattle.scope.proofs.Laws.TreeRows.{rows_pass}
use Rattle.scope.specs.Scopes.{empty, contains, insert, elements, Span, no_scope, add_local, add_unscoped, add_input, use_input}
use Rattle.scope.specs.Scopes as spec
use Rattle.scope.specs.Gather.{gather_assigned_vars}
use Rattle.scope.proofs.Laws.GatherLaws.{KeptByGathering, assigned_kept}
use Rattle.scope.specs.Inner.Below.{name_below}
use Rattle.scope_walk.specs.Inner.Walks.{alone}
use Rattle.definition_room.proofs.Laws.LowNames.{facts-names}
use Rattle.scope_state.specs.declared.Scope.{Scope}
use Rattle.scope_walk.specs.Inner.Sheets.{counts_at, special_at, sheet_at, Accepted}
use Rattle.scope_state.specs.Inner.Agrees.{NoNames}
use Rattle.scope_walk.specs.Inner.Exprs.{expr_by}
use Rattle.scope_vars.specs.Inner.Assigned.{AssignWalk}
use Rattle.definition_literal.specs.Inner.ExtraNames.{ExtraVars}

-- No unscoped name is past the largest.
abbrev Low : spec.Scope → Type 0
Low s = (x : ℕ) → contains s.unscoped x ≡ true → ltb x name_bound ≡ true

low-kept : (parents : List spec.Scope) → KeptByGathering parents (name_below name_bound) Low
unfolding add_local add_unscoped add_input use_input contains insert
low-kept parents = record {
  local = λ s w l h. h;
  unscoped = λ s w l h x e.
      ⊎_elim (λ (p : eqb x w.name ≡ true). ap (λ (n : ℕ). ltb n name_bound) (eqb-true x w.name p) ∙ l)
      (λ (p : s.unscoped x ≡ true). h x p) (or_cases (eqb x w.name) (s.unscoped x) e);
  input = λ s w e l h. h;
  flag = λ s b h. h;
}

none-low : Low no_scope
unfolding empty contains
none-low x e = absurd (not-both e refl)

alone-rows : (e : Tree) → rows_pass (name_below name_bound) e ≡ true → rows_pass (name_below name_bound) (alone e) ≡ true
alone-rows nil h = h
alone-rows (node w a b c n) h = rows.alone-rows (name_below name_bound) w a b c n (rows.rows_of-parts (name_below name_bound) w a b c n h)

-- What the list of such a set's elements has is what the set has.
elements-has : (s : spec.Scope) → Low s → (x : ℕ) → elem x (elements s.unscoped) ≡ contains s.unscoped x
unfolding elements
elements-has s low x = elem-filter (contains s.unscoped) x (range 0 name_bound) ∙ go (bool_cases (contains s.unscoped x))
  where
    go : (contains s.unscoped x ≡ true) ⊎ (contains s.unscoped x ≡ false)
        → (contains s.unscoped x && elem x (range 0 name_bound)) ≡ contains s.unscoped x
    go (inl p) = rw p (elem-range x 0 name_bound (omega arith) (ltb-true x name_bound (low x p)))
    go (inr p) = rw p

module _ (t outer : List ℕ) (arg : ℕ) where
  pub extra_vars-none : arg ≡ 0 → (r : Names) → Empty r.words → ExtraVars t outer arg r
  extra_vars-none z r h = record { none = λ e. record { has = λ x. sym (h.has x) }; all = λ n. absurd (n z) }

  module _ (ok : Accepted t) where
    abbrev gathered : List spec.Scope → spec.Scope
    gathered parents = gather_assigned_vars (sheet_at t) parents false (expr_by t false arg) no_scope

    gathered-low : (parents : List spec.Scope) → Low (gathered parents)
    unfolding sheet_at
    gathered-low parents =
        assigned_kept (sheet_at t) parents (name_below name_bound) refl Low (low-kept parents) false (expr_by t false arg)
        (alone-rows (tree_at (sheet_at t) arg) (rows.tree-rows (name_below name_bound) (sheet_at t) (facts-names (counts_at t) (special_at t) t ok.within ok.facts) refl arg))
        no_scope none-low

    pub vars-gathered : (arg ≡ 0 → ⊥) → (k : Scope) → NoNames k → (l m : List ℕ) (r : Scope)
        → AssignWalk t outer arg false false k l r m → ExtraVars t outer arg r.unscoped
    vars-gathered n k clear l m r walk = record {
      none = λ z. absurd (n z);
      all = λ there nested parents o.
          let end = walk parents o no_scope (record { sets = clear; placed = λ x p e. absurd (none-placed p e) }) in
          record { has = λ x. elements-has (gathered parents) (gathered-low parents) x ∙ end.sets.unscoped x };
    }
      where
        none-placed : (p : Span) → none ≡ some p → ⊥
        none-placed p e = not-both (ap is_some e) refl

-- Laws of `UsedVars`.
use mathlib.Core.Path.{◌≡◌, refl, sym, ap, ◌∙◌}
use mathlib.Core.Bool.{Bool, true, false, cond}
use mathlib.Core.List.{List, [], ◌++◌}
use Prim.Native.Nat.{ℕ, ◌≤◌}
use native.Mathlib.Omega.{arith}
use borrow.Author.Tests.{eq-eqb, ne_eqb}
use Rattle.names.specs.Inner.Sets.{Inserted}
use Rattle.names.specs.Inner.Names.{Names}
use Rattle.sheet.specs.declared.Row.{Row}
use Rattle.sheet.specs.Inner.Sheet.{row_at}
use Rattle.scope.specs.Scopes as spec
use Rattle.definition.specs.Uses.{index_vars, used_at, used_vars}
use Rattle.scope_walk.specs.declared.Kids.{Kids}
use Rattle.scope_walk.specs.Inner.Kids.{kids_of}
use Rattle.scope_walk.proofs.Laws.RowTrees.{row_descends}
use Rattle.scope_walk.proofs.Laws.Onwards.{onward_low}
use Rattle.scope_walk.proofs.Laws.Walks.{alone_at}
use Rattle.scope_state.specs.declared.Scope.{Scope}
use Rattle.scope_walk.specs.Inner.Sheets.{counts_at, special_at, sheet_at, Accepted, expr_count}
use Rattle.scope_walk.specs.Inner.Exprs.{expr_by}
use Rattle.definition_walk.specs.Inner.Own.{IsUse}
use Rattle.definition_walk.proofs.Laws.Collects.{collected-none, collected-turn}
use Rattle.definition_walk.proofs.Laws.Adds.{adds_none, adds_one}
use Rattle.definition_walk.specs.Inner.Assigned.{AssignedWalk}
use Rattle.definition_walk.specs.Inner.UsedVars.{UsedVar, UsedStep, used_by}

module _ (t : List ℕ) where
  -- The index of a bracket is a row, or none.
  pub second_of-row_low : Accepted t → (r : ℕ) → (r ≡ 0 → ⊥) → r ≤ expr_count t → (row_at t r).second ≤ expr_count t
  second_of-row_low ok r ne high = onward_low (expr_count t) r _ (row_descends (counts_at t) t ok.facts r (omega arith) high).to-second

  module _ (k : Scope) (extras : Names) where
    -- ---- the ways out of the steps

    module _ (w : Row) (a : Names) where
      module _ (b : Bool) (uses : IsUse t k extras w b) where
        pub var-used : b ≡ true → (c : Names) → Inserted a.words w.name c.words → UsedVar t k extras w a c
        var-used p c put s h l e = rw (sym (uses s h l e), p) (adds_one a w.name c put)

        pub var_not_used : b ≡ false → UsedVar t k extras w a a
        var_not_used p s h l e = rw (sym (uses s h l e), p) (adds_none a)

      pub used_step_var : w.kind ≡ 6 → (b : Names) → UsedVar t k extras w a b → UsedStep t k extras w a b
      used_step_var v b u s h l e = rw (eq-eqb w.kind 6 v) (u s h l e)

      module _ (other : w.kind ≡ 6 → ⊥) where
        pub step-bracket : w.kind ≡ 16 → (b : Names) → AssignedWalk t k w.second true a b → UsedStep t k extras w a b
        step-bracket v b u s h l e = rw (ne_eqb w.kind 6 other, eq-eqb w.kind 16 v) (u s h)

        pub used_step_other : (w.kind ≡ 16 → ⊥) → UsedStep t k extras w a a
        used_step_other n s h l e = rw (ne_eqb w.kind 6 other, ne_eqb w.kind 16 n) (adds_none a)

  -- ---- the walk

  module _ (s : spec.Scope) (l : List ℕ) where
    abbrev pub used_names_at : Bool → ℕ → List ℕ
    used_names_at rest row = used_vars (sheet_at t) s l (expr_by t rest row)

    at_row : (row : ℕ) → used_at (sheet_at t) s l (alone_at (counts_at t) (special_at t) t row) ≡ used_by (sheet_at t) s l (row_at t row)
    unfolding used_at index_vars sheet_at
    at_row row = refl

    module _ (ok : Accepted t) where
      pub names-none : (rest : Bool) → used_names_at rest 0 ≡ []
      unfolding used_vars
      names-none rest = collected-none t (used_at (sheet_at t) s l) ok rest

      pub names-turn : (rest : Bool) (row : ℕ) → (row ≡ 0 → ⊥) → row ≤ expr_count t → (w : Row) → w ≡ row_at t row
          → (p : Kids) → p ≡ kids_of w → (next : ℕ) → next ≡ cond rest w.next 0
          → used_names_at rest row
          ≡ ((((used_by (sheet_at t) s l w ++ used_names_at true p.first) ++ used_names_at true p.second) ++ used_names_at true p.third) ++ used_names_at true next)
      unfolding used_vars
      names-turn rest row ne high w is p ps next ns =
          collected-turn t (used_at (sheet_at t) s l) ok rest row ne high w is p ps next ns
          ∙ ap (λ (u : List ℕ). (((u ++ used_names_at true p.first) ++ used_names_at true p.second) ++ used_names_at true p.third) ++ used_names_at true next)
          (at_row row ∙ ap (used_by (sheet_at t) s l) (sym is))

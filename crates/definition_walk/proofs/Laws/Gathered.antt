-- Names that the leaves of a pattern come to, row by row: `at` are those of one variable.
use mathlib.Core.Path.{◌≡◌, sym, ap, ◌∙◌, subst}
use mathlib.Core.Bool.{Bool, true, false, cond}
use mathlib.Core.List.{List, [], ◌++◌}
use mathlib.Core.Logic.{◌⊎◌, inl, inr}
use Prim.Native.Nat.{ℕ, ◌≤◌}
use native.Mathlib.Omega.{arith}
use Rattle.names.specs.Inner.Names.{Names}
use Rattle.base.specs.Lists.{concat_map}
use Rattle.base.proofs.Laws.Truth.{bool_cases}
use Rattle.sheet.specs.declared.Row.{Row}
use Rattle.sheet.specs.Inner.Sheet.{row_at}
use Rattle.sheet.specs.Kinds.{is_var, is_pattern}
use Rattle.scope.specs.Trees.{Tree, row_of}
use Rattle.scope.specs.Traverse.{leaves}
use Rattle.scope_walk.specs.Inner.Sheets.{counts_at, special_at, sheet_at, Accepted, expr_count}
use Rattle.scope_walk.specs.Inner.Exprs.{expr_by}
use Rattle.scope_walk.proofs.Laws.Walking.{no_var}
use Rattle.scope_walk.proofs.Laws.Walks.{over_leaves, leaves_by, leaves_by-none, leaves_by-row}
use Rattle.definition_walk.proofs.Laws.Collects.{append-nil, collect}
use Rattle.definition_walk.specs.Inner.Adds.{Adds}
use Rattle.definition_walk.proofs.Laws.Adds.{adds_none, adds_then}

module _ (t : List ℕ) (at : Row → List ℕ) (no_other : (w : Row) → is_var w ≡ false → at w ≡ []) where
  -- Of the pattern at a row, with the rest of its chain if `rest`.
  abbrev pub at_leaves : Bool → ℕ → List ℕ
  at_leaves rest row = concat_map (λ (e : Tree). at (row_of e)) (leaves (expr_by t rest row))

  abbrev step : List ℕ → Tree → List ℕ
  step l e = l ++ at (row_of e)

  over-is : (rest : Bool) (l : List ℕ) (row : ℕ) → leaves_by (counts_at t) (special_at t) t step rest l row ≡ (l ++ at_leaves rest row)
  unfolding sheet_at
  over-is true l row = collect (λ (e : Tree). at (row_of e)) l (leaves (expr_by t true row))
  over-is false l row = collect (λ (e : Tree). at (row_of e)) l (leaves (expr_by t false row))

  module _ (ok : Accepted t) where
    pub at_none : (rest : Bool) → at_leaves rest 0 ≡ []
    at_none rest = sym (over-is rest [] 0) ∙ leaves_by-none (counts_at t) (special_at t) t ok.facts step rest []

    -- A row's own names, those of what it is made of, and those of the rest of its chain.
    pub at-leaves : (rest : Bool) (row : ℕ) → 1 ≤ row → row ≤ expr_count t
        → let w = row_at t row in
        at_leaves rest row ≡ ((at w ++ at_leaves true (cond (is_pattern w) w.first 0)) ++ at_leaves true (cond rest w.next 0))
    at-leaves rest row low high =
        sym (over-is rest [] row) ∙ leaves_by-row (counts_at t) (special_at t) t ok.facts step rest [] row low high ∙ over-is true _ (cond rest (row_at t row).next 0)
        ∙ ap (λ (l : List ℕ). l ++ at_leaves true (cond rest (row_at t row).next 0)) (go (bool_cases (is_pattern (row_at t row))))
      where
        go : let w = row_at t row in
            (is_pattern w ≡ true) ⊎ (is_pattern w ≡ false)
            → cond (is_pattern w) (over_leaves (counts_at t) (special_at t) t step [] w.first) (at w) ≡ (at w ++ at_leaves true (cond (is_pattern w) w.first 0))
        go (inl p) = rw (p, no_other (row_at t row) (no_var (row_at t row) p)) (over-is true [] (row_at t row).first)
        go (inr p) = rw (p, at_none true) (sym (append-nil (at (row_at t row))))

    pub gathered_none : (row : ℕ) → row ≡ 0 → (rest : Bool) (a : Names) → Adds a (at_leaves rest row) a
    gathered_none row z rest a = rw (z, at_none rest) (adds_none a)

    pub gathered-turn : (row : ℕ) → (row ≡ 0 → ⊥) → row ≤ expr_count t → (rest : Bool) (w : Row) → w ≡ row_at t row
        → (next : ℕ) → next ≡ cond rest w.next 0 → (a b c d : Names)
        → Adds a (at w) b → Adds b (at_leaves true (cond (is_pattern w) w.first 0)) c → Adds c (at_leaves true next) d → Adds a (at_leaves rest row) d
    gathered-turn row ne high rest w is next n a b c d h₀ h₁ h₂ =
        let parts : at_leaves rest row ≡ ((at w ++ at_leaves true (cond (is_pattern w) w.first 0)) ++ at_leaves true next) =
        rw (n, is) (at-leaves rest row (omega arith) high) in
        subst (λ (l : List ℕ). Adds a l d) (sym parts) (adds_then a c d _ _ (adds_then a b c _ _ h₀ h₁) h₂)

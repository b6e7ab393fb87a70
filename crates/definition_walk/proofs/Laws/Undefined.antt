-- Laws of `Undefined`.
use mathlib.Core.Path.{◌≡◌, refl, sym, ap, ◌∙◌, subst}
use mathlib.Core.Bool.{Bool, true, false, cond}
use mathlib.Core.List.{List, [], ◌∷◌, ◌++◌, foldl}
use mathlib.Core.Option as maybe
use mathlib.Core.Option.{none, some}
use Prim.Native.Nat.{ℕ, ◌≤◌}
use Rattle.std.specs.Prelude.{Option, None, Some}
use Rattle.std.specs.Option.{option_or}
use borrow.Author.Tests.{eq-eqb, ne_eqb}
use Rattle.sheet.specs.declared.Row.{Row}
use Rattle.sheet.specs.Inner.Sheet.{row_at}
use Rattle.sheet.specs.Kinds.{is_var}
use Rattle.base.specs.Lists.{find}
use Rattle.scope.specs.Trees.{Tree, row_of, tree_at}
use Rattle.scope.specs.Traverse.{traverse, vars}
use Rattle.definition.specs.Uses.{is_undefined, undefined_var}
use Rattle.scope_walk.specs.declared.Kids.{Kids}
use Rattle.scope_walk.specs.Inner.Kids.{kids_of}
use Rattle.scope_walk.specs.Inner.Walks.{alone}
use Rattle.scope_state.specs.declared.Scope.{Scope}
use Rattle.scope_walk.specs.Inner.Sheets.{sheet_at, Accepted, expr_count}
use Rattle.scope_walk.proofs.Laws.Walking.{walk_none, walk_turn}
use Rattle.definition_walk.proofs.Laws.Own.{IsUndefined}
use Rattle.definition_walk.specs.Inner.Undefined.{or_row, found_at, FoundVariable, UndefinedStep, UndefinedWalk, Undefined}

-- A walk that keeps what it found first finds the first of all.
find-walk : (p : Row → Bool) (found : maybe.Option Row) (ts : List Tree)
    → foldl (λ (u : maybe.Option Row) (e : Tree). found_at p u (row_of e)) found ts ≡ or_row found (find p (vars ts))
find-walk p none [] = refl
find-walk p (some w) [] = refl
find-walk p found (e ∷ ts) = find-walk p (found_at p found (row_of e)) ts ∙ go found (is_var (row_of e)) (p (row_of e)) refl
  where
    go : (u : maybe.Option Row) (v b : Bool) → p (row_of e) ≡ b
        → or_row (or_row u (cond v (cond b (some (row_of e)) none) none)) (find p (vars ts))
        ≡ or_row u (find p (cond v (row_of e ∷ []) [] ++ vars ts))
    go (some w) v b is = refl
    go none false b is = refl
    go none true true is = rw is
    go none true false is = rw is

module _ (t : List ℕ) where
  module _ (k : Scope) where
    -- ---- the ways out of the step

    module _ (row : ℕ) (w : Row) where
      found_before : (n : ℕ) → UndefinedStep t k row w (Some n) (Some n)
      found_before n s h is found f = rw f.is (record { high = f.high; is = refl })

      found-other : (w.kind ≡ 6 → ⊥) → UndefinedStep t k row w None None
      found-other ne s h is found f = rw (f.is, ne_eqb w.kind 6 ne) (record { high = f.high; is = refl })

      module _ (v : w.kind ≡ 6) where
        found-fine : IsUndefined t k w false → UndefinedStep t k row w None None
        found-fine known s h is found f = rw (f.is, eq-eqb w.kind 6 v, sym (known s h)) (record { high = f.high; is = refl })

        found_here : IsUndefined t k w true → row ≤ expr_count t → UndefinedStep t k row w None (Some row)
        found_here known high s h is found f = rw (f.is, eq-eqb w.kind 6 v, sym (known s h)) (record { high = high; is = ap some is })

      -- ---- where the row is no variable, or one that is known to be undefined or not

      pub undefined-other : (a : Option ℕ) → (w.kind ≡ 6 → ⊥) → UndefinedStep t k row w a a
      undefined-other None ne = found-other ne
      undefined-other (Some n) ne = found_before n

      pub undefined-not : (a : Option ℕ) → w.kind ≡ 6 → IsUndefined t k w false → UndefinedStep t k row w a a
      undefined-not None v known = found-fine v known
      undefined-not (Some n) v known = found_before n

      pub undefined-here : (a : Option ℕ) → w.kind ≡ 6 → IsUndefined t k w true → row ≤ expr_count t → UndefinedStep t k row w a (option_or a (Some row))
      undefined-here None v known high = found_here v known high
      undefined-here (Some n) v known high = found_before n

    -- ---- from none on

    pub undefined_from_none : (row : ℕ) (rest : Bool) (r : Option ℕ) → UndefinedWalk t k row rest None r → Undefined t k row rest r
    unfolding undefined_var sheet_at
    undefined_from_none row true r h s a =
        let p = is_undefined (sheet_at t) s in
        subst (FoundVariable t r) (find-walk p none (traverse (tree_at (sheet_at t) row))) (h s a none (record { high = tt; is = refl }))
    undefined_from_none row false r h s a =
        let p = is_undefined (sheet_at t) s in
        subst (FoundVariable t r) (find-walk p none (traverse (alone (tree_at (sheet_at t) row)))) (h s a none (record { high = tt; is = refl }))

    -- ---- a row's turn

    pub undefined-turn : Accepted t → (row : ℕ) → (row ≡ 0 → ⊥) → row ≤ expr_count t → (rest : Bool) (w : Row) → w ≡ row_at t row
        → (p : Kids) → p ≡ kids_of w → (next : ℕ) → next ≡ cond rest w.next 0 → (a s₀ s₁ s₂ s₃ s₄ : Option ℕ)
        → UndefinedStep t k row w a s₀ → UndefinedWalk t k p.first true s₀ s₁ → UndefinedWalk t k p.second true s₁ s₂
        → UndefinedWalk t k p.third true s₂ s₃ → UndefinedWalk t k next true s₃ s₄ → UndefinedWalk t k row rest a s₄
    undefined-turn ok row ne high rest w is p ps next ns a s₀ s₁ s₂ s₃ s₄ h₀ h₁ h₂ h₃ h₄ s h =
        let q = is_undefined (sheet_at t) s in
        walk_turn t (FoundVariable t) (λ (u : maybe.Option Row) (e : Tree). found_at q u (row_of e)) ok (found_at q) (λ u v. refl) row ne high rest w is p ps next ns
        a s₀ s₁ s₂ s₃ s₄ (h₀ s h is) (h₁ s h) (h₂ s h) (h₃ s h) (h₄ s h)

    pub undefined-none : Accepted t → (row : ℕ) → row ≡ 0 → (rest : Bool) (a : Option ℕ) → UndefinedWalk t k row rest a a
    undefined-none ok row z rest a s h =
        walk_none t (FoundVariable t) (λ (u : maybe.Option Row) (e : Tree). found_at (is_undefined (sheet_at t) s) u (row_of e)) ok row z rest a

-- The parts of a some-in pattern that are no variables, row by row.
use mathlib.Core.Path.{◌≡◌, refl, sym, ap, ◌∙◌}
use mathlib.Core.Bool.{Bool, true, false, cond, ◌&&◌, ◌||◌}
use mathlib.Core.List.{List, [], ◌∷◌, ◌++◌, append_assoc, append-nil}
use mathlib.Core.Logic.{◌⊎◌, inl, inr}
use Prim.Native.Nat.{ℕ, zero, suc, ◌≤◌}
use native.Mathlib.Omega.{arith}
use Rattle.base.proofs.Laws.Lists.{filter-append}
use Rattle.sheet.specs.declared.Row.{Row}
use Rattle.sheet.specs.Inner.Sheet.{row_at}
use Rattle.sheet.specs.Sheet.{is_input}
use Rattle.sheet.specs.Kinds.{is_var, is_pattern}
use Rattle.scope.specs.Trees.{Tree}
use Rattle.scope.specs.Scopes.{Scope, is_local}
use Rattle.definition.specs.SomeIn.{non_vars}
use Rattle.scope_state.specs.declared.Scope.{Scope as Kept}
use Rattle.scope_walk.specs.Inner.Sheets.{sheet_at, Accepted, expr_count}
use Rattle.scope_walk.specs.Inner.Exprs.{expr_by}
use Rattle.scope_walk.proofs.Laws.Exprs.{row_is}
use Rattle.definition_steps.proofs.Laws.Pairs.{leaves_at-none, leaves_at-row}
use Rattle.definition_literal.specs.Inner.SomeIn.{NonVar}
use Rattle.definition_cycle.specs.Inner.Asks.{other_at}
use Rattle.definition_steps.specs.Inner.Pairs.{leaves_at}
use Rattle.definition_cycle.proofs.Laws.Witnesses.{kept_scope, sets_of}

module _ (t : List ℕ) where
  pub other-is : (row : ℕ) → (row ≡ 0 → ⊥) → other_at t row ≡ expr_by t false row ∷ []
  other-is zero there = absurd (there refl)
  other-is (suc r) there = refl

  module _ (sc : Scope) where
    pub non_vars-append : (k l : List Tree) → non_vars (sheet_at t) sc (k ++ l) ≡ non_vars (sheet_at t) sc k ++ non_vars (sheet_at t) sc l
    unfolding non_vars
    non_vars-append k l = filter-append _ k l

    abbrev is_name : Row → Bool
    is_name w = is_var w && (is_input (sheet_at t) w.name || is_local sc w.name)

    module _ (ok : Accepted t) where
      pub non_vars-none : (row : ℕ) → row ≡ 0 → non_vars (sheet_at t) sc (leaves_at t row) ≡ []
      unfolding non_vars
      non_vars-none row z = rw (leaves_at-none t ok row z)

      module _ (row : ℕ) (there : row ≡ 0 → ⊥) (high : row ≤ expr_count t) where
        one : (b : Bool) → is_name (row_at t row) ≡ b → non_vars (sheet_at t) sc (expr_by t false row ∷ []) ≡ other_at t (cond b 0 row)
        unfolding non_vars
        one true h = rw (row_is t ok row there high false, h)
        one false h = rw (row_is t ok row there high false, h, other-is row there)

        first : (p : Bool) → non_vars (sheet_at t) sc (cond p (leaves_at t (row_at t row).first) (expr_by t false row ∷ []))
            ≡ other_at t (cond (p || is_name (row_at t row)) 0 row) ++ non_vars (sheet_at t) sc (leaves_at t (cond p (row_at t row).first 0))
        first true = refl
        first false = go (is_name (row_at t row)) refl
          where
            go : (b : Bool) → is_name (row_at t row) ≡ b → non_vars (sheet_at t) sc (expr_by t false row ∷ [])
                ≡ other_at t (cond b 0 row) ++ non_vars (sheet_at t) sc (leaves_at t 0)
            go b h = one b h ∙ sym (ap (λ (l : List Tree). other_at t (cond b 0 row) ++ l) (non_vars-none 0 refl) ∙ append-nil (other_at t (cond b 0 row)))

        -- The row itself, the parts of a pattern, the rest of the chain.
        pub non_vars-row : (w : Row) → w ≡ row_at t row → (items : ℕ) → items ≡ cond (is_pattern w) w.first 0
            → (other : ℕ) → other ≡ cond (is_pattern w || is_name w) 0 row
            → non_vars (sheet_at t) sc (leaves_at t row)
            ≡ other_at t other ++ (non_vars (sheet_at t) sc (leaves_at t items) ++ non_vars (sheet_at t) sc (leaves_at t w.next))
        non_vars-row w is items ps other os =
            rw (ps, os, is)
            (ap (non_vars (sheet_at t) sc) (leaves_at-row t ok row there high)
            ∙ non_vars-append (cond (is_pattern (row_at t row)) (leaves_at t (row_at t row).first) (expr_by t false row ∷ [])) (leaves_at t (row_at t row).next)
            ∙ ap (λ (l : List Tree). l ++ non_vars (sheet_at t) sc (leaves_at t (row_at t row).next)) (first (is_pattern (row_at t row)))
            ∙ append_assoc (other_at t (cond (is_pattern (row_at t row) || is_name (row_at t row)) 0 row))
            (non_vars (sheet_at t) sc (leaves_at t (cond (is_pattern (row_at t row)) (row_at t row).first 0))) (non_vars (sheet_at t) sc (leaves_at t (row_at t row).next)))

  -- ---- what `non_var` gives, whatever the scope

  module _ (k : Kept) (row : ℕ) (w : Row) (r : ℕ) (h : NonVar t k row w r) where
    abbrev passes : Bool
    passes = is_pattern w || is_name (kept_scope k) w

    -- Nothing or the row itself.
    pub non_var_either : (r ≡ 0) ⊎ (r ≡ row)
    non_var_either = go passes (h (kept_scope k) (sets_of k))
      where
        go : (b : Bool) → r ≡ cond b 0 row → (r ≡ 0) ⊎ (r ≡ row)
        go true e = inl e
        go false e = inr e

    pub non_var_low : (n : ℕ) → row ≤ n → r ≤ n
    non_var_low n l = go non_var_either
      where
        go : (r ≡ 0) ⊎ (r ≡ row) → r ≤ n
        go (inl z) = omega arith
        go (inr z) = omega arith

    -- Nothing, where it is made of parts.
    pub non_var_pattern : is_pattern w ≡ true → r ≡ 0
    non_var_pattern p = h (kept_scope k) (sets_of k) ∙ rw p

-- Laws of `Met`.
use mathlib.Core.Path.{◌≡◌, refl, sym, ap, ◌∙◌}
use mathlib.Core.Bool.{Bool, true, false, cond, ◌&&◌, ◌||◌, or-false, or_assoc}
use mathlib.Core.List.{List, [], ◌∷◌, ◌++◌, foldl}
use Prim.Native.Nat.{ℕ, ◌≤◌}
use Rattle.base.proofs.Laws.Truth.{not-both}
use Rattle.sheet.specs.declared.Row.{Row}
use Rattle.sheet.specs.Inner.Sheet.{row_at}
use Rattle.sheet.specs.Sheet.{is_input}
use Rattle.sheet.specs.Kinds.{is_var, is_compr}
use Rattle.base.specs.Lists.{any, concat_map}
use Rattle.scope.specs.Trees.{Tree, row_of, tree_at}
use Rattle.scope.specs.Traverse.{traverse, vars, comprs}
use Rattle.definition.specs.Uses.{reads_input}
use Rattle.scope_walk.specs.declared.Kids.{Kids}
use Rattle.scope_walk.specs.Inner.Kids.{kids_of}
use Rattle.scope_walk.specs.Inner.Walks.{alone}
use Rattle.scope_walk.specs.Inner.Sheets.{sheet_at, Accepted, expr_count}
use Rattle.scope_walk.specs.Inner.Exprs.{expr_by}
use Rattle.scope_walk.proofs.Laws.Walking.{walk_none, walk_turn}
use Rattle.definition_walk.specs.Inner.Met.{met, MetStep, MetWalk, reads}

-- A walk that keeps that one passed asks whether any does.
any-walk : (p : Row → Bool) (found : Bool) (ts : List Tree)
    → foldl (λ (u : Bool) (e : Tree). met p u (row_of e)) found ts ≡ (found || any (λ (e : Tree). p (row_of e)) ts)
any-walk p found [] = sym (or-false found)
any-walk p found (e ∷ ts) = any-walk p (met p found (row_of e)) ts ∙ or_assoc found (p (row_of e)) (any (λ (e : Tree). p (row_of e)) ts)

module _ (t : List ℕ) (p : Row → Bool) where
  -- A row that fails the test changes nothing.
  pub met-not : (w : Row) (a : Bool) → p w ≡ false → MetStep t p w a a
  met-not w a e = sym (rw e (or-false a))

  -- ---- a row's turn

  pub met-none : Accepted t → (row : ℕ) → row ≡ 0 → (rest : Bool) (a : Bool) → MetWalk t p row rest a a
  met-none ok row z rest a = walk_none t (λ (k s : Bool). k ≡ s) (λ (u : Bool) (e : Tree). met p u (row_of e)) ok row z rest a

  pub met-turn : Accepted t → (row : ℕ) → (row ≡ 0 → ⊥) → row ≤ expr_count t → (rest : Bool) (w : Row) → w ≡ row_at t row
      → (q : Kids) → q ≡ kids_of w → (next : ℕ) → next ≡ cond rest w.next 0 → (a s₀ s₁ s₂ s₃ s₄ : Bool)
      → MetStep t p w a s₀ → MetWalk t p q.first true s₀ s₁ → MetWalk t p q.second true s₁ s₂ → MetWalk t p q.third true s₂ s₃
      → MetWalk t p next true s₃ s₄ → MetWalk t p row rest a s₄
  met-turn ok row ne high rest w is q qs next ns a s₀ s₁ s₂ s₃ s₄ h₀ h₁ h₂ h₃ h₄ =
      walk_turn t (λ (k s : Bool). k ≡ s) (λ (u : Bool) (e : Tree). met p u (row_of e)) ok (met p) (λ u v. refl) row ne high rest w is
      q qs next ns a s₀ s₁ s₂ s₃ s₄ (λ s h. h₀ ∙ ap (λ (u : Bool). met p u w) h) h₁ h₂ h₃ h₄

  -- ---- from none on

  met-any : (row : ℕ) (rest : Bool) (r : Bool) → MetWalk t p row rest false r → r ≡ any (λ (e : Tree). p (row_of e)) (traverse (expr_by t rest row))
  unfolding sheet_at
  met-any row true r h = h false refl ∙ any-walk p false (traverse (tree_at (sheet_at t) row))
  met-any row false r h = h false refl ∙ any-walk p false (traverse (alone (tree_at (sheet_at t) row)))

-- Of the variables, or of all expressions: only variables are asked.
any-vars : (p : Row → Bool) (ts : List Tree) → any (λ (e : Tree). is_var (row_of e) && p (row_of e)) ts ≡ any p (vars ts)
any-vars p [] = refl
any-vars p (e ∷ ts) = go (is_var (row_of e)) (any-vars p ts)
  where
    go : (v : Bool) → any (λ (e : Tree). is_var (row_of e) && p (row_of e)) ts ≡ any p (vars ts)
        → ((v && p (row_of e)) || any (λ (e : Tree). is_var (row_of e) && p (row_of e)) ts) ≡ any p (cond v (row_of e ∷ []) [] ++ vars ts)
    go true h = ap (λ (b : Bool). p (row_of e) || b) h
    go false h = h

pub reads_all : (t : List ℕ) (row : ℕ) (rest : Bool) (r : Bool) → MetWalk t (reads t) row rest false r → r ≡ reads_input (sheet_at t) (expr_by t rest row)
unfolding reads_input
reads_all t row rest r h =
    met-any t (reads t) row rest r h ∙ any-vars (λ (w : Row). is_input (sheet_at t) w.name) (traverse (expr_by t rest row))

-- ---- comprehensions

-- None passes, none is kept.
none_kept : (ts : List Tree) → any (λ (e : Tree). is_compr (row_of e)) ts ≡ false → concat_map (λ (e : Tree). cond (is_compr (row_of e)) (e ∷ []) []) ts ≡ []
none_kept [] h = refl
none_kept (e ∷ ts) h = go (is_compr (row_of e)) h (none_kept ts)
  where
    go : (b : Bool) → (b || any (λ (e : Tree). is_compr (row_of e)) ts) ≡ false
        → (any (λ (e : Tree). is_compr (row_of e)) ts ≡ false → concat_map (λ (e : Tree). cond (is_compr (row_of e)) (e ∷ []) []) ts ≡ [])
        → (cond b (e ∷ []) [] ++ concat_map (λ (e : Tree). cond (is_compr (row_of e)) (e ∷ []) []) ts) ≡ []
    go false k next = next k
    go true k next = absurd (not-both refl k)

pub comprs-none : (t : List ℕ) (row : ℕ) (rest : Bool) → MetWalk t is_compr row rest false false → comprs (expr_by t rest row) ≡ []
comprs-none t row rest h = none_kept (traverse (expr_by t rest row)) (sym (met-any t is_compr row rest false h))

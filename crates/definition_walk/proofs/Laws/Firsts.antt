-- Laws of `Firsts`.
use mathlib.Core.Path.{◌≡◌, refl, sym, ap, ◌∙◌, subst}
use mathlib.Core.Bool.{Bool, true, false, cond}
use mathlib.Core.List.{List, [], ◌∷◌, ◌++◌, foldl, map}
use mathlib.Core.Logic.{◌⊎◌, inl, inr}
use mathlib.Core.Option.{Option, none, some, some-injective}
use Prim.Native.Nat.{ℕ, ◌+◌, ◌*◌, ◌≤◌, ◌<◌}
use native.Mathlib.Omega.{arith}
use lib.Dec.{eqb}
use lib.ListN.{length, get_or, set}
use lib.Seq.{get_or-set_same, get_or-set_other}
use borrow.Author.Tests.{eqb-true, eqb-false, eq-eqb, ne_eqb}
use Rattle.base.specs.Limits as limits
use Rattle.base.proofs.Laws.Truth.{bool_cases}
use Rattle.base.specs.Lists.{filter, is_some}
use Rattle.names.specs.Inner.Names.{Names}
use Rattle.sheet.specs.declared.Row.{Row}
use Rattle.sheet.specs.Inner.Sheet.{row_at}
use Rattle.sheet.specs.Kinds.{is_var}
use Rattle.scope.specs.Trees.{Tree, row_of, tree_at}
use Rattle.scope.specs.Traverse.{traverse, vars}
use Rattle.scope.specs.Scopes as spec
use Rattle.scope.specs.Scopes.{Span, span_of, span_in}
use Rattle.definition.specs.Uses.{is_use, variables_used, add_first_use}
use Rattle.scope_walk.specs.declared.Kids.{Kids}
use Rattle.scope_walk.specs.Inner.Kids.{kids_of}
use Rattle.scope_walk.specs.Inner.Walks.{alone}
use Rattle.scope_state.specs.declared.Scope.{Scope}
use Rattle.scope_walk.specs.Inner.Sheets.{sheet_at, Accepted, expr_count}
use Rattle.scope_walk.specs.Inner.Exprs.{expr_by}
use Rattle.scope_walk.specs.Inner.Walking.{Walk}
use Rattle.scope_walk.proofs.Laws.Walking.{walk_none, walk_turn}
use Rattle.definition_walk.specs.Inner.Own.{IsUse}
use Rattle.definition_walk.specs.Inner.Firsts.{first_word, Firsts, FirstUse, use_step, FirstStep, FirstWalk}

module _ (w : Row) (low : w.name < limits.per_name) (ws : List ℕ) where
  pub use_stays : (get_or ws w.name 0 ≡ 0 → ⊥) → FirstUse w ws ws
  unfolding add_first_use
  use_stays ne spans h = go (span_in spans w.name) (h.has w.name low)
    where
      go : (o : Option Span) → first_word o ≡ get_or ws w.name 0 → Firsts ws (cond (is_some o) spans (span_of w ∷ spans))
      go none e = absurd (ne (sym e))
      go (some p) e = h

  pub use_enters : (w.line < 65536) × (w.col < 65536) → limits.per_name ≤ length ws → get_or ws w.name 0 ≡ 0 → FirstUse w ws (set ws w.name (1 + w.line * 65536 + w.col))
  unfolding add_first_use
  use_enters short room z spans h = go (span_in spans w.name) (h.has w.name low)
    where
      new : List ℕ
      new = set ws w.name (1 + w.line * 65536 + w.col)

      at : (x : ℕ) → x < limits.per_name → (eqb w.name x ≡ true) ⊎ (eqb w.name x ≡ false) → first_word (cond (eqb w.name x) (some (span_of w)) (span_in spans x)) ≡ get_or new x 0
      at x l (inl p) =
          rw p
          (sym (get_or-set_same ws w.name (1 + w.line * 65536 + w.col) 0 (omega arith)) ∙ ap (λ (y : ℕ). get_or new y 0) (eqb-true w.name x p))
      at x l (inr p) =
          rw p
          (h.has x l ∙ sym (get_or-set_other ws w.name x (1 + w.line * 65536 + w.col) 0 (λ e. eqb-false w.name x p (sym e))))

      short_at : (x : ℕ) (p : Span) → (eqb w.name x ≡ true) ⊎ (eqb w.name x ≡ false)
          → cond (eqb w.name x) (some (span_of w)) (span_in spans x) ≡ some p → (p.line < 65536) × (p.col < 65536)
      short_at x p (inl q) is = subst (λ (y : Span). (y.line < 65536) × (y.col < 65536)) (some-injective (span_of w) p (rw q at is)) short
      short_at x p (inr q) is = h.low x p (rw q at is)

      go : (o : Option Span) → first_word o ≡ get_or ws w.name 0 → Firsts new (cond (is_some o) spans (span_of w ∷ spans))
      go none e = record { has = λ x l. at x l (bool_cases (eqb w.name x)); low = λ x p is. short_at x p (bool_cases (eqb w.name x)) is }
      go (some p) e = absurd (omega (arith, e, z))

-- A walk over all expressions enters the variables that pass the test.
enter-walk : (p : Row → Bool) (spans : List Span) (ts : List Tree)
    → foldl (λ (u : List Span) (e : Tree). use_step p u (row_of e)) spans ts ≡ foldl add_first_use spans (map span_of (filter p (vars ts)))
enter-walk p spans [] = refl
enter-walk p spans (e ∷ ts) = enter-walk p (use_step p spans (row_of e)) ts ∙ go (is_var (row_of e)) (p (row_of e)) refl
  where
    go : (v b : Bool) → p (row_of e) ≡ b
        → foldl add_first_use (cond v (cond b (add_first_use spans (span_of (row_of e))) spans) spans) (map span_of (filter p (vars ts)))
        ≡ foldl add_first_use spans (map span_of (filter p (cond v (row_of e ∷ []) [] ++ vars ts)))
    go false b is = refl
    go true true is = rw is
    go true false is = rw is

module _ (t : List ℕ) (k : Scope) (extras : Names) where
  module _ (w : Row) (ws : List ℕ) where
    pub first-other : (w.kind ≡ 6 → ⊥) → FirstStep t k extras w ws ws
    first-other ne s a l h spans f = rw (ne_eqb w.kind 6 ne) f

    module _ (v : w.kind ≡ 6) (b : Bool) (uses : IsUse t k extras w b) where
      pub first_no_use : b ≡ false → FirstStep t k extras w ws ws
      first_no_use p s a l h spans f = rw (eq-eqb w.kind 6 v, sym (uses s a l h), p) f

      pub first-used : b ≡ true → (rs : List ℕ) → FirstUse w ws rs → FirstStep t k extras w ws rs
      first-used p rs put s a l h spans f = rw (eq-eqb w.kind 6 v, sym (uses s a l h), p) (put spans f)

  -- ---- a row's turn

  module _ (s : spec.Scope) (l : List ℕ) where
    abbrev step : List Span → Row → List Span
    step = use_step (is_use (sheet_at t) s l)

    abbrev Walks : ℕ → Bool → List ℕ → List ℕ → Type 0
    Walks row rest ws rs = Walk t Firsts (λ (u : List Span) (e : Tree). step u (row_of e)) row rest ws rs

    to-walk : (row : ℕ) (rest : Bool) (ws rs : List ℕ)
        → ((spans : List Span) → Firsts ws spans → Firsts rs (foldl add_first_use spans (map span_of (variables_used (sheet_at t) s l (expr_by t rest row)))))
        → Walks row rest ws rs
    unfolding variables_used sheet_at
    to-walk row true ws rs h spans f =
        subst (Firsts rs) (sym (enter-walk (is_use (sheet_at t) s l) spans (traverse (tree_at (sheet_at t) row)))) (h spans f)
    to-walk row false ws rs h spans f =
        subst (Firsts rs) (sym (enter-walk (is_use (sheet_at t) s l) spans (traverse (alone (tree_at (sheet_at t) row))))) (h spans f)

    from-walk : (row : ℕ) (rest : Bool) (ws rs : List ℕ) → Walks row rest ws rs
        → (spans : List Span) → Firsts ws spans → Firsts rs (foldl add_first_use spans (map span_of (variables_used (sheet_at t) s l (expr_by t rest row))))
    unfolding variables_used sheet_at
    from-walk row true ws rs h spans f =
        subst (Firsts rs) (enter-walk (is_use (sheet_at t) s l) spans (traverse (tree_at (sheet_at t) row))) (h spans f)
    from-walk row false ws rs h spans f =
        subst (Firsts rs) (enter-walk (is_use (sheet_at t) s l) spans (traverse (alone (tree_at (sheet_at t) row)))) (h spans f)

  pub first-none : Accepted t → (row : ℕ) → row ≡ 0 → (rest : Bool) (ws : List ℕ) → FirstWalk t k extras row rest ws ws
  first-none ok row z rest ws s a l h =
      from-walk s l row rest ws ws (walk_none t Firsts (λ (u : List Span) (e : Tree). step s l u (row_of e)) ok row z rest ws)

  pub first-turn : Accepted t → (row : ℕ) → (row ≡ 0 → ⊥) → row ≤ expr_count t → (rest : Bool) (w : Row) → w ≡ row_at t row
      → (p : Kids) → p ≡ kids_of w → (next : ℕ) → next ≡ cond rest w.next 0 → (ws s₀ s₁ s₂ s₃ s₄ : List ℕ)
      → FirstStep t k extras w ws s₀ → FirstWalk t k extras p.first true s₀ s₁ → FirstWalk t k extras p.second true s₁ s₂ → FirstWalk t k extras p.third true s₂ s₃
      → FirstWalk t k extras next true s₃ s₄ → FirstWalk t k extras row rest ws s₄
  first-turn ok row ne high rest w is p ps next ns ws s₀ s₁ s₂ s₃ s₄ h₀ h₁ h₂ h₃ h₄ s a l h =
      let part : (v : ℕ) (x y : List ℕ) → FirstWalk t k extras v true x y → Walks s l v true x y = λ v x y q. to-walk s l v true x y (q s a l h) in
      from-walk s l row rest ws s₄
      (walk_turn t Firsts (λ (u : List Span) (e : Tree). step s l u (row_of e)) ok (step s l) (λ u v. refl) row ne high rest w is p ps next ns
      ws s₀ s₁ s₂ s₃ s₄ (h₀ s a l h) (part _ _ _ h₁) (part _ _ _ h₂) (part _ _ _ h₃) (part _ _ _ h₄))

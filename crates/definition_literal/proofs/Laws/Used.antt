-- Laws of `Used`.
use mathlib.Core.Path.{◌≡◌, sym, ap, subst}
use mathlib.Core.Bool.{Bool, true, cond, ◌||◌}
use mathlib.Core.List.{List}
use Prim.Native.Nat.{ℕ, ◌≤◌}
use native.Mathlib.Omega.{arith}
use lib.Dec.{eqb}
use borrow.Author.Tests.{eq-eqb}
use Rattle.base.proofs.Laws.Truth.{not-both, neither_left, neither_right}
use Rattle.names.specs.Inner.Names.{Names}
use Rattle.sheet.specs.declared.Row.{Row}
use Rattle.sheet.specs.Inner.Sheet.{row_at}
use Rattle.sheet.specs.declared.kinds.Kind.{Kind}
use Rattle.sheet.specs.Inner.Kinds.{KindNumbered}
use Rattle.scope_walk.proofs.Laws.Arms.{Quiet, no_such_kinds}
use Rattle.scope_walk.specs.declared.Kids.{Kids}
use Rattle.scope_walk.specs.Inner.Kids.{kids_of}
use Rattle.scope_state.specs.declared.Scope.{Scope}
use Rattle.scope_walk.specs.Inner.Sheets.{Accepted, expr_count}
use Rattle.definition_walk.specs.Inner.Adds.{Adds}
use Rattle.definition_walk.proofs.Laws.Adds.{adds_none, adds_then}
use Rattle.definition_walk.specs.Inner.Assigned.{AssignedWalk}
use Rattle.definition_walk.specs.Inner.UsedVars.{UsedVar, UsedStep}
use Rattle.definition_walk.proofs.Laws.UsedVars.{names-none, names-turn, used_step_var, step-bracket, used_step_other}
use Rattle.definition_literal.specs.Inner.Used.{NamesWalk}

module _ (t : List ℕ) (k : Scope) (extras : Names) where
  module _ (ok : Accepted t) where
    pub names_walk_none : (row : ℕ) → row ≡ 0 → (rest : Bool) (a : Names) → NamesWalk t k extras row rest a a
    names_walk_none row z rest a s h l o = rw (z, names-none t s l ok rest) (adds_none a)

    -- A row's turn: what it uses by itself, then its parts, then the rest of its chain.
    pub names_walk_turn : (row : ℕ) → (row ≡ 0 → ⊥) → row ≤ expr_count t → (rest : Bool) (w : Row) → w ≡ row_at t row
        → (p : Kids) → p ≡ kids_of w → (next : ℕ) → next ≡ cond rest w.next 0 → (a s₀ s₁ s₂ s₃ s₄ : Names)
        → UsedStep t k extras w a s₀ → NamesWalk t k extras p.first true s₀ s₁ → NamesWalk t k extras p.second true s₁ s₂ → NamesWalk t k extras p.third true s₂ s₃
        → NamesWalk t k extras next true s₃ s₄ → NamesWalk t k extras row rest a s₄
    names_walk_turn row ne high rest w is p ps next ns a s₀ s₁ s₂ s₃ s₄ h₀ h₁ h₂ h₃ h₄ s h l o =
        subst (λ (u : List ℕ). Adds a u s₄) (sym (names-turn t s l ok rest row ne high w is p ps next ns))
        (adds_then a s₃ s₄ _ _ (adds_then a s₂ s₃ _ _ (adds_then a s₁ s₂ _ _ (adds_then a s₀ s₁ _ _ (h₀ s h l o) (h₁ s h l o)) (h₂ s h l o)) (h₃ s h l o)) (h₄ s h l o))

-- ---- the arms of `used_names`: at a Var and at a RefBrack something is used

abbrev pub used_number : ℕ → Bool
used_number n = eqb n 6 || eqb n 16

module _ (t : List ℕ) (k : Scope) (extras : Names) (w : Row) (a : Names) where
  pub used_still : (kind : Kind) → KindNumbered w.kind kind → Quiet (UsedStep t k extras w) w used_number kind a
  used_still kind is = record {
    numbered = is;
    past = no_such_kinds w 6 16 (omega arith) (omega arith) (omega arith) (omega arith);
    still = λ h.
        used_step_other t k extras w a (λ e. not-both (eq-eqb w.kind 6 e) (neither_left (eqb w.kind 6) _ h))
        (λ e. not-both (eq-eqb w.kind 16 e) (neither_right (eqb w.kind 6) _ h));
  }

  pub used_at-var : w.kind ≡ 6 → (b : Names) → UsedVar t k extras w a b → UsedStep t k extras w a b
  used_at-var = used_step_var t k extras w a

  pub used_at-bracket : w.kind ≡ 16 → (b : Names) → AssignedWalk t k w.second true a b → UsedStep t k extras w a b
  used_at-bracket e = step-bracket t k extras w a (λ v. not-both (eq-eqb w.kind 6 v) (ap (λ (n : ℕ). eqb n 6) e)) e

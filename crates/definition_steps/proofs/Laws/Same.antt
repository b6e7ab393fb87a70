-- The own names of a scope, its locals and its unscoped names: what an expression uses depends on nothing else of a scope.
use mathlib.Core.Path.{◌≡◌, refl, ap, ap₂, ◌∙◌}
use mathlib.Core.Bool.{false}
use mathlib.Core.List.{List, ◌∷◌}
use Prim.Native.Nat.{ℕ}
use Rattle.sheet.specs.declared.Row.{Row}
use Rattle.sheet.specs.Sheet.{Sheet}
use Rattle.scope.specs.Trees.{Tree}
use Rattle.scope.specs.Scopes.{NameSet, empty, Span, Scope, is_local, owns, var_exists}
use Rattle.definition.specs.Uses.{assigned_vars, index_vars, is_use, used_at, used_vars, index_definitions_at, index_definitions}
use Rattle.definition.specs.SomeIn.{non_vars}
use Rattle.scope_state.specs.Inner.Outers.{Outer}

-- The scope b has the own names of a.
pub record SameScope (a b : Scope) : Type 0 where
  pub locals : b.locals ≡ a.locals
  pub unscoped : b.unscoped ≡ a.unscoped

pub same_refl : (a : Scope) → SameScope a a
same_refl a = record { locals = refl; unscoped = refl }

pub same_trans : {a b c : Scope} → SameScope a b → SameScope b c → SameScope a c
same_trans p q = record { locals = q.locals ∙ p.locals; unscoped = q.unscoped ∙ p.unscoped }

-- ---- what depends on own names alone

-- A scope of own names.
abbrev own : List Span → NameSet → Scope
own l u = record { locals = l; unscoped = u; inputs = empty; uses_input = false }

module _ {a b : Scope} (p : SameScope a b) where
  pub same_local : (x : ℕ) → is_local b x ≡ is_local a x
  same_local x = ap (λ (l : List Span). is_local (own l a.unscoped) x) p.locals

  module _ (sheet : Sheet) (extras : List ℕ) where
    pub same-used : (t : Tree) → used_vars sheet b extras t ≡ used_vars sheet a extras t
    unfolding used_vars used_at is_use index_vars assigned_vars owns
    same-used t = ap₂ (λ (l : List Span) (u : NameSet). used_vars sheet (own l u) extras t) p.locals p.unscoped

    pub same_index : (i : ℕ) (t : Tree) → index_definitions sheet b extras i t ≡ index_definitions sheet a extras i t
    unfolding index_definitions index_definitions_at used_vars used_at is_use index_vars assigned_vars owns
    same_index i t = ap₂ (λ (l : List Span) (u : NameSet). index_definitions sheet (own l u) extras i t) p.locals p.unscoped

  pub same-non_vars : (sheet : Sheet) (ls : List Tree) → non_vars sheet b ls ≡ non_vars sheet a ls
  unfolding non_vars
  same-non_vars sheet ls = ap (λ (l : List Span). non_vars sheet (own l a.unscoped) ls) p.locals

  -- As a parent it is the same.
  pub same-exists : (ps : List Scope) (w : Row) → var_exists (b ∷ ps) w ≡ var_exists (a ∷ ps) w
  unfolding var_exists
  same-exists ps w = ap₂ (λ (l : List Span) (u : NameSet). var_exists (own l u ∷ ps) w) p.locals p.unscoped

  pub same_scope_outer : (inner : List ℕ) (ps : List Scope) → Outer inner (a ∷ ps) → Outer inner (b ∷ ps)
  same_scope_outer inner ps o = record { has = λ w low lined. same-exists ps w ∙ o.has w low lined }

-- Laws of `Gathers`.
use mathlib.Core.Path.{◌≡◌, refl, ◌∙◌}
use mathlib.Core.Bool.{Bool}
use mathlib.Core.List.{List, [], ◌∷◌, map}
use mathlib.Core.Option.{Option, none, some}
use Prim.Native.Nat.{ℕ}
use Rattle.sheet.specs.declared.Row.{Row}
use Rattle.sheet.specs.Sheet.{Sheet}
use Rattle.scope.specs.Trees.{Tree}
use Rattle.scope.specs.Scopes.{Scope, span_of, owns, use_input}
use Rattle.definition.specs.Uses.{assigned_vars, index_vars, reads_input, undefined_var, is_use, used_at, used_vars, variables_used, index_definitions}
use Rattle.definition.specs.States.{Fault, sound, undefined, used_before, lengths, index_variable, State, set_scope, add_first_uses, add_definitions, set_run, fail, if_sound, in_turn}
use Rattle.definition.specs.Using.{gather_used_vars}
use Rattle.definition_state.specs.Inner.Frames.{guarded}
use Rattle.definition_expr.specs.Inner.Gathers.{use_each}

module _ (sheet : Sheet) (i : ℕ) (l : List ℕ) (e : Tree) where
  -- They are: the input flag, the first uses, and the definitions of the brackets.
  unfoldable pub use_all : State → State
  use_all s =
      add_definitions (index_definitions sheet s.scope l i e)
      (add_first_uses (map span_of (variables_used sheet s.scope l e)) (set_scope (use_input (reads_input sheet e) s.scope) s))

  steps : (s : State) → s.run.fault ≡ sound
      → in_turn ((λ u. set_scope (use_input (reads_input sheet e) u.scope) u)
      ∷ add_first_uses (map span_of (variables_used sheet s.scope l e))
      ∷ add_definitions (index_definitions sheet s.scope l i e)
      ∷ []) s
      ≡ use_all s
  unfolding use_all set_scope add_first_uses
  steps s fine = rw fine

  pub gather-defined : (s : State) → s.run.fault ≡ sound → undefined_var sheet s.scope e ≡ none → gather_used_vars sheet i l e s ≡ use_all s
  unfolding gather_used_vars
  gather-defined s fine None-found = rw None-found (steps s fine)

  -- One is not: the fault at the first of them.
  pub gather-undefined : (s : State) (w : Row) → undefined_var sheet s.scope e ≡ some w
      → gather_used_vars sheet i l e s ≡ fail (undefined w.line w.col) s
  unfolding gather_used_vars
  gather-undefined s w found = rw found

-- ---- what expressions use is the same before and after

module _ (sheet : Sheet) where
  -- The flag is no name.
  used-flag : (b : Bool) (sc : Scope) (k : List ℕ) → used_vars sheet (use_input b sc) k ≡ used_vars sheet sc k
  unfolding used_vars used_at is_use index_vars assigned_vars owns use_input
  used-flag b sc k = refl

  used-failed : (x : Fault) (s : State) (k : List ℕ) → used_vars sheet (fail x s).scope k ≡ used_vars sheet s.scope k
  unfolding fail set_run
  used-failed x s k = refl

  module _ (i : ℕ) (l : List ℕ) where
    used_all : (e : Tree) (s : State) (k : List ℕ) → used_vars sheet (use_all sheet i l e s).scope k ≡ used_vars sheet s.scope k
    unfolding use_all add_definitions add_first_uses set_scope
    used_all e s k = used-flag (reads_input sheet e) s.scope k

    -- After an expression.
    pub used-after : (e : Tree) (s : State) (k : List ℕ)
        → used_vars sheet (guarded (gather_used_vars sheet i l e) s).scope k ≡ used_vars sheet s.scope k
    used-after e s k = go s.run.fault refl
      where
        by : (o : Option Row) → undefined_var sheet s.scope e ≡ o → s.run.fault ≡ sound
            → used_vars sheet (gather_used_vars sheet i l e s).scope k ≡ used_vars sheet s.scope k
        by none is fine = rw (gather-defined sheet i l e s fine is) (used_all e s k)
        by (some w) is fine = rw (gather-undefined sheet i l e s w is) (used-failed (undefined w.line w.col) s k)

        go : (x : Fault) → s.run.fault ≡ x → used_vars sheet (if_sound x (gather_used_vars sheet i l e) s).scope k ≡ used_vars sheet s.scope k
        go sound fine = by (undefined_var sheet s.scope e) refl fine
        go (undefined a b) is = refl
        go (used_before a b) is = refl
        go (lengths a b) is = refl
        go index_variable is = refl

  pub used_after_each : (i : ℕ) (es : List Tree) (s : State) (k : List ℕ) → used_vars sheet (use_each sheet i es s).scope k ≡ used_vars sheet s.scope k
  used_after_each i [] s k = refl
  used_after_each i (e ∷ es) s k = used_after_each i es (guarded (gather_used_vars sheet i [] e) s) k ∙ used-after i [] e s k

-- Laws of `Own`.
use mathlib.Core.Path.{◌≡◌, sym, ap, ◌∙◌}
use mathlib.Core.Bool.{Bool, true, false, not}
use mathlib.Core.List.{List}
use Prim.Native.Nat.{ℕ}
use Rattle.base.specs.Sets.{member}
use Rattle.names.specs.Inner.Names.{Names}
use Rattle.sheet.specs.declared.Row.{Row}
use Rattle.sheet.specs.Sheet.{is_special}
use Rattle.scope.specs.Scopes as spec
use Rattle.scope.specs.Scopes.{owns}
use Rattle.definition.specs.Uses.{is_undefined, is_use}
use Rattle.scope_state.specs.declared.Scope.{Scope}
use Rattle.scope_walk.specs.Inner.Sheets.{sheet_at}
use Rattle.scope_state.specs.Inner.Agrees.{Sets}
use Rattle.definition_walk.specs.Inner.Own.{Owns, IsUse}

module _ (k : Scope) where
  module _ (x : ℕ) where
    pub own_local : member k.locals.words x ≡ true → Owns k x true
    unfolding owns
    own_local p s a = sym (rw (a.locals x, p))

    pub own-unscoped : member k.locals.words x ≡ false → (r : Bool) → r ≡ member k.unscoped.words x → Owns k x r
    unfolding owns
    own-unscoped p r e s a = rw (a.locals x, p) (e ∙ sym (a.unscoped x))

module _ (t : List ℕ) (k : Scope) where
  abbrev pub IsUndefined : Row → Bool → Type 0
  IsUndefined w r = (s : spec.Scope) → Sets k s → r ≡ is_undefined (sheet_at t) s w

  module _ (w : Row) (b : Bool) (is : b ≡ is_special (sheet_at t) w.name) where
    pub undefined-special : b ≡ true → IsUndefined w false
    unfolding is_undefined
    undefined-special p s a = sym (rw (sym is, p))

    pub use_special : b ≡ true → (extras : Names) → IsUse t k extras w false
    unfolding is_use
    use_special p extras s a l h = sym (rw (sym is, p))

    module _ (other : b ≡ false) (o : Bool) (owned : Owns k w.name o) where
      pub undefined-own : o ≡ true → IsUndefined w false
      unfolding is_undefined
      undefined-own p s a = sym (rw (sym is, other, sym (owned s a), p))

      pub undefined-input : o ≡ false → (i : Bool) → i ≡ member k.inputs.words w.name → IsUndefined w (not i)
      unfolding is_undefined
      undefined-input p i e s a = sym (rw (sym is, other, sym (owned s a), p) (ap not (a.inputs w.name ∙ sym e)))

      pub use_own : o ≡ true → (extras : Names) (i : Bool) → i ≡ member extras.words w.name → IsUse t k extras w (not i)
      unfolding is_use
      use_own p extras i e s a l h = sym (rw (sym is, other, sym (owned s a), p) (ap not (h.has w.name ∙ sym e)))

      pub use_other : o ≡ false → (extras : Names) → IsUse t k extras w false
      unfolding is_use
      use_other p extras s a l h = sym (rw (sym is, other, sym (owned s a), p))

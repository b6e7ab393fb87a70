-- Laws of `ExtraArgs`.
use mathlib.Core.Path.{◌≡◌, refl, ◌∙◌}
use mathlib.Core.Bool.{Bool, true, false}
use mathlib.Core.List.{List}
use mathlib.Core.Logic.{◌⊎◌, inl, inr}
use Prim.Native.Nat.{ℕ}
use native.Mathlib.Omega.{arith}
use borrow.Author.Tests.{ne_eqb}
use Rattle.base.proofs.Laws.Truth.{eq_cases, not-both}
use Rattle.scope_paths.specs.Inner.Extra.{ExtraAt}
use Rattle.definition_literal.specs.Inner.ExtraArgs.{ExtraArg}

module _ (t : List ℕ) (row : ℕ) where
  pub arg_not_asked : (call : Bool) → call ≡ false → ExtraArg t row call 0
  arg_not_asked call p = inl (record { zero = refl; nothing = λ q. absurd (not-both q p) })

  pub arg_asked : (call : Bool) → call ≡ true → (r : ℕ) → ExtraAt t row r → ExtraArg t row call r
  arg_asked call p r h = go (eq_cases r 0)
    where
      go : (r ≡ 0) ⊎ (r ≡ 0 → ⊥) → ExtraArg t row call r
      go (inl z) = inl (record { zero = z; nothing = λ q. h.0 ∙ rw z })
      go (inr n) = inr (record { asked = p; low = omega arith; high = h.1; is = h.0 ∙ rw (ne_eqb r 0 n) })

-- The sets of a scope whose names are low have room in the width's words.
use mathlib.Core.Path.{◌≡◌, ◌∙◌}
use mathlib.Core.Bool.{true, false}
use mathlib.Core.List.{List}
use mathlib.Core.Logic.{⊎_elim}
use Prim.Native.Nat.{ℕ, ◌*◌}
use native.Mathlib.Omega.{arith}
use lib.Dec.{ltb}
use borrow.Author.Tests.{ltb-true}
use Rattle.base.proofs.Laws.Truth.{bool_cases, or_left, or_right}
use Rattle.base.specs.Sets.{member}
use Rattle.names_width.specs.declared.Width.{Width}
use Rattle.names_width.specs.Inner.Widths.{set_words}
use Rattle.names_width.proofs.Laws.Widths.{Fits}
use Rattle.scope.specs.Scopes.{contains, is_local, owns}
use Rattle.scope.specs.Scopes as spec
use Rattle.scope.specs.Inner.Below.{Below}
use Rattle.scope_state.specs.declared.Scope.{Scope}
use Rattle.scope_state.specs.Inner.Agrees.{Sets}

-- A set each of whose members is below the end of the words.
fits : (v : Width) (l : List ℕ) → ((x : ℕ) → member l x ≡ true → ltb x (64 * set_words v) ≡ true) → Fits (set_words v) l
fits v l low = record {
  none = λ n h. ⊎_elim
      (λ (e : member l n ≡ true). let b = ltb-true n (64 * set_words v) (low n e) in absurd (omega (arith, b, h)))
      (λ (e : member l n ≡ false). e) (bool_cases (member l n));
}

module _ (v : Width) (k : Scope) (s : spec.Scope) (sets : Sets k s) (low : Below (64 * set_words v) s) where
  pub locals-fit : Fits (set_words v) k.locals.words
  unfolding owns
  locals-fit = fits v k.locals.words (λ x e. low.own x (or_left (is_local s x) (contains s.unscoped x) (sets.locals x ∙ e)))

  pub unscoped-fit : Fits (set_words v) k.unscoped.words
  unfolding owns
  unscoped-fit = fits v k.unscoped.words (λ x e. low.own x (or_right (is_local s x) (contains s.unscoped x) (sets.unscoped x ∙ e)))

  pub inputs-fit : Fits (set_words v) k.inputs.words
  inputs-fit = fits v k.inputs.words (λ x e. low.inputs x (sets.inputs x ∙ e))

-- Laws of `Texts`: what is put one behind the other.
use mathlib.Core.Path.{◌≡◌, refl, ◌∙◌, subst}
use mathlib.Core.List.{List, [], ◌++◌}
use Prim.Native.Nat.{ℕ}
use Rattle.answer_write.specs.declared.Text.{Text}
use Rattle.answer_write.specs.Inner.Texts.{Extends}
use Rattle.answer_write.proofs.Laws.Writes.{put_none, puts_then}

pub extends_none : (t : Text) → Extends t [] t
extends_none t = record { same = refl; puts = put_none _ _ }

pub extends_then : (t : Text) (k : List ℕ) (u : Text) (l : List ℕ) (v : Text) → Extends t k u → Extends u l v → Extends t (k ++ l) v
extends_then t k u l v f g = record { same = g.same ∙ f.same; puts = puts_then _ _ _ _ _ _ _ _ f.puts g.puts }

-- The same text in another form.
pub extends_as : (t : Text) (k l : List ℕ) (u : Text) → k ≡ l → Extends t k u → Extends t l u
extends_as t k l u e f = subst (λ (m : List ℕ). Extends t m u) e f

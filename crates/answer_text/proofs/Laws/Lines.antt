-- Runs of texts, as they are written.
use mathlib.Core.Path.{◌≡◌, sym, subst}
use mathlib.Core.List.{List, [], ◌∷◌}
use Rattle.sheet.specs.Text.{newline}
use Prim.Native.Nat.{ℕ, ◌+◌, ◌≤◌, ◌<◌}
use Rattle.answer_write.specs.declared.Text.{Text}
use Rattle.answer_write.specs.Inner.Texts.{Extends}
use Rattle.answer_write.proofs.Laws.Texts.{extends_none, extends_then, extends_as}
use Rattle.answer_text.specs.Inner.Ranges.{texts, section_of}
use Rattle.answer_text.proofs.Laws.Ranges.{texts-none, texts-last, texts_skip}

module _ (f : ℕ → List ℕ) (t : Text) (a : ℕ) where
  pub run_first : Extends t (texts f a a) t
  run_first = extends_as t [] _ t (sym (texts-none f a)) (extends_none t)

  pub run_next : (e : ℕ) → a ≤ e → (u v : Text) → Extends t (texts f a e) u → Extends u (f e) v → Extends t (texts f a (e + 1)) v
  run_next e h u v p n = extends_as t _ _ v (sym (texts-last f a e h)) (extends_then t (texts f a e) u (f e) v p n)

  -- Numbers at which nothing is given.
  pub run_skip : (e g : ℕ) → a ≤ e → e ≤ g → ((n : ℕ) → e ≤ n → n < g → f n ≡ []) → (u : Text) → Extends t (texts f a e) u → Extends t (texts f a g) u
  run_skip e g l h none u p = extends_as t _ _ u (sym (texts_skip f a e g l h none)) p

-- A section: its heading, the texts of the queries, and an empty line.
pub section_adds : (f : ℕ → List ℕ) (heading : List ℕ) (n : ℕ) (t u : Text) → Extends t heading u → (k : ℕ) → k ≡ n + 1 → (v : Text) → Extends u (texts f 1 k) v
    → (x : Text) → x ≡ v → (y : Text) → Extends x (newline ∷ []) y → Extends t (section_of heading f n) y
section_adds f heading n t u first k is v lines x same y last =
    extends_then t heading u _ y first
    (extends_then u (texts f 1 (n + 1)) x _ y (subst (λ (z : Text). Extends u (texts f 1 (n + 1)) z) (sym same) (subst (λ (m : ℕ). Extends u (texts f 1 m) v) is lines)) last)

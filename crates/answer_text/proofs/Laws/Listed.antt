-- A loop that writes a line for each name of a set.
use mathlib.Core.Path.{◌≡◌, sym, ap, ◌∙◌}
use mathlib.Core.Bool.{true, false}
use mathlib.Core.List.{List, [], ◌∷◌}
use mathlib.Core.Logic.{⊎_elim}
use Prim.Native.Nat.{ℕ, ◌+◌, ◌*◌, ◌/◌, ◌%◌, ◌≤◌, ◌<◌}
use native.Mathlib.Omega.{arith}
use Rattle.base.specs.Limits as limits
use Rattle.base.proofs.Laws.Truth.{lt_cases, not-both}
use Rattle.base.specs.Sets.{member, words_at}
use Rattle.names.specs.Inner.Sets.{Gap}
use Rattle.names.specs.Inner.Members.{Lowest}
use Rattle.names.proofs.Laws.Laws.{member_out}
use Rattle.names_width.specs.declared.Width.{Width}
use Rattle.names_width.specs.Inner.Widths.{set_words, Same}
use Rattle.names_width.proofs.Laws.Laws.{words-length}
use Rattle.answer_blocks.specs.declared.state.QuerySet.{QuerySet}
use Rattle.answer_blocks.specs.Inner.States.{set_index}
use Rattle.answer_blocks.specs.Inner.Layout.{set_at, span_at}
use Rattle.answer_write.specs.declared.Text.{Text}
use Rattle.answer_write.specs.Inner.Texts.{Extends}
use Rattle.answer_write.proofs.Laws.Texts.{extends_as}
use Rattle.answer.specs.Text.{row_line}
use Rattle.answer_text.specs.Inner.Ranges.{texts}
use Rattle.answer_text.proofs.Laws.Lines.{run_first, run_next, run_skip}
use Rattle.answer_text.specs.Inner.Texts.{local_line, name_line}

-- ---- the loop: the lines of the names below n are written

module _ (f : ℕ → List ℕ) (ws : List ℕ) (none : (n : ℕ) → member ws n ≡ false → f n ≡ []) (t : Text) where
  pub lines_listed_next : {end : ℕ} (n x : ℕ) → Lowest ws end n x → (u : Text) → Extends t (texts f 0 n) u → (v : Text) → Extends u (f x) v
      → Extends t (texts f 0 (x + 1)) v
  lines_listed_next n x next u wrote v put =
      run_next f t 0 x (omega arith) u v (run_skip f t 0 n x (omega arith) next.low (λ k l b. none k (next.gap k l b)) u wrote) put

  -- Where none is left, all are written.
  pub lines_listed_all : (n : ℕ) → Gap ws n limits.per_name → n ≤ limits.per_name → (u : Text) → Extends t (texts f 0 n) u → Extends t (texts f 0 limits.per_name) u
  lines_listed_all n left low u wrote = run_skip f t 0 n limits.per_name (omega arith) low (λ k l b. none k (left k l b)) u wrote

-- ---- the sets

-- A set of w words has members that it has room for alone.
pub same_low : (w : ℕ) (l : List ℕ) (at : ℕ) (ws : List ℕ) → Same (words_at w l at) ws → (x : ℕ) → member ws x ≡ true → x < 64 * w
same_low w l at ws is x h =
    ⊎_elim (λ (low : x < 64 * w). low)
    (λ (high : 64 * w ≤ x). absurd (not-both h (sym (is.has x) ∙ member_out (words_at w l at) x (omega (arith, words-length w l at))))) (lt_cases x (64 * w))

module _ (v : Width) (w : List ℕ) (q : ℕ) where
  module _ (ws : List ℕ) (is : Same (set_at v w q 0) ws) (x : ℕ) where
    pub is_local_lem : member ws x ≡ true → member (set_at v w q 0) x ≡ true
    is_local_lem h = is.has x ∙ h

    pub local_low : member ws x ≡ true → x < 64 * set_words v
    local_low h = same_low (set_words v) w _ ws is x h

    pub local_here : member ws x ≡ true
        → row_line (q ∷ 1 ∷ x ∷ (span_at v w q x / 65536) ∷ (span_at v w q x % 65536) ∷ []) ≡ local_line v w q x
    unfolding local_line
    local_here h = rw (is_local_lem h)

    pub local_none : member ws x ≡ false → local_line v w q x ≡ []
    unfolding local_line
    local_none h = rw (is.has x ∙ h)

  module _ (set : QuerySet) (ws : List ℕ) (is : Same (set_at v w q (set_index set)) ws) (x : ℕ) where
    pub name-here : member ws x ≡ true → row_line (q ∷ (set_index set + 1) ∷ x ∷ 0 ∷ 0 ∷ []) ≡ name_line v w q set x
    unfolding name_line
    name-here h = rw (is.has x ∙ h)

    pub no_name_line : member ws x ≡ false → name_line v w q set x ≡ []
    unfolding name_line
    no_name_line h = rw (is.has x ∙ h)

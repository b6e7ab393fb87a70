-- Laws of `Takes`.
use mathlib.Core.Path.{◌≡◌, refl, sym, ap, ap₂, ◌∙◌, subst}
use mathlib.Core.Bool.{Bool, true, false}
use mathlib.Core.List.{List, ◌∷◌}
use mathlib.Core.Option.{Option, none, some}
use Prim.Native.Nat.{ℕ, zero, suc, ◌+◌, ◌-◌, ◌*◌, ◌≤◌}
use native.Mathlib.Omega.{arith}
use lib.Dec.{eqb}
use lib.ListN.{length, get_or, drop}
use lib.Seq.{get_or-drop}
use Rattle.base.specs.Limits as limits
use Rattle.base.proofs.Laws.Truth.{not-both}
use Rattle.names.specs.Inner.Sets.{Empty}
use Rattle.names.proofs.Laws.Laws.{member_below}
use Rattle.names.specs.Inner.Names.{Names}
use Rattle.names_width.specs.declared.Width.{Width}
use Rattle.names_width.specs.Inner.Widths.{set_words, Same}
use Rattle.base.specs.Sets.{words_at}
use Rattle.names_width.proofs.Laws.Laws.{words-length, at_most}
use Rattle.answer_blocks.specs.Inner.Layout.{block_size, answers_size, word_at, set_at}
use Rattle.scope.specs.Scopes.{empty, contains}
use Rattle.definition.specs.States.{QuerySchedule, schedule_of, scope_in}
use Rattle.order.specs.Turns.{mark}
use Rattle.answer_text.specs.Inner.Stored.{StoredAt}
use Rattle.definition_state.specs.Inner.Table.{answers_of}
use Rattle.definition_comprs.specs.Inner.Takes.{Takes, TakenBy}

-- Where a word of a block stands, and a set.
pub word_read : (v : Width) (w : List ℕ) (q i first at : ℕ) → first ≡ length w - answers_size v → at ≡ block_size v * (q - 1) + i
    → get_or w (first + at) 0 ≡ word_at v (answers_of v w) q i
word_read v w q i first at f e =
    ap₂ (λ (m n : ℕ). get_or w (m + n) 0) f e ∙ sym (get_or-drop (length w - answers_size v) w (block_size v * (q - 1) + i) 0)

words-drop : (n a : ℕ) (w : List ℕ) (at : ℕ) → words_at n w (a + at) ≡ words_at n (drop a w) at
words-drop zero a w at = refl
words-drop (suc n) a w at =
    let e : suc (a + at) ≡ a + suc at = omega arith in
    ap₂ (λ (x : ℕ) (l : List ℕ). x ∷ l) (sym (get_or-drop a w at 0)) (ap (words_at n w) e ∙ words-drop n a w (suc at))

pub set_read : (v : Width) (w : List ℕ) (q s first at : ℕ) → first ≡ length w - answers_size v → at ≡ block_size v * (q - 1) + (4 + set_words v * s)
    → (ws : List ℕ) → Same (words_at (set_words v) w (first + at)) ws → Same (set_at v (answers_of v w) q s) ws
set_read v w q s first at f e ws =
    subst (λ (l : List ℕ). Same l ws)
    (ap₂ (λ (m n : ℕ). words_at (set_words v) w (m + n)) f e ∙ words-drop (set_words v) (length w - answers_size v) w (block_size v * (q - 1) + (4 + set_words v * s)))

marked : (b : Bool) → b ≡ eqb (mark b) 1
marked true = refl
marked false = refl

module _ (v : Width) (w : List ℕ) (q : ℕ) (from : 1 ≤ q) (to : q ≤ limits.most_queries) (state : ℕ) (is : state ≡ word_at v (answers_of v w) q 0) where
  pub taken_none : state ≡ 0 → (k : Names) → Empty k.words → TakenBy v w q (record { inputs = k; uses = false })
  unfolding contains empty
  taken_none z k clear schedules stored = go (schedule_of schedules q) (stored q from to)
    where
      go : (o : Option QuerySchedule) → StoredAt v (answers_of v w) q o → Takes (scope_in o) (record { inputs = k; uses = false })
      go none h = record { inputs = λ x. sym (clear.has x); low = λ x m. absurd (not-both m refl); uses = refl }
      go (some a) h = absurd (omega (arith, is, z, h.placed))

  pub taken-some : (state ≡ 0 → ⊥) → (flag : ℕ) → flag ≡ word_at v (answers_of v w) q 1 → (k : Names) → Same (set_at v (answers_of v w) q 2) k.words
      → TakenBy v w q (record { inputs = k; uses = eqb flag 1 })
  taken-some ne flag fs k same schedules stored = go (schedule_of schedules q) (stored q from to)
    where
      go : (o : Option QuerySchedule) → StoredAt v (answers_of v w) q o → Takes (scope_in o) (record { inputs = k; uses = eqb flag 1 })
      go none h = absurd (ne (is ∙ h))
      go (some a) h = record {
        inputs = λ x. h.inputs x ∙ same.has x;
        low = λ x m.
            let l = member_below (set_at v (answers_of v w) q 2) x (sym (h.inputs x) ∙ m) in
            let e : length (set_at v (answers_of v w) q 2) ≡ set_words v = words-length (set_words v) (answers_of v w) _ in
            omega (arith, l, e, at_most v);
        uses = marked a.scope.uses_input ∙ ap (λ (n : ℕ). eqb n 1) (sym h.input ∙ sym fs);
      }

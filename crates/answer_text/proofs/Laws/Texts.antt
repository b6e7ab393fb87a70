-- Laws of `Texts`.
use mathlib.Core.Path.{◌≡◌, refl, sym, ap, ap₂, ◌∙◌}
use mathlib.Core.Bool.{true, false}
use mathlib.Core.List.{List, [], ◌∷◌, ◌++◌}
use Prim.Native.Nat.{ℕ, zero, suc, ◌-◌, ◌≤◌}
use native.Mathlib.Omega.{arith}
use lib.Dec.{eqb}
use mir.Val.{bool_byte}
use denote.Enum.Bare.{sameb}
use borrow.Author.Tests.{eq-eqb, ne_eqb}
use Rattle.base.specs.Limits as limits
use Rattle.answer.specs.Text.{row_line}
use Rattle.names_width.specs.declared.Width.{Width}
use Rattle.answer_blocks.specs.declared.state.State.{State}
use Rattle.answer_blocks.specs.declared.state.State.TheVariants.{Unanalysed, Unplaced, Placed}
use Rattle.answer_blocks.specs.contracts.state.State.{the_type}
use Rattle.answer_blocks.specs.Inner.States.{block_state}
use Rattle.answer_blocks.specs.declared.state.QuerySet.TheVariants.{Unscoped, Inputs}
use Rattle.answer_blocks.specs.Inner.Layout.{word_at}
use Rattle.answer_text.specs.Inner.Sound.{Bounds}
use Rattle.answer_text.specs.Inner.Ranges.{texts}
use Rattle.answer_text.specs.Inner.Texts.{query_text, places_text, sets_text, place_line, local_line, name_line}

-- ---- the first word

pub is_never : (n : ℕ) (s : State) → s ≡ block_state n → true ≡ sameb the_type s Unanalysed → n ≡ 0
is_never zero s e h = refl
is_never (suc zero) s e h = absurd (let k : true ≡ false = h ∙ ap (λ (x : State). sameb the_type x Unanalysed) e in cc)
is_never (suc (suc n)) s e h = absurd (let k : true ≡ false = h ∙ ap (λ (x : State). sameb the_type x Unanalysed) e in cc)

pub is_once : (n : ℕ) (s : State) → s ≡ block_state n → false ≡ sameb the_type s Unanalysed → n ≡ 0 → ⊥
is_once zero s e h z = let k : false ≡ true = h ∙ ap (λ (x : State). sameb the_type x Unanalysed) e in cc
is_once (suc n) s e h z = omega arith

pub is_never_word : (n : ℕ) → Unanalysed ≡ block_state n → n ≡ 0
is_never_word zero h = refl
is_never_word (suc zero) h = absurd (cc)
is_never_word (suc (suc n)) h = absurd (cc)

is_unplaced : (n : ℕ) → Unplaced ≡ block_state n → n ≡ 1
is_unplaced zero h = absurd (cc)
is_unplaced (suc zero) h = refl
is_unplaced (suc (suc n)) h = absurd (cc)

placed_once : (n : ℕ) → Placed ≡ block_state n → 2 ≤ n
placed_once zero h = absurd (cc)
placed_once (suc zero) h = absurd (cc)
placed_once (suc (suc n)) h = omega arith

flag_is : (n : ℕ) → n ≤ 1 → bool_byte (eqb n 1) ≡ n
flag_is zero h = refl
flag_is (suc zero) h = refl
flag_is (suc (suc n)) h = absurd (omega arith)

module _ (v : Width) (w : List ℕ) (q : ℕ) where
  -- ---- by the first word

  module _ (never : word_at v w q 0 ≡ 0) where
    pub query-never : (query_text v w q) ≡ row_line (q ∷ 2 ∷ 0 ∷ [])
    unfolding query_text
    query-never = rw (eq-eqb (word_at v w q 0) 0 never)

    pub places-never : (places_text v w q) ≡ []
    unfolding places_text
    places-never = rw (eq-eqb (word_at v w q 0) 0 never)

    pub sets-never : (sets_text v w q) ≡ []
    unfolding sets_text
    sets-never = rw (eq-eqb (word_at v w q 0) 0 never)

  module _ (once : word_at v w q 0 ≡ 0 → ⊥) where
    pub query_text-once : (query_text v w q) ≡ row_line (q ∷ (word_at v w q 0 - 1) ∷ word_at v w q 1 ∷ [])
    unfolding query_text
    query_text-once = rw (ne_eqb (word_at v w q 0) 0 once)

    pub places-once : (places_text v w q) ≡ texts (place_line v w q) 0 (word_at v w q 2)
    unfolding places_text
    places-once = rw (ne_eqb (word_at v w q 0) 0 once)

    pub sets-once : (sets_text v w q) ≡ texts (local_line v w q) 0 limits.per_name ++ (texts (name_line v w q Unscoped) 0 limits.per_name ++ texts (name_line v w q Inputs) 0 limits.per_name)
    unfolding sets_text
    sets-once = rw (ne_eqb (word_at v w q 0) 0 once)

  -- The row of an analysed query.
  module _ (sound : 1 ≤ word_at v w q 0 → Bounds v w q) (i : ℕ) (is : i ≡ bool_byte (eqb (word_at v w q 1) 1)) where
    analysed_row : (m : ℕ) → word_at v w q 0 ≡ suc m → row_line (q ∷ m ∷ i ∷ []) ≡ query_text v w q
    analysed_row m e =
        let s = sound (omega (arith, e)) in
        let p : m ≡ word_at v w q 0 - 1 = omega (arith, e) in
        ap₂ (λ (x y : ℕ). row_line (q ∷ x ∷ y ∷ [])) p (is ∙ flag_is (word_at v w q 1) s.input) ∙ sym (query_text-once (λ z. omega (arith, e, z)))

    pub unplaced_row : Unplaced ≡ block_state (word_at v w q 0) → row_line (q ∷ 0 ∷ i ∷ []) ≡ query_text v w q
    unplaced_row h = analysed_row 0 (is_unplaced _ h)

    pub placed_row : Placed ≡ block_state (word_at v w q 0) → row_line (q ∷ 1 ∷ i ∷ []) ≡ query_text v w q
    placed_row h =
        let two = placed_once (word_at v w q 0) h in
        let s = sound (omega (arith, two)) in
        analysed_row 1 (omega (arith, two, s.state))

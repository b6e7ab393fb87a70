-- Laws of the layout, for both widths.
use mathlib.Core.Path.{◌≡◌, refl, sym, ap, ◌∙◌}
use mathlib.Core.Bool.{true, false}
use mathlib.Core.List.{List}
use mathlib.Core.Logic.{◌⊎◌, inl, inr}
use Prim.Native.Nat.{ℕ, ◌+◌, ◌-◌, ◌*◌, ◌/◌, ◌%◌, ◌≤◌, ◌<◌}
use native.Mathlib.Omega.{arith}
use lib.Dec.{eqb}
use lib.ListN.{length, get_or}
use borrow.Author.Tests.{eq-eqb, ne_eqb}
use Rattle.base.specs.Limits as limits
use Rattle.base.proofs.Laws.Truth.{eq_cases}
use Rattle.names_width.specs.declared.Width.{Width}
use Rattle.names_width.specs.declared.Width.TheVariants.{Two, Eight}
use Rattle.names_width.specs.Inner.Widths.{set_words}
use Rattle.answer_blocks.specs.Inner.Layout.{block_size, places, answers_size, both, half, SpansPut}

-- A block has room for four words, three sets and half as many words as names; the places are behind them all.
pub block-is : (v : Width) → block_size v ≡ 4 + 3 * set_words v + 32 * set_words v
block-is Two = refl
block-is Eight = refl

pub block_in : (v : Width) (q : ℕ) → 1 ≤ q → q ≤ limits.most_queries → block_size v * (q - 1) + block_size v ≤ places v
block_in Two q l h = omega arith
block_in Eight q l h = omega arith

pub block_apart : (v : Width) (p q : ℕ) → 1 ≤ p → p < q → block_size v * (p - 1) + block_size v ≤ block_size v * (q - 1)
block_apart Two p q l h = omega arith
block_apart Eight p q l h = omega arith

pub answers_are : (v : Width) → answers_size v ≡ places v + limits.most_statements
answers_are Two = refl
answers_are Eight = refl

pub block-few : (v : Width) → (4 ≤ block_size v) × (block_size v ≤ block_size Eight)
block-few Two = (omega arith, omega arith)
block-few Eight = (omega arith, omega arith)

-- A set lies within the block.
pub set_in : (v : Width) (s : ℕ) → s ≤ 2 → (4 + set_words v * s) + set_words v ≤ block_size v
set_in Two s h = omega arith
set_in Eight s h = omega arith

-- ---- halves

pub lower_is : (a b : ℕ) → half (both a b) false ≡ a % 4294967296
lower_is a b = omega arith

pub upper_is : (a b : ℕ) → half (both a b) true ≡ b % 4294967296
upper_is a b = omega arith

-- ---- positions put one word after the other, from `first` up

pub record PuttingSpans (before : List ℕ) (first count : ℕ) (l after : List ℕ) (i : ℕ) : Type 0 where
  pub room : first + count ≤ length before
  pub enough : 2 * count ≤ length l
  pub here : i ≤ count
  pub long : length after ≡ length before
  pub put : (j : ℕ) → j < i → get_or after (first + j) 0 ≡ both (get_or l (2 * j) 0) (get_or l (2 * j + 1) 0)
  pub below : (j : ℕ) → j < first → get_or after j 0 ≡ get_or before j 0
  pub above : (j : ℕ) → first + i ≤ j → get_or after j 0 ≡ get_or before j 0

-- The position of x is a half of word x / 2.
module _ (a b l : List ℕ) (n : ℕ) (first x : ℕ) (put : get_or b (first + x / 2) 0 ≡ both (get_or l (2 * (x / 2)) 0) (get_or l (2 * (x / 2) + 1) 0)) where
  half_put : half (get_or b (first + x / 2) 0) (eqb (x % 2) 1) ≡ get_or l x 0 % 4294967296
  half_put = ap (λ (n : ℕ). half n (eqb (x % 2) 1)) put ∙ go (eq_cases (x % 2) 1)
    where
      go : (x % 2 ≡ 1) ⊎ (x % 2 ≡ 1 → ⊥)
          → half (both (get_or l (2 * (x / 2)) 0) (get_or l (2 * (x / 2) + 1) 0)) (eqb (x % 2) 1) ≡ get_or l x 0 % 4294967296
      go (inl e) =
          let is : 2 * (x / 2) + 1 ≡ x = omega (arith, e) in
          rw (eq-eqb (x % 2) 1 e) (upper_is _ _ ∙ ap (λ (n : ℕ). get_or l n 0 % 4294967296) is)
      go (inr ne) =
          let is : 2 * (x / 2) ≡ x = omega (arith, ne) in
          rw (ne_eqb (x % 2) 1 ne) (lower_is _ _ ∙ ap (λ (n : ℕ). get_or l n 0 % 4294967296) is)

pub spans_put_all : (v : Width) (before : List ℕ) (q first count : ℕ) (l after : List ℕ) (i : ℕ) → first ≡ block_size v * (q - 1) + (4 + 3 * set_words v)
    → count ≡ 32 * set_words v → count ≤ i → PuttingSpans before first count l after i → SpansPut v before q l after
spans_put_all v before q first count l after i f-is c-is all p = record {
  long = p.long;
  held = λ x h.
      let at : first + x / 2 ≡ block_size v * (q - 1) + (4 + 3 * set_words v + x / 2) = omega (arith, f-is) in
      ap (λ (n : ℕ). half (get_or after n 0) (eqb (x % 2) 1)) (sym at)
      ∙ half_put before after l i first x (p.put (x / 2) (omega (arith, c-is, all, h)));
  below = λ j h. p.below j (omega (arith, f-is, h));
  above = λ j h. p.above j (omega (arith, f-is, c-is, p.here, block-is v, h));
}

-- The lines of a query, read off the words.
use Rattle.std.specs.Prelude.{cond, List, [], ◌∷◌, ◌++◌, ℕ, ◌+◌, ◌-◌, ◌/◌, ◌%◌, eqb}
use Rattle.base.specs.Limits as limits
use Rattle.base.specs.Sets.{member}
use Rattle.answer.specs.Text.{row_line}
use Rattle.names_width.specs.declared.Width.{Width}
use Rattle.answer_blocks.specs.declared.state.QuerySet.{QuerySet}
use Rattle.answer_blocks.specs.declared.state.QuerySet.TheVariants.{Unscoped, Inputs}
use Rattle.answer_blocks.specs.Inner.States.{set_index}
use Rattle.answer_blocks.specs.Inner.Layout.{word_at, set_at, span_at, place_at}
use Rattle.answer_text.specs.Inner.Ranges.{texts}

module _ (v : Width) (w : List ℕ) (q : ℕ) where
  -- One text where the query is never analysed, and another where it is.
  abbrev analysed : List ℕ → List ℕ → List ℕ
  analysed never once = cond (eqb (word_at v w q 0) 0) never once

  unfoldable pub query_text : List ℕ
  query_text = analysed (row_line (q ∷ 2 ∷ 0 ∷ [])) (row_line (q ∷ (word_at v w q 0 - 1) ∷ word_at v w q 1 ∷ []))

  unfoldable pub place_line : ℕ → List ℕ
  place_line k = row_line (q ∷ k ∷ (place_at v w q k / 2) ∷ (place_at v w q k % 2) ∷ [])

  unfoldable pub places_text : List ℕ
  places_text = analysed [] (texts place_line 0 (word_at v w q 2))

  -- Nothing at a name that is no local.
  unfoldable pub local_line : ℕ → List ℕ
  local_line x =
      cond (member (set_at v w q 0) x) (row_line (q ∷ 1 ∷ x ∷ (span_at v w q x / 65536) ∷ (span_at v w q x % 65536) ∷ [])) []

  -- Nothing at a name that is not in the set.
  unfoldable pub name_line : QuerySet → ℕ → List ℕ
  name_line set x = cond (member (set_at v w q (set_index set)) x) (row_line (q ∷ (set_index set + 1) ∷ x ∷ 0 ∷ 0 ∷ [])) []

  unfoldable pub sets_text : List ℕ
  sets_text = analysed [] (texts local_line 0 limits.per_name ++ (texts (name_line Unscoped) 0 limits.per_name ++ texts (name_line Inputs) 0 limits.per_name))

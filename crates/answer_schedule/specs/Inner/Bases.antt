-- Where the places of each query begin: behind those of the queries before it.
use Rattle.std.specs.Prelude.{◌≡◌, List, ℕ, ◌≤◌}
use Rattle.names_width.specs.declared.Width.{Width}
use Rattle.answer_blocks.specs.Inner.Layout.{word_at}
use Rattle.definition_state.specs.Inner.Table.{answers_of}

-- ---- states

-- The first n queries are not analysed.
abbrev pub FreshTo : Width → List ℕ → ℕ → Type 0
FreshTo v w n = (q : ℕ) → 1 ≤ q → q ≤ n → word_at v (answers_of v w) q 0 ≡ 0

-- What the function that writes an answer asks of where it is called.
use Rattle.std.specs.Prelude.{◌≡◌, List, ℕ, ◌≤◌, length, replicate}
use Rattle.base.specs.Limits as limits
use Rattle.names_width.specs.declared.Width.{Width}
use Rattle.answer_blocks.specs.Inner.Layout.{answers_size}
use Rattle.answer_text.specs.Inner.Sound.{SoundBlocks}
use Rattle.definition_state.specs.Inner.Table.{answers_of}

-- The last words are the answers of so many queries, and the answer is empty.
pub record AsksAnswer (v : Width) (work : List ℕ) (queries : ℕ) (answer : List ℕ) : Type 0 where
  pub answers-room : answers_size v ≤ length work
  pub queries-few : queries ≤ limits.most_queries
  pub sound : SoundBlocks v (answers_of v work)
  pub zeros : answer ≡ replicate (length answer) 0

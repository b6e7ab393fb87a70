-- What the functions on a query's block ask of where they are called.
use Rattle.std.specs.Prelude.{List, ℕ, ◌≤◌, length}
use Rattle.base.specs.Limits as limits
use Rattle.names_width.specs.declared.Width.{Width}
use Rattle.answer_blocks.specs.Inner.Layout.{answers_size}

-- The words have room for all answers, and q is a query.
pub record AsksBlock (v : Width) (work : List ℕ) (q : ℕ) : Type 0 where
  pub room : answers_size v ≤ length work
  pub from : 1 ≤ q
  pub to : q ≤ limits.most_queries

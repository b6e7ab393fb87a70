-- The set lies within the block, and the block in the last words.
use mathlib.Core.Path.{ap}
use Prim.Native.Nat.{ℕ, ◌+◌, ◌-◌, ◌≤◌}
use native.Mathlib.Omega.{arith}
use lib.ListN.{length}
use Rattle.names_width.specs.Inner.Widths.{set_words}
use Rattle.names_width.proofs.Laws.Laws.{at_most}
use Rattle.answer_blocks.proofs.Laws.Laws.{block_in, answers_are, set_in}
use Rattle.definition_comprs.proofs.Laws.Takes.{set_read}
use Rattle.definition_comprs.proofs.taken.block_inputs.Goals.{After-place_of-at}
use Rattle.definition_comprs.proofs.taken.block_inputs.Goals as goal

pub overflow_sub-first : goal.overflow_sub-first
overflow_sub-first c = omega (arith, c.answers_of.ensures, c.requires.room)

pub overflow_mul-words : goal.overflow_mul-words
overflow_mul-words c = omega (arith, c.words.ensures, at_most c.args.width)

pub overflow_add-words : goal.overflow_add-words
overflow_add-words c = omega (arith, c.words.ensures, at_most c.args.width)

pub place_of-at-requires : goal.place_of-at-requires
place_of-at-requires c =
    (c.requires.from, c.requires.to, omega (arith, c.words.ensures, set_in c.args.width 2 (omega arith)))

inside : (c : After-place_of-at)
    → (let a = c.args in ((length a.work.now - c.answers_of.result) + c.place_of-at.result) + set_words a.width ≤ length a.work.now)
inside c =
    let v = c.args.width in
    omega (
      arith,
      c.answers_of.ensures,
      c.words.ensures,
      c.place_of-at.ensures,
      c.requires.room,
      set_in v 2 (omega arith),
      block_in v c.args.query c.requires.from c.requires.to,
      answers_are v,
    )

pub overflow_add-first : goal.overflow_add-first
overflow_add-first c = omega (arith, inside c)

pub load_set-requires : goal.load_set-requires
load_set-requires c = inside c

pub returns : goal.returns
returns c =
    let a = c.args in
    set_read a.width a.work.now a.query 2 _ _ (ap (λ (n : ℕ). length a.work.now - n) c.answers_of.ensures)
    (omega (arith, c.place_of-at.ensures, c.words.ensures)) _ c.load_set.ensures

-- The block stands in the last words.
use mathlib.Core.Path.{ap}
use Prim.Native.Nat.{ℕ, ◌+◌, ◌-◌, ◌<◌}
use native.Mathlib.Omega.{arith}
use lib.ListN.{length}
use Rattle.answer_blocks.proofs.Laws.Laws.{block-few, block_in, answers_are}
use Rattle.definition_comprs.proofs.Laws.Takes.{word_read}
use Rattle.definition_comprs.proofs.taken.block_word.Goals.{After-place_of-at}
use Rattle.definition_comprs.proofs.taken.block_word.Goals as goal

pub overflow_sub-first : goal.overflow_sub-first
overflow_sub-first c = omega (arith, c.answers_of.ensures, c.requires.0.room)

pub place_of-at-requires : goal.place_of-at-requires
place_of-at-requires c = (c.requires.0.from, c.requires.0.to, omega (arith, c.requires.1, (block-few c.args.width).0))

inside : (c : After-place_of-at) → (length c.args.work.now - c.answers_of.result) + c.place_of-at.result < length c.args.work.now
inside c =
    let v = c.args.width in
    omega (arith, c.answers_of.ensures, c.place_of-at.ensures, c.requires.0.room, c.requires.1, (block-few v).0, block_in v c.args.query c.requires.0.from c.requires.0.to, answers_are v)

pub overflow_add-result : goal.overflow_add-result
overflow_add-result c = omega (arith, inside c)

pub offset_bounds-work-first : goal.offset_bounds-work-first
offset_bounds-work-first c = omega (arith, inside c)

pub bounds-work-first : goal.bounds-work-first
bounds-work-first c = omega (arith, inside (goal.at.bounds-work-first c).After-place_of-at)

pub returns : goal.returns
returns c =
    let a = c.args in
    word_read a.width a.work.now a.query a.i _ _ (ap (λ (n : ℕ). length a.work.now - n) c.answers_of.ensures) c.place_of-at.ensures

-- The numbers of states and of sets.
use Rattle.std.specs.Prelude.{ℕ, zero, suc}
use Rattle.answer_blocks.specs.declared.state.State.{State}
use Rattle.answer_blocks.specs.declared.state.State.TheVariants.{Unanalysed, Unplaced, Placed}
use Rattle.answer_blocks.specs.declared.state.QuerySet.{QuerySet}
use Rattle.answer_blocks.specs.declared.state.QuerySet.TheVariants.{Locals, Unscoped, Inputs}

-- The first word of a block.
abbrev pub state_word : State → ℕ
state_word Unanalysed = 0
state_word Unplaced = 1
state_word Placed = 2

abbrev pub block_state : ℕ → State
block_state zero = Unanalysed
block_state (suc zero) = Unplaced
block_state (suc (suc n)) = Placed

-- The place of a set among those of a block.
abbrev pub set_index : QuerySet → ℕ
set_index Locals = 0
set_index Unscoped = 1
set_index Inputs = 2

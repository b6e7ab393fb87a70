-- Whether the query of a comprehension has a schedule.
use Rattle.std.specs.Prelude.{cond, ◌&&◌, List, ℕ, eqb}
use Rattle.names_width.specs.declared.Width.{Width}
use Rattle.answer_blocks.specs.Inner.Layout.{word_at}
use Rattle.sheet.specs.declared.Row.{Row}
use Rattle.sheet.specs.Kinds.{is_compr}
use Rattle.definition_state.specs.declared.Progress.{Progress}
use Rattle.definition_state.specs.Inner.Faults.{is_sound}
use Rattle.definition_state.specs.Inner.Table.{answers_of}

-- The query q, if its block says that it is not analysed, else 0.
abbrev pub unscheduled_at : Width → List ℕ → ℕ → ℕ
unscheduled_at v work q = cond (eqb (word_at v (answers_of v work) q 0) 0) q 0

-- The query of w that is to be analysed now, or 0.
abbrev pub pending_at : Progress → Row → List ℕ → ℕ
pending_at p w work = cond (is_compr w && is_sound p.fault) (unscheduled_at p.width work w.third) 0

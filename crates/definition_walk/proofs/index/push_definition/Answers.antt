-- The statement, the name, and the words of the set that the width has.
use mathlib.Core.Path.{sym, ◌∙◌, subst}
use Prim.Native.Nat.{ℕ, ◌+◌, ◌*◌, ◌≤◌}
use native.Mathlib.Omega.{arith}
use lib.ListN.{length, set, length-set}
use Rattle.names_width.specs.Inner.Widths.{set_words, Put}
use Rattle.names_width.proofs.Laws.Laws.{row_words_lem}
use Rattle.definition_walk.proofs.Laws.Appended.{row_pushed}
use Rattle.definition_walk.proofs.index.push_definition.Goals.{After-row}
use Rattle.definition_walk.proofs.index.push_definition.Goals as goal

-- The row ends within the rows.
whole : (c : After-row) → c.row.result * c.args.count + (2 + set_words c.args.width) ≤ length c.args.definitions.now
whole c = rw (c.row.ensures, sym (row_words_lem c.args.width)) c.requires

pub overflow_mul-at : goal.overflow_mul-at
overflow_mul-at c = record { fits = omega (arith, whole c) }

pub offset_bounds-definitions-at : goal.offset_bounds-definitions-at
offset_bounds-definitions-at c = record { fits = omega (arith, whole c) }

pub bounds-definitions-at : goal.bounds-definitions-at
bounds-definitions-at c = omega (arith, whole c)

pub overflow_add-definitions : goal.overflow_add-definitions
overflow_add-definitions c = record { fits = omega (arith, whole c) }

pub offset_bounds-definitions-at-2 : goal.offset_bounds-definitions-at-2
offset_bounds-definitions-at-2 c = record { fits = omega (arith, whole c) }

pub bounds-definitions-at-2 : goal.bounds-definitions-at-2
bounds-definitions-at-2 c = simp length-set (omega (arith, whole c))

pub overflow_add-at : goal.overflow_add-at
overflow_add-at c = record { fits = omega (arith, whole (goal.at.overflow_add-at c).After-row) }

pub store_set-requires : goal.store_set-requires
store_set-requires c = simp length-set (omega (arith, whole (goal.at.store_set-requires c).After-row))

pub shape_of-definitions : goal.shape_of-definitions
shape_of-definitions c =
    let a = c.args in
    let r = c.row.result in
    c.store_set.ensures.long ∙ length-set (set a.definitions.now (r * a.count) a.statement) (r * a.count + 1) a.name ∙ length-set a.definitions.now (r * a.count) a.statement

pub returns : goal.returns
returns c =
    let a = c.args in
    row_pushed a.width a.statement a.name a.used a.count a.definitions.now c.requires _
    (subst (λ (r : ℕ). Put (set_words a.width) (set (set a.definitions.now (r * a.count) a.statement) (r * a.count + 1) a.name) (r * a.count + 2) a.used.words c.store_set.new.memory)
    c.row.ensures c.store_set.ensures)

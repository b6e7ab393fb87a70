-- The words in front of the table are lent, and a row is written there.
use mathlib.Core.Path.{sym, ◌∙◌}
use native.Mathlib.Omega.{arith}
use Rattle.definition_record.proofs.Laws.Records.{front-is, one-fault, one-recorded, one-room, one-few}
use Rattle.definition_record.proofs.record.record_one.Goals as goal

pub overflow_sub-end : goal.overflow_sub-end
overflow_sub-end c = omega (arith, c.answers_of.ensures, c.requires.enough)

pub slice_bounds-push_definition-end-then-is_sound : goal.slice_bounds-push_definition-end-then-is_sound
slice_bounds-push_definition-end-then-is_sound c =
    sym (front-is c.args.p c.args.work.now _ c.answers_of.ensures)

pub push_definition-requires : goal.push_definition-requires
push_definition-requires c =
    one-room c.args.p c.args.work.now _ c.answers_of.ensures c.requires

pub overflow_add-count : goal.overflow_add-count
overflow_add-count c =
    record { fits = omega (arith, one-few c.args.p c.args.work.now c.requires, c.well_formed.1.1.1.0) }

pub returns-then-is_sound : goal.returns-then-is_sound
returns-then-is_sound c =
    let push = c.push_definition in
    one-recorded _ _ _ _ _ c.answers_of.ensures (sym c.is_sound.ensures ∙ c.if-is_sound.true) c.requires _ push.auto.definitions push.ensures
    _ c.with_count.ensures

pub returns : goal.returns
returns c =
    one-fault _ _ _ _ (sym c.is_sound.ensures ∙ c.if-is_sound.false)

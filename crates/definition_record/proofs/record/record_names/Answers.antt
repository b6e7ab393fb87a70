-- The words in front of the table are lent, and the rows are written there.
use mathlib.Core.Path.{sym, ◌∙◌}
use native.Mathlib.Omega.{arith}
use Rattle.definition_record.proofs.Laws.Records.{front-is, names-fault, each_name_fits, names-recorded}
use Rattle.definition_record.proofs.record.record_names.Goals as goal

pub overflow_sub-end : goal.overflow_sub-end
overflow_sub-end c = omega (arith, c.answers_of.ensures, c.requires.low.enough)

pub slice_bounds-define_each-end-then-is_sound : goal.slice_bounds-define_each-end-then-is_sound
slice_bounds-define_each-end-then-is_sound c =
    sym (front-is c.args.p c.args.work.now _ c.answers_of.ensures)

pub define_each-n-requires : goal.define_each-n-requires
define_each-n-requires c =
    each_name_fits _ _ _ _ c.answers_of.ensures c.requires

pub returns-then-is_sound : goal.returns-then-is_sound
returns-then-is_sound c =
    let each = c.define_each-n in
    names-recorded _ _ _ c.args.without _ _ _ c.answers_of.ensures (sym c.is_sound.ensures ∙ c.if-is_sound.true) c.requires _ each.auto.definitions _ each.ensures
    _ c.with_count.ensures

pub returns : goal.returns
returns c =
    names-fault _ _ _ c.args.without _ _ (sym c.is_sound.ensures ∙ c.if-is_sound.false)

-- The three ways out.
use mathlib.Core.Path.{sym, ◌∙◌}
use Rattle.definition_comprs.proofs.Laws.Pending.{no_compr, fault_not_pending, pending_asked}
use Rattle.definition_comprs.proofs.pending.pending.Goals as goal

pub unscheduled-requires : goal.unscheduled-requires
unscheduled-requires c =
    let in_range = c.requires.1 (sym c.is_compr.ensures ∙ c.if-is_compr.true) in
    record { room = c.requires.0; from = in_range.0; to = in_range.1 }

pub returns-then-is_sound : goal.returns-then-is_sound
returns-then-is_sound c =
    pending_asked c.args.p c.args.w c.args.work.now _ c.is_compr.ensures c.if-is_compr.true _ c.is_sound.ensures c.if-is_sound.true _
    c.unscheduled.ensures

pub returns-else-is_sound : goal.returns-else-is_sound
returns-else-is_sound c =
    fault_not_pending c.args.p c.args.w c.args.work.now _ c.is_compr.ensures c.if-is_compr.true _ c.is_sound.ensures c.if-is_sound.false

pub returns-else-is_compr : goal.returns-else-is_compr
returns-else-is_compr c =
    no_compr c.args.p c.args.w c.args.work.now _ c.is_compr.ensures c.if-is_compr.false

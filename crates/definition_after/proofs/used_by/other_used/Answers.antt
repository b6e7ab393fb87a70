-- One part of a pattern.
use mathlib.Core.Bool.{false}
use native.Mathlib.Omega.{arith}
use Rattle.definition_cycle.proofs.Laws.ComprLists.{both_front, both_used}
use Rattle.definition_cycle.proofs.Laws.PatternUses.{other-one}
use Rattle.definition_after.proofs.used_by.other_used.Goals as goal

pub comprs_used-requires : goal.comprs_used-requires
comprs_used-requires c =
    let both = c.list_both-end in
    let pre = c.requires.1 in
    both_used c.args.tables.now false _ _ _ _ both.ensures (omega (arith, both.auto.rows)) c.args.width pre.accepted _ pre.answers-room

pub returns : goal.returns
returns c =
    let a = c.args in
    other-one a.tables.now a.width a.scope a.work.now _ c.requires.0 a.mods _ _ _ _ c.empty-none.ensures
    c.used_names-by.ensures _ (both_front a.tables.now false _ _ _ _ c.list_both-end.ensures (omega (arith, c.list_both-end.auto.rows))) c.comprs_used.ensures

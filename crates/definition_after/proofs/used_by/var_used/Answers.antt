-- A name is no part by itself, any other variable is one.
use Rattle.definition_literal.proofs.Laws.SomeIn.{is-var, is_no_var}
use Rattle.definition_cycle.proofs.Laws.PatternUses.{part_none, part_itself}
use Rattle.definition_after.proofs.used_by.var_used.Goals as goal

pub is_name-requires : goal.is_name-requires
is_name-requires c = let pre = c.requires in (pre.var, pre.used-by.accepted.room, pre.name-low)

pub returns-then-is_name : goal.returns-then-is_name
returns-then-is_name c =
    let a = c.args in
    part_none a.tables.now a.p.width a.p.scope a.work.now a.row a.w a.mods
    (is-var a.tables.now a.p.scope a.w a.row c.requires.var _ c.is_name.ensures c.if-is_name.true) a.names

pub other_used-requires : goal.other_used-requires
other_used-requires c = let pre = c.requires in (pre.some-row, pre.used-by)

pub returns : goal.returns
returns c =
    let a = c.args in
    part_itself a.tables.now a.p.width a.p.scope a.work.now a.row a.w a.mods
    (is_no_var a.tables.now a.p.scope a.w a.row c.requires.var _ c.is_name.ensures c.if-is_name.false) a.names _ c.other_used.ensures

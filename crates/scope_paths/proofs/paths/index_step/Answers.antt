-- Each way out is one of the laws.
use mathlib.Core.Path.{◌∙◌}
use Rattle.sheet.proofs.Laws.Sheet.{row-fields}
use Rattle.scope_walk.proofs.Laws.Numbers.{other_number}
use Rattle.scope_paths.proofs.Laws.Paths.{path_index_none, index_string, index-other}
use Rattle.scope_paths.proofs.paths.index_step.Goals as goal

pub returns-then-row-eq0 : goal.returns-then-row-eq0
returns-then-row-eq0 c =
    let a = c.args in
    path_index_none a.tables.now c.requires.0 a.row a.path c.if-row-eq0.true

pub returns-in-String : goal.returns-in-String
returns-in-String c =
    let a = c.args in
    index_string a.tables.now c.requires.0 a.row a.path c.if-row-eq0.false c.requires.1 c.row_at-w.result
    (c.row_at-w.ensures ∙ row-fields _ _) c.in-String.ensures _ c.append.ensures

pub returns-in_default : goal.returns-in_default
returns-in_default c =
    let a = c.args in
    index-other a.tables.now c.requires.0 a.row a.path c.if-row-eq0.false c.requires.1 c.row_at-w.result
    (c.row_at-w.ensures ∙ row-fields _ _) (other_number _ c.from.ensures c.in_default.not-String)

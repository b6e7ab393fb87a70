-- The five sections, one behind the other, are a run of sections (`SectionsRun`). No call changes the tables' length.
use mathlib.Core.Path.{refl}
use Rattle.sheet.specs.Text.{bytes}
use Rattle.sheet.specs.Form.{sections}
use Rattle.sheet.specs.Tables.{areas, areas_from}
use Rattle.sheet_form.proofs.Laws.Runs.{fault_here, fault_behind, fault_end, sheet-fault, fault_out, none, next, sheet_read_lem}
use Rattle.sheet_form.proofs.read_sheet.Goals as goal

pub returns-in_err-names : goal.returns-in_err-names
unfolding bytes sections
returns-in_err-names c =
    fault_out c.args.table.now c.section_at.new.table c.from_residual.result c.from_residual.ensures.1
    (fault_here c.in_err-names.ensures refl)

pub returns-in_err-built_ins : goal.returns-in_err-built_ins
unfolding bytes sections
returns-in_err-built_ins c =
    fault_out c.args.table.now c.section_at-2.new.table c.from_residual-in_err-built_ins.result c.from_residual-in_err-built_ins.ensures.1
    (fault_behind c.in_ok-names.ensures refl (fault_here c.in_err-built_ins.ensures refl))

pub returns-in_err-expressions : goal.returns-in_err-expressions
unfolding bytes sections
returns-in_err-expressions c =
    fault_out c.args.table.now c.section_at-3.new.table c.from_residual-in_err-expressions.result c.from_residual-in_err-expressions.ensures.1
    (fault_behind c.in_ok-names.ensures refl (fault_behind c.in_ok-built_ins.ensures refl (fault_here c.in_err-expressions.ensures refl)))

pub returns-in_err-statements : goal.returns-in_err-statements
unfolding bytes sections
returns-in_err-statements c =
    fault_out c.args.table.now c.section_at-4.new.table c.from_residual-in_err-statements.result c.from_residual-in_err-statements.ensures.1
    (fault_behind c.in_ok-names.ensures refl (fault_behind c.in_ok-built_ins.ensures refl (fault_behind c.in_ok-expressions.ensures refl (fault_here c.in_err-statements.ensures refl))))

pub returns-in_err-queries : goal.returns-in_err-queries
unfolding bytes sections
returns-in_err-queries c =
    fault_out c.args.table.now c.section_at-5.new.table c.from_residual-in_err-queries.result c.from_residual-in_err-queries.ensures.1
    (fault_behind c.in_ok-names.ensures refl (fault_behind c.in_ok-built_ins.ensures refl (fault_behind c.in_ok-expressions.ensures refl (fault_behind c.in_ok-statements.ensures refl (fault_here c.in_err-queries.ensures refl)))))

pub returns-then-queries-s : goal.returns-then-queries-s
unfolding bytes sections
returns-then-queries-s c =
    sheet-fault (fault_behind c.in_ok-names.ensures refl (fault_behind c.in_ok-built_ins.ensures refl (fault_behind c.in_ok-expressions.ensures refl (fault_behind c.in_ok-statements.ensures refl (fault_behind c.in_ok-queries.ensures refl (fault_end _ _ c.in_ok-queries.ensures.sound c.if-queries-s.true))))))

pub returns : goal.returns
unfolding bytes sections areas areas_from
returns c =
    sheet_read_lem _
    (next c.in_ok-names.ensures refl (next c.in_ok-built_ins.ensures refl (next c.in_ok-expressions.ensures refl (next c.in_ok-statements.ensures refl (next c.in_ok-queries.ensures refl none))))) c.if-queries-s.false

-- Each way out is one of the laws: the first question that fails, or none.
use mathlib.Core.Path.{◌≡◌, sym, ap, ◌∙◌}
use native.Mathlib.Omega.{arith}
use Rattle.names_width.specs.Widths.{limits}
use Rattle.sheet.specs.Questions.{names_fault, count_fault, counts_fault}
use Rattle.sheet.specs.Faults.{listed}
use Rattle.sheet.specs.Inner.Answers.{unless_fault}
use Rattle.sheet.specs.declared.Refusal.TheVariants.{BadForm, BadName, BadCount}
use Rattle.sheet.proofs.Laws.AnswerLaws.{unless-passed, unless-failed}
use Rattle.sheet_form.specs.Inner.Reads.{SheetIs}
use Rattle.sheet_read.proofs.Laws.Asked.{counts-within, small, blank-room, asked_few_names, counts_fault-is, fields_fault-is, tables_are}
use Rattle.sheet_read.proofs.Laws.Ways.{mapped-ok, mapped-out, too_long_lem, bad-form, bad-name, bad-count, fields-asked}
use Rattle.sheet_read.proofs.ask.Goals.{In_ok-counts, In_ok-map_err, In_ok-map_err-2}
use Rattle.sheet_read.proofs.ask.Goals as goal

-- The sheet has the form, its names are well made, and its counts are in bounds.
formed : (c : In_ok-counts) → SheetIs c.args.s.now c.args.table.now c.in_ok-counts.counts c.read_sheet.new.table
formed c = rw (mapped-ok BadForm c.read_sheet.result _ c.in_ok-counts.ensures.cases) at c.read_sheet.ensures

named : (c : In_ok-map_err) → names_fault c.args.s.now ≡ 0
named c =
    unless-passed _ (sym (mapped-ok BadName c.check_names.result _ c.in_ok-map_err.ensures.cases) ∙ c.check_names.ensures)

counted : (c : In_ok-map_err-2) → count_fault (limits c.args.width) (listed c.in_ok-counts.counts) ≡ 0
counted c =
    unless-passed _ (sym (mapped-ok BadCount c.check_counts.result _ c.in_ok-map_err-2.ensures.cases) ∙ c.check_counts.ensures)

pub returns-then-s-gt-SHEET_BYTES : goal.returns-then-s-gt-SHEET_BYTES
returns-then-s-gt-SHEET_BYTES c = too_long_lem _ _ _ c.if-s-gt-SHEET_BYTES.true

pub read_sheet-requires : goal.read_sheet-requires
read_sheet-requires c = blank-room _ c.requires.0

pub returns-in_err-counts : goal.returns-in_err-counts
returns-in_err-counts c =
    let f = mapped-out BadForm c.read_sheet.result _ c.in_err-counts.ensures.cases c.from_residual.result c.from_residual.ensures.1 in
    let line = rw f.1 at c.read_sheet.ensures in
    rw f.2 (bad-form _ _ _ c.if-s-gt-SHEET_BYTES.false _ line.1 line.0)

pub returns-in_err-map_err : goal.returns-in_err-map_err
returns-in_err-map_err c =
    let out = c.from_residual-in_err-map_err in
    let f = mapped-out BadName c.check_names.result _ c.in_err-map_err.ensures.cases out.result out.ensures.1 in
    let line = unless-failed _ _ (sym f.1 ∙ c.check_names.ensures) in
    let form = (formed (goal.at.returns-in_err-map_err c).In_ok-counts).formed in
    rw f.2 (bad-name _ _ _ c.if-s-gt-SHEET_BYTES.false form _ line.0 line.1)

pub returns-in_err-map_err-2 : goal.returns-in_err-map_err-2
returns-in_err-map_err-2 c =
    let at = goal.at.returns-in_err-map_err-2 c in
    let out = c.from_residual-in_err-map_err-2 in
    let f = mapped-out BadCount c.check_counts.result _ c.in_err-map_err-2.ensures.cases out.result out.ensures.1 in
    let line = unless-failed _ _ (sym f.1 ∙ c.check_counts.ensures) in
    let read = formed at.In_ok-counts in
    let is = counts_fault-is c.args.s.now _ _ _ c.requires.0 read (limits c.args.width) in
    rw f.2 (bad-count _ _ _ c.if-s-gt-SHEET_BYTES.false read.formed (named at.In_ok-map_err) _ (sym is ∙ line.0) line.1)

pub store_head-requires : goal.store_head-requires
store_head-requires c =
    let at = goal.at.store_head-requires c in
    let room = blank-room _ c.requires.0 in
    let w = counts-within c.args.width _ (counted at.In_ok-map_err-2) in
    let few = asked_few_names c.args.s.now _ _ _ c.requires.0 (formed at.In_ok-counts) w.few-names in
    (omega (arith, c.read_sheet.auto.table), w, small _ few _ c.special_names.ensures)

pub check_fields-requires : goal.check_fields-requires
check_fields-requires c =
    let room = blank-room _ c.requires.0 in (
      omega (arith, c.store_head.auto.table, c.read_sheet.auto.table),
      c.requires.1,
      counts-within c.args.width _ (counted (goal.at.check_fields-requires c).In_ok-map_err-2),
    )

pub returns : goal.returns
returns c =
    let at = goal.at.returns c in
    let read = formed at.In_ok-counts in
    let fine : counts_fault (limits c.args.width) c.args.s.now ≡ 0 =
    sym (counts_fault-is c.args.s.now _ _ _ c.requires.0 read (limits c.args.width)) ∙ counted at.In_ok-map_err-2 in
    fields-asked _ _ _ c.if-s-gt-SHEET_BYTES.false read.formed (named at.In_ok-map_err) fine _ _ c.map_err-4.ensures.cases
    (c.check_fields.ensures
    ∙ ap unless_fault (fields_fault-is _ _ _ _ c.requires.0 read _ c.special_names.ensures _ c.store_head.ensures c.args.width read.formed fine))
    (tables_are _ _ _ _ c.requires.0 read _ c.special_names.ensures _ c.store_head.ensures)

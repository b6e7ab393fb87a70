-- What the first questions left tells which of the laws the way out is.
use mathlib.Core.Path.{sym}
use Prim.Native.Nat.{◌≤◌}
use native.Mathlib.Omega.{arith}
use lib.ListN.{length}
use lib.Seq.{length-take-le}
use Rattle.call.proofs.Laws.Whole.{line_low, whole-refuses, tables-enough, work-enough, lent-accepted, lent-names, call_answers}
use Rattle.call.proofs.reply_to.Goals.{In-Ok}
use Rattle.call.proofs.reply_to.Goals as goal

room : (c : In-Ok) → 8192 ≤ length c.take.new.tables
room c = tables-enough c.args.width _ _ _ _ c.in-Ok.ensures

pub of_refusal-requires : goal.of_refusal-requires
of_refusal-requires c = line_low c.args.width _ _ _ _ _ c.in-Err.ensures

pub returns-in-Err : goal.returns-in-Err
returns-in-Err c = whole-refuses c.args.width _ _ _ _ _ c.in-Err.ensures _ _ c.of_refusal.ensures _ c.requires

pub slice_bounds-answer_sheet-end : goal.slice_bounds-answer_sheet-end
slice_bounds-answer_sheet-end c = room c

pub slice_bounds-answer_sheet-end-in-Ok : goal.slice_bounds-answer_sheet-end-in-Ok
slice_bounds-answer_sheet-end-in-Ok c =
    sym (length-take-le 8192 c.take.new.tables (room (goal.at.slice_bounds-answer_sheet-end-in-Ok c).In-Ok))

pub answer_sheet-requires : goal.answer_sheet-requires
answer_sheet-requires c =
    let w = c.args.width in
    let took = c.in-Ok.ensures in (
      record {
        accepted = lent-accepted w _ _ _ _ took;
        names-few = lent-names w _ _ _ _ took;
        work-room = omega (arith, work-enough w _ _ _ _ took, c.take.auto.work);
      },
      c.requires,
    )

pub returns-in-Ok : goal.returns-in-Ok
returns-in-Ok c = call_answers c.args.width _ _ _ _ c.in-Ok.ensures _ _ _ c.answer_sheet.ensures

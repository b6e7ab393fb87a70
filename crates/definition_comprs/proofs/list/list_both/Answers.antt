-- There is room for both, for neither has more than the sheet has queries.
use mathlib.Core.Bool.{true}
use native.Mathlib.Omega.{arith}
use Rattle.definition_comprs.proofs.Laws.Few.{few-comprs, lists_both}
use Rattle.definition_comprs.proofs.list.list_both.Goals as goal

pub list_comprs-count-requires : goal.list_comprs-count-requires
list_comprs-count-requires c =
    let pre = c.requires in
    record {
      accepted = pre.accepted;
      row_in = pre.one_in;
      room = omega (arith, pre.room, few-comprs _ pre.accepted c.args.rest _ pre.one_in);
    }

pub list_comprs-requires : goal.list_comprs-requires
list_comprs-requires c =
    let pre = c.requires in
    record {
      accepted = pre.accepted;
      row_in = pre.two_in;
      room = omega (
        arith,
        pre.room,
        c.list_comprs-count.ensures.end_is,
        c.list_comprs-count.ensures.long,
        few-comprs _ pre.accepted c.args.rest _ pre.one_in,
        few-comprs _ pre.accepted true _ pre.two_in,
      );
    }

pub returns : goal.returns
returns c =
    let pre = c.requires in
    lists_both _ pre.accepted c.args.rest _ _ pre.one_in pre.two_in _ _ _ _ _ c.list_comprs-count.ensures c.list_comprs.ensures

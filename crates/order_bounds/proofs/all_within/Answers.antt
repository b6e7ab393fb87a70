use mathlib.Core.Path.{sym, ◌∙◌}
use native.Mathlib.Omega.{arith}
use Rattle.names_width.specs.Widths.{limits}
use Rattle.order_bounds.proofs.Laws.RowTests.{within_all, within_none, within-cons}
use Rattle.order_bounds.proofs.all_within.Goals as goal

pub returns-then-not-is_within : goal.returns-then-not-is_within
returns-then-not-is_within c =
    let rows = c.args.rows in
    let w = limits rows.width in
    let step = within-cons w rows.words.now c.args.n c.loop-k.k (omega (arith, c.loop-k-test.true, c.len-k-end.ensures)) in
    sym (rw (sym c.is_within.ensures, c.if-not-is_within.true) at step) ∙ c.loop-k.invariant ∙ within_all w rows.words.now c.args.n

pub loop-k-preserved : goal.loop-k-preserved
loop-k-preserved c =
    let rows = c.args.rows in
    let step = within-cons (limits rows.width) rows.words.now c.args.n c.loop-k.k (omega (arith, c.loop-k-test.true, c.len-k-end.ensures)) in
    sym (rw (sym c.is_within.ensures, c.if-not-is_within.false) at step) ∙ c.loop-k.invariant

pub returns : goal.returns
returns c =
    let rows = c.args.rows in
    let w = limits rows.width in
    sym (within_none w rows.words.now c.args.n c.loop-k.k (omega (arith, c.loop-k-test.false, c.len-k-end.ensures)))
    ∙ c.loop-k.invariant ∙ within_all w rows.words.now c.args.n

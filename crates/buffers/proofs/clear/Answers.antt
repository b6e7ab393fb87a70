use borrow.Author.Rules.{rules}
use Rattle.buffers.proofs.Laws.Fills.{clear-more}
use Rattle.buffers.proofs.clear.Goals as goal

pub loop-element-preserved : goal.loop-element-preserved
loop-element-preserved g c =
    let loop = c.loop-element in
    rw c.zero.ensures (clear-more _ c.args.buffer.now loop.buffer loop.element-index (search rules) loop.invariant)

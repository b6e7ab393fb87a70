-- The loop's invariant: the elements it has passed are zero, and the others stay.
use Rattle.std.proofs.Common.{◌≡◌, ◌++◌, drop, replicate}
use Rattle.buffers.proofs.clear.Given as goal

abbrev pub invariant-loop-element : goal.invariant-loop-element
invariant-loop-element g l = l.buffer ≡ replicate l.element-index g.T.Element.zero ++ drop l.element-index l.initial.buffer

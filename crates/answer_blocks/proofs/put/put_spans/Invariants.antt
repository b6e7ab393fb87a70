use Prim.Native.Nat.{◌-◌}
use Rattle.answer_blocks.proofs.Laws.Laws.{PuttingSpans}
use Rattle.answer_blocks.proofs.put.put_spans.Given as goal

abbrev pub invariant-loop-i : goal.invariant-loop-i
invariant-loop-i l = PuttingSpans l.initial.work l.first l.count l.spans l.work l.i

abbrev pub decreases-loop-i : goal.decreases-loop-i
decreases-loop-i l = l.count - l.i

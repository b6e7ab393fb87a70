-- The loop's invariant: what is still to be used is what stands from the loop's place on.
use Rattle.definition_comprs.proofs.Laws.Used.{UsedOnwards}
use Rattle.definition_comprs.proofs.used.comprs_used.Given as goal

abbrev pub invariant-loop-row : goal.invariant-loop-row
invariant-loop-row l = UsedOnwards l.tables l.width l.scope l.work l.rows l.initial.used l.used l.row-index

-- The chains are as long as their ends say.
use Rattle.definition_literal.proofs.Laws.Pairs.{same-lengths, other-lengths}
use Rattle.definition_literal.proofs.pairs.arrays.Goals as goal

pub returns-then-a-b : goal.returns-then-a-b
returns-then-a-b c =
    same-lengths _ _ _ _ c.end_of-a.ensures _ c.end_of-b.ensures c.if-a-b.true

pub returns : goal.returns
returns c =
    other-lengths _ _ _ _ c.end_of-a.ensures _ c.end_of-b.ensures c.if-a-b.false

-- The locals of the key, then of the value, enclosed (`every_body`).
use Rattle.scope_gather.proofs.Laws.Bodies.{every_body}
use Rattle.scope_gather.proofs.body.enclose_every.Goals as goal

pub returns : goal.returns
returns c =
    let a = c.args in
    every_body a.tables.now a.outer.now a.key a.value _ _ _ _ _ _ _ c.empty-none.ensures
    c.add_locals-s.ensures c.add_locals-s-2.ensures c.enclose.ensures

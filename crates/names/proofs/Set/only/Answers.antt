use native.Mathlib.Omega.{arith}
use Rattle.names.proofs.Laws.Words.{only-words}
use Rattle.names.proofs.Set.only.Goals as goal

pub returns : goal.returns
returns g c =
    let loop = c.loop-i in
    only-words g.row.N c.args.number loop.words c.requires loop.invariant.0 (λ j h. loop.invariant.1 j (omega arith))

use native.Mathlib.Omega.{arith}
use mathlib.Core.Path.{◌≡◌}
use Prim.Native.Nat.{◌*◌}
use lib.ListN.{length}
use borrow.Author.Rules.{rules}
use Rattle.names.proofs.Laws.Search.{gap-over, next-found}
use Rattle.names.proofs.Set.next.Goals as goal

pub returns-then-k-lt64 : goal.returns-then-k-lt64
returns-then-k-lt64 g c =
    let start = c.args in
    let loop = c.loop-i in
    let l : length start.self.words ≡ g.row.N = search rules in
    next-found start.self.words start.from loop.i c.lowest-k.result loop.invariant
    (rw c.saturating_sub.ensures at c.lowest-k.ensures) (64 * g.row.N) (omega arith) (omega arith) (omega arith)

pub loop-i-preserved : goal.loop-i-preserved
loop-i-preserved g c =
    let start = c.args in
    let loop = c.loop-i in
    gap-over start.self.words start.from loop.i c.lowest-k.result loop.invariant
    (rw c.saturating_sub.ensures at c.lowest-k.ensures) (omega arith)

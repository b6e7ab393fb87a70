use mathlib.Core.Path.{◌≡◌, subst}
use mathlib.Core.List.{List}
use Prim.Native.Nat.{ℕ, ◌+◌, ◌-◌, ◌*◌, ◌%◌, ◌/◌, ◌<◌, ◌≤◌}
use native.Mathlib.Omega.{arith}
use lib.ListN.{get_or}
use Rattle.names.specs.Inner.Sets.{Gap, Next}
use Rattle.names.specs.Inner.Lowest.{LowestBit}
use Rattle.names.proofs.Laws.Search.{gap-over, next-found}
use Rattle.base.specs.Sets.{words_at}
use Rattle.names_width.proofs.Laws.Laws.{at_most, words-length, words_get}
use Rattle.names_width.proofs.next_at.Goals as goal

-- The lowest bit of the memory's word, from `a` up, at the set's word i.
module _ (w : ℕ) (ws : List ℕ) (at from i a k : ℕ) (inside : i < w) (from-is : from - 64 * i ≡ a) (passed : Gap (words_at w ws at) from (64 * i))
    (lowest : LowestBit (get_or ws (at + i) 0) a k) where
  bit_at : LowestBit (get_or (words_at w ws at) i 0) (from - 64 * i) k
  bit_at = rw (words_get w ws at i inside, from-is) lowest

  over : 64 ≤ k → Gap (words_at w ws at) from (64 * (i + 1))
  over = gap-over (words_at w ws at) from i k passed bit_at

  found : (v : ℕ) → w ≡ v → k < 64 → Next (words_at v ws at) (64 * v) from (64 * i + k)
  found v e h =
      subst (λ (n : ℕ). Next (words_at n ws at) (64 * n) from (64 * i + k)) e
      (next-found (words_at w ws at) from i k passed bit_at (64 * w) (omega (arith, words-length w ws at)) (omega (arith, words-length w ws at)) h)

pub returns-then-k-lt64 : goal.returns-then-k-lt64
returns-then-k-lt64 c =
    let a = c.args in
    found _ a.memory.now a.at a.from (a.from / 64) (a.from % 64) c.lowest-k.result (omega (arith, c.if-count-first.false)) (omega arith)
    (λ n l u. absurd (omega arith)) c.lowest-k.ensures _ c.words-count.ensures c.if-k-lt64.true

pub loop-i-init : goal.loop-i-init
loop-i-init c =
    let a = c.args in
    let count = c.words-count.ensures in (
      omega (arith, count, c.requires),
      omega (arith, count, at_most a.width),
      over _ a.memory.now a.at a.from (a.from / 64) (a.from % 64) c.lowest-k.result (omega (arith, c.if-count-first.false)) (omega arith)
          (λ n l u. absurd (omega arith)) c.lowest-k.ensures (omega (arith, c.if-k-lt64.false)),
    )

pub returns-then-k-lt64-2 : goal.returns-then-k-lt64-2
returns-then-k-lt64-2 c =
    let a = c.args in
    let loop = c.loop-i in
    found _ a.memory.now a.at a.from loop.i 0 c.lowest-k-in-loop-i.result c.loop-i-test.true (omega (arith, loop.auto.i)) loop.invariant.2
    c.lowest-k-in-loop-i.ensures _ c.words-count.ensures c.if-k-lt64-2.true

pub loop-i-preserved : goal.loop-i-preserved
loop-i-preserved c =
    let a = c.args in
    let loop = c.loop-i in (
      loop.invariant.0,
      loop.invariant.1,
      over _ a.memory.now a.at a.from loop.i 0 c.lowest-k-in-loop-i.result c.loop-i-test.true (omega (arith, loop.auto.i)) loop.invariant.2
          c.lowest-k-in-loop-i.ensures (omega (arith, c.if-k-lt64-2.false)),
    )

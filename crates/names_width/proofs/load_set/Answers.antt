-- The memory's words in front of those that stay zero.
use mathlib.Core.Path.{◌≡◌, ap, subst}
use mathlib.Core.List.{List, ◌++◌}
use Prim.Native.Nat.{ℕ, ◌+◌, ◌-◌}
use native.Mathlib.Omega.{arith}
use lib.ListN.{drop, replicate}
use Rattle.base.specs.Sets.{words_at}
use Rattle.names.proofs.Laws.Words.{zeros-empty}
use Rattle.names_width.specs.Inner.Widths.{Same}
use Rattle.names_width.proofs.Laws.Laws.{at_most, loaded}
use Rattle.names_width.proofs.load_set.Goals as goal

pub returns : goal.returns
returns c =
    let a = c.args in
    let n = c.words-count.result in
    let count = c.words-count.ensures in
    let none : List ℕ = replicate 8 0 in
    let w : a.at + n - a.at ≡ n = omega arith in
    subst (λ (m : ℕ). Same (words_at m a.memory.now a.at) (c.copy_from_slice.new.self ++ drop n none)) count
    (loaded n a.at a.memory.now none _ (omega (arith, count, c.requires)) (omega (arith, count, at_most a.width)) (zeros-empty 8)
    (ap (λ (l : List ℕ). l ++ drop n none) (rw w at c.copy_from_slice.ensures.after)))

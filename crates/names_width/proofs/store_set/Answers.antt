use mathlib.Core.Path.{◌≡◌, ap₂, subst}
use mathlib.Core.List.{List}
use Prim.Native.Nat.{ℕ, ◌+◌, ◌-◌}
use native.Mathlib.Omega.{arith}
use borrow.Author.Rules.{rules}
use borrow.Rule.Slice.PartMut.{put_mid}
use Rattle.names_width.specs.Inner.Widths.{Put}
use Rattle.names_width.proofs.Laws.Laws.{stored}
use Rattle.names_width.proofs.store_set.Goals as goal

pub returns : goal.returns
returns c =
    let a = c.args in
    let n = c.words-count.result in
    let count = c.words-count.ensures in
    let w : a.at + n - a.at ≡ n = omega arith in
    subst (λ (m : ℕ). Put m a.memory.now a.at a.set.words (put_mid a.at (a.at + n - a.at) a.memory.now c.copy_from_slice.new.self)) count
    (stored n a.at a.memory.now a.set.words _ (omega (arith, count, c.requires)) (search rules)
    (ap₂ (λ (k : ℕ) (l : List ℕ). put_mid a.at k a.memory.now l) w c.copy_from_slice.ensures.after))

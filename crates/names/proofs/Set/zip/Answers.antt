use mathlib.Core.Path.{◌≡◌, refl, sym, ◌∙◌, subst}
use Prim.Native.Nat.{ℕ}
use native.Mathlib.Omega.{arith}
use lib.ListN.{get_or, set, length-set}
use lib.Seq.{get_or-set_same, get_or-set_other}
use borrow.Author.Count.{below_none, below_more}
use borrow.Author.Rules.{rules}
use Rattle.names.proofs.Set.zip.Goals as goal

pub loop-i-init : goal.loop-i-init
loop-i-init g c = (search rules, below_none _, λ j h. refl)

pub loop-i-preserved : goal.loop-i-preserved
loop-i-preserved g c =
    let loop = c.loop-i in
    let inv = loop.invariant in
    let i = loop.i in
    let v = c.make.result in
    let mine = c.args.self.words in
    let theirs = c.args.other.words in
    let same : get_or (set loop.words i v) i 0 ≡ v = get_or-set_same loop.words i v 0 (omega (arith, inv.0)) in
    let made = subst (λ (n : ℕ). goal.F-post g c.args.make n (get_or theirs i 0) v) (inv.2 i (omega arith)) c.make.ensures in (
      length-set loop.words i v ∙ inv.0,
      below_more (λ j. goal.F-post g c.args.make (get_or mine j 0) (get_or theirs j 0) (get_or (set loop.words i v) j 0)) i
          (λ j l. subst (λ (n : ℕ). goal.F-post g c.args.make (get_or mine j 0) (get_or theirs j 0) n) (sym (get_or-set_other loop.words i j v 0 (λ e. omega arith))) (inv.1 j l))
          (subst (λ (n : ℕ). goal.F-post g c.args.make (get_or mine i 0) (get_or theirs i 0) n) (sym same) made),
      λ j l. get_or-set_other loop.words i j v 0 (λ e. omega arith) ∙ inv.2 j (omega arith),
    )

pub returns : goal.returns
returns g c = record { long = c.loop-i.invariant.0; each = λ i h. c.loop-i.invariant.1 i (omega arith) }

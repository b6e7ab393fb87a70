use lib.ListN.{get_or}
use mir.Val.{Fits}
use mir.Syntax.{w64}
use Prim.Native.Nat.{ℕ}
use borrow.Author.Rules.{rules}
use Rattle.names.proofs.Laws.Words.{difference_words}
use Rattle.names.proofs.Set.difference.Goals as goal

pub returns : goal.returns
returns g c =
    let made = c.zip.ensures in
    let theirs = c.args.other.words in
    let word : (i : ℕ) → Fits w64 (get_or theirs i 0) = λ i. search rules in
    difference_words g.row.N c.args.self.words theirs _ (search rules) (search rules) made.long (λ i h. (word i).fits) (λ i h. made.each i h)

use mathlib.Core.Path.{◌≡◌, sym}
use native.Mathlib.Omega.{arith}
use lib.ListN.{length, get_or}
use mir.Val.{Fits}
use mir.Syntax.{w64}
use borrow.Author.Rules.{rules}
use Rattle.names.proofs.Laws.Words.{words_subset, word_not_subset}
use Rattle.names.proofs.Set.is_subset.Goals as goal

pub returns-then-self-i : goal.returns-then-self-i
returns-then-self-i g c =
    let start = c.args in
    let i = c.loop-i.i in
    let mine : Fits w64 (get_or start.self.words i 0) = search rules in
    let theirs : Fits w64 (get_or start.other.words i 0) = search rules in
    sym (word_not_subset start.self.words start.other.words i mine.fits theirs.fits c.if-self-i.true)

pub returns : goal.returns
returns g c =
    let start = c.args in
    let l : length start.self.words ≡ g.row.N = search rules in
    sym (words_subset start.self.words start.other.words (λ j h. c.loop-i.invariant j (omega arith)))

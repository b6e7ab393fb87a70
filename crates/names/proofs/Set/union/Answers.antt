use borrow.Author.Rules.{rules}
use Rattle.names.proofs.Laws.Words.{union_words}
use Rattle.names.proofs.Set.union.Goals as goal

pub returns : goal.returns
returns g c =
    let made = c.zip.ensures in
    union_words g.row.N c.args.self.words c.args.other.words _ (search rules) (search rules) made.long (λ i h. made.each i h)

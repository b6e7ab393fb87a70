-- A word that is 0 takes the position.
use borrow.Author.Rules.{rules}
use Rattle.definition_walk.proofs.Laws.Firsts.{use_stays, use_enters}
use Rattle.definition_walk.proofs.first.add_first_use.Goals as goal

pub returns-then-firsts-name-ne0 : goal.returns-then-firsts-name-ne0
returns-then-firsts-name-ne0 c = use_stays c.args.w c.requires.1 _ c.if-firsts-name-ne0.true

pub returns : goal.returns
returns c =
    use_enters c.args.w c.requires.1 _ (search rules, search rules) c.requires.0 c.if-firsts-name-ne0.false

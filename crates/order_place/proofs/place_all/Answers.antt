use borrow.Author.Rules.{rules}
use Rattle.order_place.proofs.Laws.StateLaws.{begins}
use Rattle.order_place.proofs.place_all.Goals as goal

pub place_in-requires : goal.place_in-requires
place_in-requires c =
    let none = c.start-state.ensures in
    record { starts = begins _ _ c.start-state.result none.0 (search rules) none.1 none.2 (search rules, none.3) }

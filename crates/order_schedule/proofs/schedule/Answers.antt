-- Each way out is one of Leaves: refused, or arranged.
use mathlib.Core.Path.{sym, ◌∙◌}
use Rattle.order_bounds.proofs.Laws.Answers.{list-accepted}
use Rattle.order_schedule.proofs.schedule.Goals as goal

pub arrange_rows-requires : goal.arrange_rows-requires
arrange_rows-requires c = record { accepted_list = list-accepted _ _ _ _ _ (sym c.admits.ensures ∙ c.if-not-admits.false) }

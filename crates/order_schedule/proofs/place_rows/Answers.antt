-- Both indexes start from nothing.
use Rattle.order_rows.proofs.Laws.Zeros.{zero-at, empty-at}
use Rattle.order_schedule.proofs.place_rows.Goals as goal

pub link-requires-clause-links_zeros : goal.link-requires-clause-links_zeros
link-requires-clause-links_zeros c = λ i. (zero-at 128 i, zero-at 640 i)

pub mask-defined-requires-clause-masks_empty : goal.mask-defined-requires-clause-masks_empty
mask-defined-requires-clause-masks_empty c = λ x. empty-at 512 x _ c.empty-masks.ensures

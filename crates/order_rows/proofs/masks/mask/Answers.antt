use mathlib.Core.Path.{refl}
use Rattle.names.proofs.Laws.Words.{zeros-empty}
use Rattle.order_rows.proofs.Laws.MaskLaws.{masked-first, masked-next}
use Rattle.order_rows.proofs.masks.mask.Goals as goal

pub loop-k-init : goal.loop-k-init
loop-k-init c = (refl, masked-first _ _ _ _ c.requires.masks_empty (zeros-empty 8))

pub loop-k-preserved : goal.loop-k-preserved
loop-k-preserved c =
    let name = c.name-name.ensures in (
      c.add.array_long,
      masked-next _ _ _ _ _ _ _ c.loop-k.invariant.1 (rw (name, c.statement.ensures) at c.add_to_mask.ensures) (rw name at c.add.ensures.1),
    )

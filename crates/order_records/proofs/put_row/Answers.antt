use mathlib.Core.Path.{◌≡◌, refl}
use Prim.Native.Nat.{◌+◌, ◌-◌, ◌*◌}
use native.Mathlib.Omega.{arith}
use borrow.Author.Rules.{rules}
use Rattle.order_records.proofs.Laws.Puts.{row_put}
use Rattle.order_records.proofs.put_row.Goals as goal

pub returns : goal.returns
returns c =
    let i = c.args.i in
    let k : 10 * i + 10 - (10 * i + 2) ≡ 8 = omega arith in
    row_put c.args.words.now i c.args.definition.now _ (search rules) c.requires (search rules) (rw (k, c.copy_from_slice.ensures.after) refl)

-- Only the row changes.
use mathlib.Core.Path.{ap}
use Prim.Native.Nat.{ℕ}
use Rattle.definition_expr.proofs.Using.after.Goals as goal

pub returns : goal.returns
returns c =
    let u = c.args.self in
    ap (λ (n : ℕ). record { progress = u.progress; names = u.names; comprs = n }) c.joined_row.ensures

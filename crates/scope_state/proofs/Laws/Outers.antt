-- Laws of `Outers`.
use mathlib.Core.Path.{sym}
use mathlib.Core.List.{List}
use Prim.Native.Nat.{ℕ, ◌<◌}
use lib.Dec.{leb}
use lib.ListN.{get_or}
use Rattle.base.specs.Limits as limits
use Rattle.sheet.specs.declared.Row.{Row}
use Rattle.scope_state.specs.Inner.Outers.{Exists}

pub exists : (outer : List ℕ) (w : Row) → w.name < limits.per_name → w.line < 65536 → Exists outer w (leb (get_or outer w.name 0) w.line)
exists outer w low lined parents o = sym (o.has w low lined)

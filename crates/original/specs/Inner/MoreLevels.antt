-- Levels that suffice: where no query is met deeper than the levels that are left, more levels change nothing.
use Rattle.std.specs.Prelude.{◌≡◌, false}
use Rattle.definition.specs.States.{sound, Run}
use Rattle.original.specs.Inner.Beside.{no_fault}

-- Two runs come to one fault, or they are the same.
pub data Alike (r o : Run) : Type 0 where
  stopped : r.fault ≡ o.fault → no_fault r.fault ≡ false → Alike r o
  same : r.fault ≡ sound → r ≡ o → Alike r o

-- The code's faults, and those of the definitions.
use Rattle.std.specs.Prelude.{Bool, is_none, Option, None, Some}
use Rattle.definition.specs.States as spec
use Rattle.definition_state.specs.declared.Fault.{Fault}
use Rattle.definition_state.specs.declared.Fault.TheVariants.{Undefined, UsedBefore, Lengths, IndexVariable}

abbrev pub is_sound : Option Fault → Bool
is_sound f = is_none f

-- The fault that the code's stands for.
abbrev pub meant : Fault → spec.Fault
meant (Undefined l c) = spec.undefined l c
meant (UsedBefore l c) = spec.used_before l c
meant (Lengths l c) = spec.lengths l c
meant IndexVariable = spec.index_variable

abbrev pub meaning : Option Fault → spec.Fault
meaning None = spec.sound
meaning (Some f) = meant f

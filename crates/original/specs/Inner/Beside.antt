-- Two analyses of one query side by side: up to the first fault their own parts are equal, and their tables are related.
use Rattle.std.specs.Prelude.{Bool, true, false}
use Rattle.definition.specs.States.{Fault, sound, undefined, used_before, lengths, index_variable}

-- Is there no fault?
abbrev pub no_fault : Fault → Bool
no_fault sound = true
no_fault (undefined l c) = false
no_fault (used_before l c) = false
no_fault (lengths l c) = false
no_fault index_variable = false

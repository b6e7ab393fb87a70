-- Each arm tells which fault it is.
use mathlib.Core.Path.{sym, ap}
use Rattle.call.specs.Inner.Replies.{fault_reply}
use Rattle.call.proofs.replies.of_fault.Goals as goal

pub returns-in-Undefined : goal.returns-in-Undefined
returns-in-Undefined c = sym (ap fault_reply c.in-Undefined.is)

pub returns-in-UsedBefore : goal.returns-in-UsedBefore
returns-in-UsedBefore c = sym (ap fault_reply c.in-UsedBefore.is)

pub returns-in-Lengths : goal.returns-in-Lengths
returns-in-Lengths c = sym (ap fault_reply c.in-Lengths.is)

pub returns-in-IndexVariable : goal.returns-in-IndexVariable
returns-in-IndexVariable c = sym (ap fault_reply c.in-IndexVariable.is)

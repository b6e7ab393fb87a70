-- Sets of names and of statements, as the proofs call them.
use Rattle.names.specs.declared.Set.{Set}

abbrev pub Names : Type 0
Names = Set 8

abbrev pub Statements : Type 0
Statements = Set 2

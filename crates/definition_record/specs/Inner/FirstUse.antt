-- Was a name used before a variable of that name? The first use is a word, which is taken apart where it is a fault.
use Rattle.std.specs.Prelude.{List, ℕ}
use Rattle.sheet.specs.declared.Row.{Row}
use Rattle.definition.specs.Using.{check_first_use}
use Rattle.definition_state.specs.declared.Progress.{Progress}
use Rattle.definition_state.specs.Inner.Frames.{Runs}

-- ---- and the code

abbrev pub UseChecked : Row → Progress → List ℕ → Progress → Type 0
UseChecked w p fs r = (t work : List ℕ) → Runs t (λ s. check_first_use s w) p fs work r fs work

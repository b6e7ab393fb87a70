-- The uses of an expression where there is no fault, once it is walked.
use Rattle.std.specs.Prelude.{◌≡◌, cond, List, ℕ}
use Rattle.names.specs.Inner.Names.{Names}
use Rattle.scope_state.specs.Inner.Agrees.{WithFlag}
use Rattle.definition_walk.specs.declared.found.Used.{Used}
use Rattle.definition_walk.specs.Inner.Own.{Holds}
use Rattle.definition_state.specs.declared.Progress.{Progress}
use Rattle.definition_expr.specs.declared.Using.{Using}

-- The names on some list.
pub record ListedExtras (extras : Names) : Type 0 where
  pub list : List ℕ
  pub holds : Holds extras list

-- What a walk found is taken over.
pub record Taken (row : ℕ) (p : Progress) (u : Used) (r : Using) : Type 0 where
  pub flag : WithFlag p.scope u.reads r.progress.scope
  pub count : r.progress.count ≡ u.count
  pub fault : r.progress.fault ≡ p.fault
  pub wide : r.progress.width ≡ p.width
  pub names : r.names ≡ u.names
  pub comprs : r.comprs ≡ cond u.comprs row 0

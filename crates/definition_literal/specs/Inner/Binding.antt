-- How the names of an extra argument are bound.
use Rattle.std.specs.Prelude.{◌≡◌, true, false, ℕ}
use mathlib.Core.List.{List, foldl}
use Rattle.names.specs.Inner.Names.{Names}
use Rattle.scope.specs.Scopes as spec
use Rattle.scope.specs.Scopes.{add_unscoped}
use Rattle.scope_state.specs.declared.Scope.{Scope}
use Rattle.scope_state.specs.Inner.Agrees.{Sets}
use Rattle.scope_state.specs.Inner.Spans.{Agrees}
use Rattle.definition_walk.specs.Inner.Own.{Holds}
use Rattle.definition_state.specs.declared.Progress.{Progress}
use Rattle.definition_state.specs.Inner.Faults.{is_sound}

module _ (k : Scope) (extras : Names) where
  abbrev pub Joined : Scope → Type 0
  Joined r = (s : spec.Scope) (l : List ℕ) → Sets k s → Holds extras l → Sets r (foldl add_unscoped s l)

module _ (p : Progress) (extras : Names) where
  -- The names are bound where there is no fault; after a fault nothing changes.
  pub record Bound (r : Progress) : Type 0 where
    pub count : r.count ≡ p.count
    pub fault : r.fault ≡ p.fault
    pub wide : r.width ≡ p.width
    pub same : is_sound p.fault ≡ false → r ≡ p
    pub sets : is_sound p.fault ≡ true → Joined p.scope extras r.scope
    pub agrees : is_sound p.fault ≡ true → (spans : List ℕ) (s : spec.Scope) (l : List ℕ) → Agrees p.scope spans s → Holds extras l
        → Agrees r.scope spans (foldl add_unscoped s l)

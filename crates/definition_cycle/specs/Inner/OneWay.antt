-- One direction of an assignment.
use Rattle.std.specs.Prelude.{◌≡◌, Bool, true, false, not, List, [], ◌∷◌, ℕ, eqb}
use Rattle.base.specs.Lists.{filter}
use Rattle.scope.specs.Trees.{Tree}
use Rattle.definition.specs.Uses.{assigned_vars}
use Rattle.definition.specs.States.{State, in_turn}
use Rattle.definition.specs.Using.{check_assigned, record_each}
use Rattle.scope_walk.specs.Inner.Exprs.{expr_by}
use Rattle.definition_walk.specs.Inner.Own.{Holds}
use Rattle.definition_expr.specs.declared.Using.{Using}
use Rattle.definition_state.specs.declared.Progress.{Progress}
use Rattle.definition_state.specs.Inner.Faults.{is_sound}
use Rattle.definition_state.specs.Inner.Frames.{guarded, Runs}
use Rattle.definition_record.specs.Inner.Checks.{Checks}

-- The first uses of the target's names are looked at, if `check`, whatever the work.
abbrev pub CheckedAssigned : List ℕ → ℕ → Bool → Progress → List ℕ → Progress → Type 0
CheckedAssigned t row check p firsts r = Checks t (guarded (check_assigned check (expr_by t false row))) p firsts r

-- What is done with the target once the source uses these names.
abbrev pub assigning : Bool → ℕ → Tree → List ℕ → State → State
assigning check i e used =
    in_turn (check_assigned check e ∷ (λ s. record_each i (assigned_vars s.scope e) (λ x. filter (λ y. not (eqb y x)) used) s) ∷ [])

abbrev pub Assigns : List ℕ → Tree → Bool → ℕ → Using → List ℕ → List ℕ → Progress → List ℕ → Type 0
Assigns t e check i u firsts work r work' =
    (used : List ℕ) → (is_sound u.progress.fault ≡ true → Holds u.names used)
    → Runs t (assigning check i e used) u.progress firsts work r firsts work'

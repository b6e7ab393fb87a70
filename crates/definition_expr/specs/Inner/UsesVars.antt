-- The uses of one expression, as the code does them.
use Rattle.std.specs.Prelude.{◌≡◌, Bool, true, List, ℕ, ◌+◌, length}
use Rattle.names.specs.Inner.Names.{Names}
use Rattle.definition.specs.Uses.{used_vars, index_definitions}
use Rattle.definition.specs.States.{State}
use Rattle.definition.specs.Using.{gather_used_vars}
use Rattle.scope_walk.specs.Inner.Sheets.{sheet_at}
use Rattle.scope_walk.specs.Inner.Exprs.{expr_by}
use Rattle.definition_walk.specs.Inner.Own.{Holds}
use Rattle.definition_state.specs.declared.Progress.{Progress}
use Rattle.definition_state.specs.Inner.Faults.{is_sound}
use Rattle.definition_state.specs.Inner.Frames.{guarded, Agree, Runs}
use Rattle.definition_expr.specs.declared.Using.{Using}
use Rattle.definition_expr.specs.Inner.ComprRows.{ComprsAt}

module _ (t : List ℕ) (extras : Names) (statement row : ℕ) (rest : Bool) (p : Progress) (firsts work : List ℕ) where
  -- What comes of it, for every list of names that `extras` holds and every state that the code's is.
  pub record UsesVars (r : Using) (firsts' work' : List ℕ) : Type 0 where
    pub runs : (l : List ℕ) → Holds extras l
        → Runs t (guarded (gather_used_vars (sheet_at t) statement l (expr_by t rest row))) p firsts work r.progress firsts' work'
    pub names : (l : List ℕ) → Holds extras l → (spans : List ℕ) (s : State) → Agree t spans p firsts work s
        → is_sound r.progress.fault ≡ true → Holds r.names (used_vars (sheet_at t) s.scope l (expr_by t rest row))
    pub recorded : (l : List ℕ) → Holds extras l → (spans : List ℕ) (s : State) → Agree t spans p firsts work s
        → is_sound r.progress.fault ≡ true
        → r.progress.count ≡ p.count + length (index_definitions (sheet_at t) s.scope l statement (expr_by t rest row))
    pub sound-before : is_sound r.progress.fault ≡ true → is_sound p.fault ≡ true
    pub comprs : ComprsAt t rest row r.comprs

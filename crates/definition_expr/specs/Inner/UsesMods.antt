-- The uses of the modifiers of a statement, as the code does them.
use Rattle.std.specs.Prelude.{◌≡◌, true, List, [], ℕ}
use Rattle.names.specs.Inner.Names.{Names}
use Rattle.base.specs.Lists.{concat_map}
use Rattle.scope.specs.Trees.{Tree}
use Rattle.definition.specs.Uses.{used_vars}
use Rattle.definition.specs.States.{State}
use Rattle.scope_walk.specs.Inner.Sheets.{sheet_at}
use Rattle.scope_state.specs.Inner.Chains.{chain_at}
use Rattle.definition_walk.specs.Inner.Adds.{Adds}
use Rattle.definition_state.specs.declared.Progress.{Progress}
use Rattle.definition_state.specs.Inner.Faults.{is_sound}
use Rattle.definition_state.specs.Inner.Frames.{Agree, Runs}
use Rattle.definition_expr.specs.declared.Using.{Using}
use Rattle.definition_expr.specs.Inner.ComprRows.{ComprsAt}
use Rattle.definition_expr.specs.Inner.Gathers.{use_each}

module _ (t : List ℕ) (statement : ℕ) where
  -- The expressions of a chain, each alone. The names that they use come to `before`.
  pub record UsesEach (es : List Tree) (p : Progress) (before : Names) (firsts work : List ℕ) (r : Using) (firsts' work' : List ℕ) : Type 0 where
    pub runs : Runs t (use_each (sheet_at t) statement es) p firsts work r.progress firsts' work'
    pub names : (spans : List ℕ) (s : State) → Agree t spans p firsts work s → is_sound r.progress.fault ≡ true
        → Adds before (concat_map (used_vars (sheet_at t) s.scope []) es) r.names
    pub sound-before : is_sound r.progress.fault ≡ true → is_sound p.fault ≡ true

  -- The chain at a row, and the row of its comprehensions.
  pub record UsesMods (row : ℕ) (p : Progress) (before : Names) (firsts work : List ℕ) (r : Using) (firsts' work' : List ℕ) : Type 0 where
    pub each : UsesEach (chain_at t row) p before firsts work r firsts' work'
    pub comprs : ComprsAt t true row r.comprs

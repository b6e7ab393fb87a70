-- What the query of a comprehension takes rises to the query around it.
use Rattle.std.specs.Prelude.{◌≡◌, true, List, [], ◌∷◌, ℕ}
use Rattle.names.specs.Inner.Sets.{Difference}
use Rattle.names.specs.Inner.Names.{Names}
use Rattle.sheet.specs.declared.Row.{Row}
use Rattle.sheet.specs.Sheet.{Sheet}
use Rattle.scope.specs.Trees.{Tree, row_of}
use Rattle.scope.specs.Scopes as spec
use Rattle.definition.specs.States.{State, in_turn, Way}
use Rattle.definition.specs.Comprs.{propagate, use_compr}
use Rattle.definition_once.specs.Inner.OnceWay.{Nested, once_way}
use Rattle.scope_state.specs.declared.Scope.{Scope}
use Rattle.definition_state.specs.declared.Progress.{Progress}
use Rattle.definition_state.specs.Inner.Faults.{is_sound}
use Rattle.definition_state.specs.Inner.Frames.{WholeState, Agree}
use Rattle.definition_comprs.specs.declared.taken.Taken.{Taken}
use Rattle.definition_comprs.specs.Inner.Takes.{TakenBy}
use Rattle.definition_comprs.specs.Inner.OwnInputs.{OwnInputs}
use Rattle.definition_comprs.specs.Inner.Propagated.{Propagated}
use Rattle.definition_comprs.specs.Inner.Uses.{UsesNames}

-- What is done once the query of e is analysed.
abbrev pub rising : Sheet → Way → Tree → State → State
rising sheet way e = in_turn ((λ t. propagate sheet way t.scope e t) ∷ use_compr sheet way e ∷ [])

module _ (w : Row) (work : List ℕ) where
  -- From p, which has no fault, to r.
  pub record Risen (p : Progress) (firsts : List ℕ) (r : Progress) (firsts' : List ℕ) : Type 0 where
    pub count : r.count ≡ p.count
    pub wide : r.width ≡ p.width
    pub rises : is_sound p.fault ≡ true → (sheet : Sheet) (nested : Nested) (parents : List spec.Scope) (t spans : List ℕ) (s : State) (e : Tree)
        → row_of e ≡ w → Agree t spans p firsts work s → Agree t spans r firsts' work (rising sheet (once_way sheet nested parents) e s)

-- ---- a comprehension's turn

module _ (w : Row) (work : List ℕ) (p : Progress) (ws : List ℕ) (tk : Taken) (by : TakenBy p.width work w.third tk) (own : Names)
    (owned : OwnInputs p.scope tk.inputs own) (others : Names) (d : Difference tk.inputs.words own.words others.words)
    (k : Scope) (put : Propagated p.scope tk.uses others k) (rs : List ℕ) (used : UsesNames w own ws rs) where
  module _ (sheet : Sheet) (nested : Nested) (parents : List spec.Scope) (t spans : List ℕ) (s : State) (e : Tree) (is : row_of e ≡ w)
      (h : WholeState t spans p ws work s) where
    abbrev pub way : Way
    way = once_way sheet nested parents

-- After the query of a comprehension was analysed, with a fault or without.
use Rattle.std.specs.Prelude.{◌≡◌, true, false, List, ◌⊎◌, ℕ, Option}
use Rattle.sheet.specs.declared.Row.{Row}
use Rattle.sheet.specs.Sheet.{Sheet}
use Rattle.sheet.specs.Kinds.{is_compr}
use Rattle.scope.specs.Trees.{Tree, row_of}
use Rattle.scope.specs.Scopes.{Scope}
use Rattle.definition.specs.States.{State}
use Rattle.definition_once.specs.Inner.OnceWay.{Nested, once_way}
use Rattle.definition_state.specs.declared.Fault.{Fault}
use Rattle.definition_state.specs.declared.Progress.{Progress}
use Rattle.definition_state.specs.Inner.Faults.{is_sound}
use Rattle.definition_state.specs.Inner.Frames.{with_fault, Agree}
use Rattle.definition_comprs.specs.Inner.Rising.{rising}

module _ (w : Row) (work : List ℕ) where
  -- From p, where the query of w was analysed, to this fault or to none.
  pub record AfterCompr (p : Progress) (fault : Option Fault) (firsts : List ℕ) (r : Progress) (firsts' : List ℕ) : Type 0 where
    pub count : r.count ≡ p.count
    pub wide : r.width ≡ p.width
    pub idle : (is_compr w ≡ false) ⊎ (is_sound p.fault ≡ false) → (r ≡ p) × (firsts' ≡ firsts)
    pub rises : is_compr w ≡ true → is_sound p.fault ≡ true → (sheet : Sheet) (nested : Nested) (parents : List Scope) (t spans : List ℕ) (s : State)
        (e : Tree) → row_of e ≡ w → Agree t spans (with_fault p fault) firsts work s
        → Agree t spans r firsts' work (rising sheet (once_way sheet nested parents) e s)

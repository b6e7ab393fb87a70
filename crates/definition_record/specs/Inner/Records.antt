-- The recording of definitions, as steps.
use Rattle.std.specs.Prelude.{Bool, List, map, ℕ, max, length}
use Rattle.names.specs.Inner.Names.{Names}
use Rattle.definition.specs.Uses.{define}
use Rattle.definition.specs.States.{add_definitions}
use Rattle.definition.specs.Using.{record_one, record_each}
use Rattle.definition_walk.specs.Inner.Own.{Holds}
use Rattle.definition_state.specs.declared.Progress.{Progress}
use Rattle.definition_state.specs.Inner.Frames.{guarded, Runs}
use Rattle.definition_record.specs.Inner.Each.{less_of, define_each}
use Rattle.definition_record.specs.Inner.Front.{FitsFront}

-- There is room for a definition of each name on a list that the set holds, and for `least` if they are fewer.
pub record NamesFit (least : ℕ) (names : Names) (p : Progress) (w : List ℕ) : Type 0 where
  pub list : List ℕ
  pub holds : Holds names list
  pub low : FitsFront p w (max least (length list))

-- ---- one definition

abbrev pub OneRecorded : ℕ → Names → Progress → List ℕ → Progress → List ℕ → Type 0
OneRecorded i used p w r w' = (t us fs : List ℕ) → Holds used us → Runs t (guarded (record_one i 0 us)) p fs w r fs w'

-- ---- a definition of each name

module _ (i : ℕ) (names used : Names) (without : Bool) (p : Progress) (w : List ℕ) where
  abbrev pub NamesRecorded : Progress → List ℕ → Type 0
  NamesRecorded r w' =
      (t xs us fs : List ℕ) → Holds names xs → Holds used us → Runs t (guarded (add_definitions (define_each i without us xs))) p fs w r fs w'

  abbrev pub EachRecorded : Progress → List ℕ → Type 0
  EachRecorded r w' =
      (t xs us fs : List ℕ) → Holds names xs → Holds used us → Runs t (guarded (record_each i xs (λ x. less_of without us x))) p fs w r fs w'

abbrev pub SomeRecorded : ℕ → Names → Names → Progress → List ℕ → Progress → List ℕ → Type 0
SomeRecorded i names used p w r w' =
    (t xs us fs : List ℕ) → Holds names xs → Holds used us → Runs t (guarded (add_definitions (map (λ x. define i x us) xs))) p fs w r fs w'

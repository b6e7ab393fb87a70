-- A definition of each name in a set: the loop goes over the members, and a list that the set holds has the same names.
use Rattle.std.specs.Prelude.{Bool, cond, not, List, map, ℕ, ◌+◌, ◌/◌, ◌≤◌, eqb, length}
use Rattle.base.specs.Lists.{filter}
use Rattle.names.specs.Inner.Names.{Names}
use Rattle.names_width.specs.declared.Width.{Width}
use Rattle.names_width.specs.Inner.Widths.{row_words}
use Rattle.order.specs.Definitions.{Definition}
use Rattle.definition.specs.Uses.{define}
use Rattle.definition_walk.specs.Inner.Own.{Holds}
use Rattle.definition_walk.specs.Inner.Appended.{Appended}

-- ---- what a name is defined from

-- The names on a list, without x where `without`.
abbrev pub less_of : Bool → List ℕ → ℕ → List ℕ
less_of without us x = cond without (filter (λ y. not (eqb y x)) us) us

abbrev pub Less : Names → ℕ → Bool → Names → Type 0
Less used x without r = (us : List ℕ) → Holds used us → Holds r (less_of without us x)

-- ---- the definitions

-- There is room for a row for each name on a list that the set holds.
pub record EachFits (v : Width) (names : Names) (count size : ℕ) : Type 0 where
  pub list : List ℕ
  pub holds : Holds names list
  pub low : count + length list ≤ size / row_words v

abbrev pub define_each : ℕ → Bool → List ℕ → List ℕ → List Definition
define_each i without us xs = map (λ x. define i x (less_of without us x)) xs

-- Each name on a list that the set holds is defined, for every list of names that the used ones stand for.
pub record EachDefined (v : Width) (i : ℕ) (names used : Names) (without : Bool) (ws rs : List ℕ) (count n : ℕ) : Type 0 where
  pub rows : (xs us : List ℕ) → Holds names xs → Holds used us → Appended v ws rs count n (define_each i without us xs)
  pub few : (xs : List ℕ) → Holds names xs → n ≤ count + length xs

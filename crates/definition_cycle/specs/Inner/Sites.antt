-- Where in a sheet's analysis the code is, and what it does from there.
use Rattle.std.specs.Prelude.{◌≡◌, List, ◌∷◌, ℕ, ◌+◌, ◌≤◌, length}
use Rattle.scope.specs.Scopes.{Scope}
use Rattle.definition.specs.States.{sound, State, Way}
use Rattle.definition_once.specs.Inner.OnceWay.{Nested, once_way, analyze_once}
use Rattle.definition_room.specs.Inner.Lying.{Lies}
use Rattle.scope_walk.specs.Inner.Sheets.{counts_at, sheet_at, query_count}
use Rattle.scope_state.specs.Inner.Outers.{Outer}
use Rattle.definition_state.specs.declared.Progress.{Progress}
use Rattle.definition_state.specs.Inner.Frames.{Room, Agree, Grown}
use Rattle.definition_cycle.specs.Inner.Budgets.{above_at}

module _ (t : List ℕ) where
  -- Query analysis with so many levels left.
  abbrev pub nested_by : ℕ → Nested
  nested_by levels = λ ps q outputs r. analyze_once levels (sheet_at t) ps q outputs r

  -- The code's way below parents.
  abbrev pub way_by : ℕ → List Scope → Way
  way_by levels = once_way (sheet_at t) (nested_by levels)

  -- The expression at row r lies in query q, if there is one.
  abbrev pub LiesIn : ℕ → ℕ → Type 0
  LiesIn q r = Lies (counts_at t) t q r

  -- The analysis of a query has come to a state that the code's is. There is room for so many definitions more, and for all that the
  -- queries nested in it record.
  pub record SiteAt (spans : List ℕ) (p : Progress) (firsts work : List ℕ) (more : ℕ) : Type 0 where
    pub query : ℕ
    pub from : 1 ≤ query
    pub to : query ≤ query_count t
    pub parents : List Scope
    pub state : State
    pub agrees : Agree t spans p firsts work state
    pub room : Room p.width (length work) (length state.definitions + (more + above_at t query))

  -- Around a nested query stand this query's scope and its parents.
  abbrev pub Surrounds : List ℕ → List Scope → State → Type 0
  Surrounds inner parents s = s.run.fault ≡ sound → Outer inner (s.scope ∷ parents)

  -- The same, where `inner` stands for the scopes around nested queries.
  pub record Inside (inner : List ℕ) (p : Progress) (firsts work : List ℕ) (more : ℕ) : Type 0 where
    pub spans : List ℕ
    pub at : SiteAt spans p firsts work more
    pub around : Surrounds inner at.parents at.state

  -- And where `outer` stands for the scopes around this query.
  pub record Under (outer spans : List ℕ) (p : Progress) (firsts work : List ℕ) (more : ℕ) : Type 0 where
    pub at : SiteAt spans p firsts work more
    pub beneath : Outer outer at.parents

  -- From p to r the code does what f does, below all parents that `inner`, with this query's scope, stands for.
  pub record RunsIn (inner : List ℕ) (f : List Scope → State → State) (p : Progress) (firsts work : List ℕ) (r : Progress) (firsts' work' : List ℕ) : Type 0 where
    pub grown : Grown t p work r work'
    pub agrees : (parents : List Scope) (spans : List ℕ) (s : State) → Surrounds inner parents s → Agree t spans p firsts work s
        → Agree t spans r firsts' work' (f parents s)

  -- And below all parents that `outer` stands for.
  pub record RunsUnder (outer spans : List ℕ) (f : List Scope → State → State) (p : Progress) (firsts work : List ℕ) (r : Progress) (firsts' work' : List ℕ) : Type 0 where
    pub grown : Grown t p work r work'
    pub agrees : (parents : List Scope) (s : State) → Outer outer parents → Agree t spans p firsts work s
        → Agree t spans r firsts' work' (f parents s)

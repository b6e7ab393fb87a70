-- One scope more around a nested query.
use Rattle.std.specs.Prelude.{◌≡◌, List, ◌∷◌, ℕ, ◌/◌, ◌<◌, min, get_or}
use Rattle.std.proofs.Math.Option.{some}
use Rattle.scope.specs.Scopes as spec
use Rattle.scope.specs.Scopes.{Span, span_in}
use Rattle.scope_state.specs.declared.Scope.{Scope}
use Rattle.scope_state.specs.Inner.Agrees.{Sets}
use Rattle.scope_state.specs.Inner.Outers.{Outer}
use Rattle.scope_state.specs.Inner.Changes.{Changed}

-- Each local of s stands at the line that its word says.
abbrev pub Lined : List ℕ → spec.Scope → Type 0
Lined spans s = (x : ℕ) (p : Span) → span_in s.locals x ≡ some p → get_or spans x 0 / 65536 ≡ p.line

-- ---- the three steps of the code

-- The numbers of names below n are copied.
pub record Copied (outer : List ℕ) (n : ℕ) (inner : List ℕ) : Type 0 where
  pub has : (x : ℕ) → x < n → get_or inner x 0 ≡ get_or outer x 0

-- A local exists from its line on.
abbrev pub lowered : List ℕ → ℕ → ℕ → ℕ
lowered spans x v = min (get_or spans x 0 / 65536) v

abbrev pub Lowered : List ℕ → List ℕ → List ℕ → List ℕ → Type 0
Lowered locals spans = Changed locals (lowered spans)

-- An unscoped name exists at every line.
abbrev pub cleared : ℕ → ℕ → ℕ
cleared x v = 0

abbrev pub Cleared : List ℕ → List ℕ → List ℕ → Type 0
Cleared unscoped = Changed unscoped cleared

-- ---- all of it

abbrev pub Encloses : List ℕ → Scope → List ℕ → List ℕ → Type 0
Encloses outer k spans inner =
    (parents : List spec.Scope) → Outer outer parents → (s : spec.Scope) → Sets k s → Lined spans s → Outer inner (s ∷ parents)

-- Parents with the same locals and unscoped: `var_exists` reads nothing else of them, so the scope gathered for a query is the same.
use Rattle.std.specs.Prelude.{◌≡◌, List, [], ◌∷◌}
use Rattle.scope.specs.Scopes.{Scope}

-- Two scopes with the same locals and unscoped; inputs and the input flag may differ.
pub record SameOwn (p q : Scope) : Type 0 where
  pub locals : p.locals ≡ q.locals
  pub unscoped : p.unscoped ≡ q.unscoped

-- Parents that agree so, one by one.
pub data SameOuter : List Scope → List Scope → Type 0 where
  outermost : SameOuter [] []
  below : {p q : Scope} {ps qs : List Scope} → SameOwn p q → SameOuter ps qs → SameOuter (p ∷ ps) (q ∷ qs)

-- A query's scope with the places of its locals: a word for each name, its line above its column.
use Rattle.std.specs.Prelude.{◌≡◌, List, ℕ, ◌+◌, ◌*◌, ◌<◌, get_or}
use Rattle.std.proofs.Math.Option.{some}
use Rattle.sheet.specs.declared.Row.{Row}
use Rattle.scope.specs.Scopes as spec
use Rattle.scope.specs.Scopes.{Span, span_in}
use Rattle.scope_state.specs.declared.Scope.{Scope}
use Rattle.scope_state.specs.Inner.Agrees.{Sets}
use Rattle.scope_state.specs.Inner.Outers.{Outer}

abbrev pub span_word : Row → ℕ
span_word w = w.line * 65536 + w.col

-- The word n says where p stands.
pub record SpanWord (n : ℕ) (p : Span) : Type 0 where
  pub line : p.line < 65536
  pub col : p.col < 65536
  pub both : n ≡ p.line * 65536 + p.col

-- Each local of s stands where its word says.
abbrev pub LocalsPlaced : List ℕ → spec.Scope → Type 0
LocalsPlaced l s = (x : ℕ) (p : Span) → span_in s.locals x ≡ some p → SpanWord (get_or l x 0) p

-- The scope k with the words l is the scope s.
pub record Agrees (k : Scope) (l : List ℕ) (s : spec.Scope) : Type 0 where
  pub sets : Sets k s
  pub placed : LocalsPlaced l s

-- What a step of the code does, for all parents that `outer` stands for.
abbrev pub Steps : List ℕ → (List spec.Scope → spec.Scope → spec.Scope) → Scope → List ℕ → Scope → List ℕ → Type 0
Steps outer f k l r m = (parents : List spec.Scope) → Outer outer parents → (s : spec.Scope) → Agrees k l s → Agrees r m (f parents s)

-- Laws of `Enclosing`.
use mathlib.Core.Path.{◌≡◌, refl, sym, ap, ◌∙◌}
use mathlib.Core.Bool.{Bool, true, false, cond, ◌||◌}
use mathlib.Core.List.{List, ◌∷◌, ◌++◌}
use mathlib.Core.Logic.{◌⊎◌, inl, inr}
use mathlib.Core.Option.{Option, none, some}
use Prim.Native.Nat.{ℕ, ◌/◌, ◌≤◌, ◌<◌, min}
use native.Mathlib.Omega.{arith}
use lib.Dec.{leb}
use lib.ListN.{length, get_or, take}
use Rattle.std.proofs.lemmas.List.{length-take-le, get_or_append_left, get_or-take}
use borrow.Author.Tests.{le-leb, lt-leb}
use Rattle.base.specs.Limits as limits
use Rattle.base.proofs.Laws.Truth.{lt_cases}
use Rattle.base.specs.Sets.{member}
use Rattle.sheet.specs.declared.Row.{Row}
use Rattle.base.specs.Lists.{is_some}
use Rattle.scope.specs.Scopes.{contains, Span, span_in, not_below, var_exists}
use Rattle.scope.specs.Scopes as spec
use Rattle.scope_state.specs.declared.Scope.{Scope}
use Rattle.scope_state.specs.Inner.Agrees.{Sets}
use Rattle.scope_state.specs.Inner.Outers.{Outer}
use Rattle.scope_state.specs.Inner.Spans.{LocalsPlaced, Agrees}
use Rattle.scope_state.specs.Inner.Enclosing.{Copied, Lowered, Cleared, Lined, Encloses}

-- The least line from which on a name exists, with a scope in which it may be a local at a line.
unfoldable least_line : Scope → ℕ → ℕ → ℕ → ℕ
least_line k x outer line = cond (member k.unscoped.words x) 0 (cond (member k.locals.words x) (min line outer) outer)

-- The numbers of names are those with the scope k.
abbrev LeastLines : List ℕ → Scope → List ℕ → List ℕ → Type 0
LeastLines outer k spans inner = (x : ℕ) → x < limits.per_name → get_or inner x 0 ≡ least_line k x (get_or outer x 0) (get_or spans x 0 / 65536)

-- The front of a list is the other's, whatever lies behind it.
pub copied_front : (outer inner behind : List ℕ) → limits.per_name ≤ length outer → inner ≡ take limits.per_name outer
    → Copied outer limits.per_name (inner ++ behind)
copied_front outer inner behind room is = record {
  has = λ x low.
      rw is
      (get_or_append_left (take limits.per_name outer) behind 0 x (omega (arith, length-take-le limits.per_name outer room)) ∙ get_or-take limits.per_name outer x 0 low);
}

least_lines : (outer : List ℕ) (k : Scope) (spans a b inner : List ℕ) → Copied outer limits.per_name a → Lowered k.locals.words spans a b
    → Cleared k.unscoped.words b inner → LeastLines outer k spans inner
unfolding least_line
least_lines outer k spans a b inner copied low clear x h = rw (clear.has x h, low.has x h, copied.has x h)

-- ---- what a variable finds

-- The lesser of two is at most a number exactly if one of them is.
least_of : (a b n : ℕ) → leb (min a b) n ≡ (leb a n || leb b n)
least_of a b n = go (lt_cases n a) (lt_cases n b)
  where
    go : (n < a) ⊎ (a ≤ n) → (n < b) ⊎ (b ≤ n) → leb (min a b) n ≡ (leb a n || leb b n)
    go (inl p) (inl q) = rw (lt-leb a n p, lt-leb b n q) (lt-leb (min a b) n (omega arith))
    go (inl p) (inr q) = rw (lt-leb a n p, le-leb b n q) (le-leb (min a b) n (omega arith))
    go (inr p) q = rw (le-leb a n p) (le-leb (min a b) n (omega arith))

module _ (k : Scope) (s : spec.Scope) (a : Sets k s) (w : Row) where
  found_least : (spans : List ℕ) → Lined spans s → (outer : ℕ) → w.line < 65536
      → leb (least_line k w.name outer (get_or spans w.name 0 / 65536)) w.line
      ≡ (contains s.unscoped w.name || (not_below (span_in s.locals w.name) w || leb outer w.line))
  unfolding least_line
  found_least spans lined outer low =
      rw (a.unscoped w.name) (go (member k.unscoped.words w.name) (span_in s.locals w.name) refl (a.locals w.name))
    where
      go : (u : Bool) (o : Option Span) → span_in s.locals w.name ≡ o → is_some o ≡ member k.locals.words w.name
          → leb (cond u 0 (cond (member k.locals.words w.name) (min (get_or spans w.name 0 / 65536) outer) outer)) w.line
          ≡ (u || (not_below o w || leb outer w.line))
      go true o is l = le-leb 0 w.line (omega arith)
      go false none is l = rw (sym l)
      go false (some p) is l = rw (sym l) (least_of (get_or spans w.name 0 / 65536) outer w.line ∙ ap (λ (n : ℕ). leb n w.line || leb outer w.line) (lined w.name p is))

encloses_at : (outer : List ℕ) (k : Scope) (spans inner : List ℕ) → LeastLines outer k spans inner → (parents : List spec.Scope)
    → Outer outer parents → (s : spec.Scope) → Sets k s → Lined spans s → (w : Row) → w.name < limits.per_name → w.line < 65536
    → var_exists (s ∷ parents) w ≡ leb (get_or inner w.name 0) w.line
unfolding var_exists
encloses_at outer k spans inner h parents o s a lined w low line =
    ap (λ (b : Bool). contains s.unscoped w.name || (not_below (span_in s.locals w.name) w || b)) (o.has w low line)
    ∙ sym (found_least k s a w spans lined (get_or outer w.name 0) line) ∙ sym (ap (λ (n : ℕ). leb n w.line) (h w.name low))

pub encloses : (outer : List ℕ) (k : Scope) (spans a b inner : List ℕ) → Copied outer limits.per_name a → Lowered k.locals.words spans a b
    → Cleared k.unscoped.words b inner → Encloses outer k spans inner
encloses outer k spans a b inner copied low clear parents o s agrees lined = record {
  has = λ w name line. encloses_at outer k spans inner (least_lines outer k spans a b inner copied low clear) parents o s agrees lined w name line;
}

-- ---- with the words of the locals

pub placed-lined : (l : List ℕ) (s : spec.Scope) → LocalsPlaced l s → Lined l s
placed-lined l s h x p is = let w = h x p is in omega (arith, w.col, w.both)

pub scopes_enclosed : (outer : List ℕ) (k : Scope) (spans inner : List ℕ) → Encloses outer k spans inner → (parents : List spec.Scope) → Outer outer parents
    → (s : spec.Scope) → Agrees k spans s → Outer inner (s ∷ parents)
scopes_enclosed outer k spans inner h parents o s a = h parents o s a.sets (placed-lined spans s a.placed)

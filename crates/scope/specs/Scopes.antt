-- A scope: sets of names, given by their tests; whether a variable exists around it; and what adds to it.
-- Beside: document 01, Scope; traversal.rs, `Scope` and `var_exists`.
use Rattle.std.specs.Prelude.{Bool, false, not, ◌||◌, ◌&&◌, ℕ, eqb, leb}
use mathlib.Core.List.{List, [], ◌∷◌, foldl}
use Rattle.std.proofs.Math.Option.{Option, none, some}
use Rattle.base.specs.Lists.{filter, range, find, is_some}
use Rattle.sheet.specs.Sheet.{name_bound}
use Rattle.sheet.specs.declared.Row.{Row}

-- ---- sets of names (the Rust's `BTreeSet<SourceStr>`), given by their tests

-- The test for membership.
abbrev pub NameSet : Type 0
NameSet = ℕ → Bool

-- `BTreeSet::new`.
unfoldable pub empty : NameSet
empty x = false

-- `contains`.
unfoldable pub contains : NameSet → ℕ → Bool
contains s x = s x

-- `insert`.
unfoldable pub insert : NameSet → ℕ → NameSet
insert s y x = eqb x y || s x

-- `remove`.
unfoldable pub remove : NameSet → ℕ → NameSet
remove s y x = not (eqb x y) && s x

-- The names in the set, ascending.
unfoldable pub elements : NameSet → List ℕ
elements s = filter (contains s) (range 0 name_bound)

-- ---- scopes

-- A name and a position where it stands (lexer.rs, `Span`).
pub record Span : Type 0 where
  pub name : ℕ
  pub line : ℕ
  pub col : ℕ

-- A variable's span.
abbrev pub span_of : Row → Span
span_of w = record { name = w.name; line = w.line; col = w.col }

-- The span that a list holds for a name: the first one.
abbrev pub span_in : List Span → ℕ → Option Span
span_in spans x = find (λ (p : Span). eqb p.name x) spans

-- The locals have the latest in front: of a local gathered twice the later span counts.
pub record Scope : Type 0 where
  pub locals : List Span
  pub unscoped : NameSet
  pub inputs : NameSet
  pub uses_input : Bool

-- `Scope::default()`.
abbrev pub no_scope : Scope
no_scope = record { locals = []; unscoped = empty; inputs = empty; uses_input = false }

-- ---- what a gathering step adds

-- `scope.locals.insert`.
unfoldable pub add_local : Scope → Row → Scope
add_local s w = record { locals = span_of w ∷ s.locals; unscoped = s.unscoped; inputs = s.inputs; uses_input = s.uses_input }

-- `scope.unscoped.insert`.
unfoldable pub add_unscoped : Scope → ℕ → Scope
add_unscoped s x = record { locals = s.locals; unscoped = insert s.unscoped x; inputs = s.inputs; uses_input = s.uses_input }

-- `scope.inputs.insert`.
unfoldable pub add_input : Scope → ℕ → Scope
add_input s x = record { locals = s.locals; unscoped = s.unscoped; inputs = insert s.inputs x; uses_input = s.uses_input }

-- The flag is set, if b.
unfoldable pub use_input : Bool → Scope → Scope
use_input b s = record { locals = s.locals; unscoped = s.unscoped; inputs = s.inputs; uses_input = b || s.uses_input }

-- The names of spans leave a set.
unfoldable pub remove_all : NameSet → List Span → NameSet
remove_all s spans = foldl (λ r (p : Span). remove r p.name) s spans

-- The locals leave inputs and unscoped: the last step of `gather_local_vars`.
unfoldable pub remove_shadowed : Scope → Scope
remove_shadowed s = record {
  locals = s.locals;
  unscoped = remove_all s.unscoped s.locals;
  inputs = remove_all s.inputs s.locals;
  uses_input = s.uses_input;
}

-- ---- what is asked of a scope

-- `scope.locals.contains_key`.
abbrev pub is_local : Scope → ℕ → Bool
is_local s x = is_some (span_in s.locals x)

-- Is it a local or an unscoped name, one of the query's own?
unfoldable pub owns : Scope → ℕ → Bool
owns s x = is_local s x || contains s.unscoped x

-- A local counts only if its line is at most the use's; columns are not compared.
abbrev pub not_below : Option Span → Row → Bool
not_below none w = false
not_below (some p) w = leb p.line w.line

-- `var_exists`: is the variable w unscoped, or a local not below it, in one of the parents? The innermost stands in front.
unfoldable pub var_exists : List Scope → Row → Bool
var_exists [] w = false
var_exists (p ∷ parents) w =
    contains p.unscoped w.name || (not_below (span_in p.locals w.name) w || var_exists parents w)

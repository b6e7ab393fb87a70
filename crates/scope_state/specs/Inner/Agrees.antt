-- A scope's sets as words, and the scope of the definitions.
use Rattle.std.specs.Prelude.{◌≡◌, Bool, ℕ}
use mathlib.Core.List.{List, map, foldl}
use Rattle.base.specs.Sets.{member}
use Rattle.names.specs.Inner.Names.{Names}
use Rattle.sheet.specs.declared.Row.{Row}
use Rattle.scope.specs.Scopes.{contains, no_scope, add_local, add_unscoped, add_input, use_input, remove_shadowed, is_local}
use Rattle.scope.specs.Scopes as spec
use Rattle.scope_state.specs.declared.Scope.{Scope}

-- The scope k has the sets of the scope s: its locals as names, without their spans.
pub record Sets (k : Scope) (s : spec.Scope) : Type 0 where
  pub locals : (x : ℕ) → is_local s x ≡ member k.locals.words x
  pub unscoped : (x : ℕ) → contains s.unscoped x ≡ member k.unscoped.words x
  pub inputs : (x : ℕ) → contains s.inputs x ≡ member k.inputs.words x
  pub flag : s.uses_input ≡ k.uses

-- A scope by its parts.
abbrev pub scope_of : Names → List ℕ → List ℕ → Bool → Scope
scope_of l u i f = record { locals = l; unscoped = record { words = u }; inputs = record { words = i }; uses = f }

-- ---- what the methods do

abbrev pub NoNames : Scope → Type 0
NoNames r = Sets r no_scope

abbrev pub WithLocal : Scope → ℕ → Scope → Type 0
WithLocal k x r = (s : spec.Scope) (w : Row) → w.name ≡ x → Sets k s → Sets r (add_local s w)

abbrev pub WithUnscoped : Scope → ℕ → Scope → Type 0
WithUnscoped k x r = (s : spec.Scope) → Sets k s → Sets r (add_unscoped s x)

abbrev pub WithInput : Scope → ℕ → Scope → Type 0
WithInput k x r = (s : spec.Scope) → Sets k s → Sets r (add_input s x)

abbrev pub WithFlag : Scope → Bool → Scope → Type 0
WithFlag k b r = (s : spec.Scope) → Sets k s → Sets r (use_input b s)

abbrev pub WithoutLocals : Scope → Scope → Type 0
WithoutLocals k r = (s : spec.Scope) → Sets k s → Sets r (remove_shadowed s)

-- Each local is unscoped too.
abbrev pub open_scope : spec.Scope → spec.Scope
open_scope s = foldl add_unscoped s (map (λ (p : spec.Span). p.name) s.locals)

abbrev pub Opened : Scope → Scope → Type 0
Opened k r = (s : spec.Scope) → Sets k s → Sets r (open_scope s)

-- The locals and the unscoped names of k, the inputs and the flag of j.
abbrev pub with_inputs_of : Scope → Scope → Scope
with_inputs_of k j = record { locals = k.locals; unscoped = k.unscoped; inputs = j.inputs; uses = j.uses }

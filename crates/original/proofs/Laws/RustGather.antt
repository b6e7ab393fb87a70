-- `gather_used_vars_comprs_index_vars` (scheduler.rs) as a step of the analysis, with its repeats at brackets. The names that it hands back
-- are `rust-usedVars`' and the comprehensions `rust-comprs`'.
use mathlib.Core.Path.{◌≡◌, refl, sym, ap, ◌∙◌, subst}
use mathlib.Core.Bool.{Bool, ◌||◌}
use mathlib.Core.List.{List, [], ◌∷◌, map}
use mathlib.Core.Option.{Option, none, some}
use Prim.Native.Nat.{ℕ}
use Rattle.base.specs.Lists.{filter, any, find}
use Rattle.order.specs.Definitions.{Definition}
use Rattle.sheet.specs.declared.Row.{Row}
use Rattle.sheet.specs.Sheet.{Sheet, is_input}
use Rattle.scope.specs.Trees.{Tree}
use Rattle.scope.specs.Scopes.{span_of, use_input}
use Rattle.definition.specs.Uses.{reads_input, is_undefined, undefined_var, is_use, variables_used, index_definitions}
use Rattle.definition.specs.States.{Fault, QuerySchedule, State, set_scope, add_first_uses, add_definitions, set_run, fail, in_turn, fail_or}
use Rattle.definition.specs.Using.{undefined_at, gather_used_vars}
use Rattle.original.proofs.Laws.Lists.{any_append}
use Rattle.original.specs.Inner.Events.{Event, vars_seen, definitions_made}
use Rattle.original.specs.Inner.RustWalk.{rust_walk}
use Rattle.original.proofs.Laws.BracketRepeats.{rust_undefined_var, rust_reads_input, rust_first_uses, rust_definitions}
use Rattle.original.proofs.Laws.Beside.{Own, state_of}

-- What the Rust does with the events of its walk: it fails at the first undefined variable, sets the input flag, enters first uses, and
-- records definitions.
unfoldable pub rust_gather : Sheet → ℕ → List ℕ → Tree → State → State
rust_gather sheet i extras t s =
    let walk = rust_walk sheet s.scope extras i t in
    fail_or (undefined_at (find (is_undefined sheet s.scope) (vars_seen walk)))
    (in_turn ((λ u. set_scope (use_input (any (λ (w : Row). is_input sheet w.name) (vars_seen walk)) u.scope) u)
    ∷ add_first_uses (map span_of (filter (is_use sheet s.scope extras) (vars_seen walk)))
    ∷ add_definitions (definitions_made walk)
    ∷ []))
    s

-- Two states that differ at most in the order and the repetition of what they recorded.
pub record SameState (s u : State) : Type 0 where
  pub scope : s.scope ≡ u.scope
  pub first_uses : s.first_uses ≡ u.first_uses
  pub definitions : (p : Definition → Bool) → any p s.definitions ≡ any p u.definitions
  pub run : s.run ≡ u.run

-- The Rust's step comes to the state that `gather_used_vars` comes to, as far as definitions are a set.
pub rust_gather_lem : (sheet : Sheet) (i : ℕ) (extras : List ℕ) (t : Tree) (o : Own) (T : List QuerySchedule)
    → SameState (rust_gather sheet i extras t (state_of o T)) (gather_used_vars sheet i extras t (state_of o T))
unfolding rust_gather gather_used_vars set_scope add_first_uses add_definitions fail set_run
rust_gather_lem sheet i extras t o T =
    subst (λ (w : Option Row). SameState (fail_or (undefined_at w) rust (state_of o T)) (gather_used_vars sheet i extras t (state_of o T)))
    (sym (rust_undefined_var sheet o.scope extras i t)) (go (undefined_at (undefined_var sheet o.scope t)))
  where
    walk : List Event
    walk = rust_walk sheet o.scope extras i t

    reads : Bool
    reads = any (λ (w : Row). is_input sheet w.name) (vars_seen walk)

    rust : State → State
    rust =
        in_turn ((λ u. set_scope (use_input reads u.scope) u)
        ∷ add_first_uses (map span_of (filter (is_use sheet o.scope extras) (vars_seen walk)))
        ∷ add_definitions (definitions_made walk)
        ∷ [])

    once : State → State
    once =
        in_turn ((λ u. set_scope (use_input (reads_input sheet t) u.scope) u)
        ∷ add_first_uses (map span_of (variables_used sheet o.scope extras t))
        ∷ add_definitions (index_definitions sheet o.scope extras i t)
        ∷ [])

    go : (f : Option Fault) → SameState (fail_or f rust (state_of o T)) (fail_or f once (state_of o T))
    go (some f) = record { scope = refl; first_uses = refl; definitions = λ p. refl; run = refl }
    go none = record {
      scope = ap (λ (b : Bool). use_input b o.scope) (rust_reads_input sheet o.scope extras i t);
      first_uses = rust_first_uses sheet o.scope extras i t o.first_uses;
      definitions = λ p.
          any_append p o.definitions (definitions_made walk)
          ∙ ap (λ (b : Bool). any p o.definitions || b) (rust_definitions sheet o.scope extras i t p)
          ∙ sym (any_append p o.definitions (index_definitions sheet o.scope extras i t));
      run = refl;
    }

-- A query analysed again, in the Rust's way, comes to the same: what it takes from its parents are their locals and unscoped alone.
use mathlib.Core.Path.{◌≡◌, refl}
use mathlib.Core.Bool.{false}
use mathlib.Core.List.{List, ◌∷◌, []}
use Prim.Native.Nat.{ℕ, zero, suc}
use Rattle.sheet.specs.Sheet.{Sheet}
use Rattle.scope.specs.Trees.{row_of, outputs_of}
use Rattle.scope.specs.Scopes.{elements, Scope, no_scope}
use Rattle.definition.specs.States.{schedule_of, scope_in}
use Rattle.definition.specs.Queries.{analyze_query}
use Rattle.definition.specs.RustWay.{no_run, Answer, take, rust_way, analyze}
use Rattle.original.specs.Inner.SameOuter.{SameOuter, below}
use Rattle.original.proofs.Laws.SameOuter.{same-own, var_exists-same, gather_assigned_vars-same, gather_local_vars-same}

-- The way below parents with the same locals and unscoped is the same, if the answers below are.
rust_way-same : (sheet : Sheet) (answer : Answer) {ps qs : List Scope} → SameOuter ps qs
    → ((sc : Scope) → answer (sc ∷ ps) ≡ answer (sc ∷ qs))
    → ((inner sc : Scope) → answer (inner ∷ (sc ∷ ps)) ≡ answer (inner ∷ (sc ∷ qs)))
    → rust_way sheet answer ps ≡ rust_way sheet answer qs
unfolding rust_way
rust_way-same sheet answer {ps} {qs} h deeper twice =
    λ i.
    record {
      start = gather_local_vars-same sheet ps qs (var_exists-same h) i;
      extra_vars = λ arg. elements (gather_assigned_vars-same sheet ps qs (var_exists-same h) i false arg no_scope).unscoped;
      compr = λ sc e. take (deeper sc i (row_of e).third (outputs_of e));
      compr_scope = λ sc s e. scope_in (schedule_of (deeper sc i (row_of e).third (outputs_of e)).schedules (row_of e).third);
      body = λ inner sc q. take (twice inner sc i q []);
    }

-- A query analysed again, under parents with the same locals and unscoped, gives the same schedules and the same fault.
pub analyze-same : (levels : ℕ) (sheet : Sheet) {ps qs : List Scope} → SameOuter ps qs → analyze levels sheet ps ≡ analyze levels sheet qs
unfolding analyze
analyze-same zero sheet h = refl
analyze-same (suc levels) sheet h =
    let w =
    rust_way-same sheet (λ ps q outputs. analyze levels sheet ps q outputs) h
    (λ sc. analyze-same levels sheet (below (same-own sc) h))
    (λ inner sc. analyze-same levels sheet (below (same-own inner) (below (same-own sc) h)))
    in
    λ i q outputs. analyze_query sheet (w i) q outputs no_run

-- What the steps of one expression add, and the recording of definitions.
use mathlib.Core.Path.{◌≡◌, refl}
use mathlib.Core.Bool.{Bool, true, false, cond}
use mathlib.Core.List.{List, [], ◌∷◌, map}
use Prim.Native.Nat.{ℕ, suc, ◌≤◌, max}
use native.Mathlib.Omega.{arith}
use lib.ListN.{length, length-map}
use borrow.Author.Tests.{lt-ltb}
use Rattle.base.proofs.Laws.Truth.{and_intro}
use Rattle.base.specs.Lists.{all, filter}
use Rattle.base.proofs.Laws.ListLaws.{concat_map_always}
use Rattle.sheet.specs.declared.Row.{Row}
use Rattle.sheet.specs.Sheet.{Sheet}
use Rattle.sheet.specs.Kinds.{is_ref_brack}
use Rattle.scope.specs.Trees.{Tree, row_of, first_of, second_of}
use Rattle.scope.specs.Traverse.{traverse, leaves, vars}
use Rattle.scope.specs.Scopes.{Scope, span_of, span_in, is_local, owns, use_input}
use Rattle.definition.specs.Uses.{define, name_of, assigned_vars, index_vars, reads_input, undefined_var, used_vars, variables_used, index_definitions_at, index_definitions}
use Rattle.definition.specs.Using.{undefined_at, gather_used_vars, used_before_at, check_first_use, check_assigned, record_one, record_each}
use Rattle.definition_room.proofs.Laws.Lists.{length-filter, map_always, length-concat_map, total_mono}
use Rattle.definition_room.specs.Inner.Leaves.{pattern_vars, index_count, bracket_vars}
use Rattle.definition_room.specs.Inner.Adds.{below}
use Rattle.definition_room.proofs.Laws.Adds.{Step, adds_no_definition, step_at-most, end, ◌⨾◌, adds_turn, turn_fold_none, adds_set_scope, adds_first_uses, adds_definitions, adds_fail_or}

-- ---- how many names

-- A pattern assigns at most its variables.
pub assigned_few : (sc : Scope) (t : Tree) → length (assigned_vars sc t) ≤ pattern_vars t
unfolding assigned_vars pattern_vars
assigned_few sc t = omega (arith, length-filter (owns sc) (map name_of (vars (leaves t))), length-map (vars (leaves t)) name_of)

module _ (sheet : Sheet) (sc : Scope) (extras : List ℕ) (i : ℕ) where
  at-few : (e : Tree) → length (index_definitions_at sheet sc extras i e) ≤ index_count e
  unfolding index_definitions_at index_vars index_count
  at-few e = go (is_ref_brack (row_of e))
    where
      go : (b : Bool) → length (cond b (map (λ x. define i x (used_vars sheet sc extras (first_of e))) (assigned_vars sc (second_of e))) [])
          ≤ cond b (pattern_vars (second_of e)) 0
      go true =
          omega (
            arith,
            length-map (assigned_vars sc (second_of e)) (λ x. define i x (used_vars sheet sc extras (first_of e))),
            assigned_few sc (second_of e),
          )
      go false = omega arith

  -- The brackets of an expression define at most the variables in their indexes.
  pub index-few : (t : Tree) → length (index_definitions sheet sc extras i t) ≤ bracket_vars t
  unfolding index_definitions bracket_vars
  index-few t =
      omega (
        arith,
        length-concat_map (index_definitions_at sheet sc extras i) (traverse t),
        total_mono (λ e. length (index_definitions_at sheet sc extras i e)) index_count at-few (traverse t),
      )

-- ---- of which statement

-- A definition of statement i is of a statement below the next.
pub define-below : (i x : ℕ) (used : List ℕ) → below (suc i) (define i x used) ≡ true
unfolding define
define-below i x used = lt-ltb i (suc i) (omega arith)

-- So is what the brackets of its expressions define.
index_below : (sheet : Sheet) (sc : Scope) (extras : List ℕ) (i : ℕ) (t : Tree) → all (below (suc i)) (index_definitions sheet sc extras i t) ≡ true
unfolding index_definitions index_definitions_at index_vars
index_below sheet sc extras i t =
    concat_map_always (below (suc i)) (index_definitions_at sheet sc extras i) (λ e. go e (is_ref_brack (row_of e))) (traverse t)
  where
    go : (e : Tree) (b : Bool)
        → all (below (suc i)) (cond b (map (λ x. define i x (used_vars sheet sc extras (first_of e))) (assigned_vars sc (second_of e))) []) ≡ true
    go e true = map_always (below (suc i)) (λ x. define i x _) (λ x. define-below i x _) (assigned_vars sc (second_of e))
    go e false = refl

module _ (sheet : Sheet) where
  -- ---- uses

  -- An expression adds what its brackets define.
  pub adds_gather_used_vars : (i : ℕ) (extras : List ℕ) (t : Tree) → Step sheet (suc i) (bracket_vars t) (gather_used_vars sheet i extras t)
  unfolding gather_used_vars
  adds_gather_used_vars i extras t s =
      adds_fail_or sheet (undefined_at (undefined_var sheet s.scope t)) _
      (step_at-most sheet (bracket_vars t)
      (adds_turn sheet ((λ u. adds_set_scope sheet (use_input (reads_input sheet t) u.scope) u)
      ⨾ adds_first_uses sheet (map span_of (variables_used sheet s.scope extras t))
      ⨾ adds_definitions sheet (index_definitions sheet s.scope extras i t) (index_below sheet s.scope extras i t)
      ⨾ end))
      (omega (arith, index-few sheet s.scope extras i t))) s

  -- ---- first uses: nothing is added

  pub adds_check_first_use : {k : ℕ} (w : Row) → Step sheet k 0 (λ s. check_first_use s w)
  unfolding check_first_use
  adds_check_first_use w s =
      adds_turn sheet (adds_fail_or sheet (used_before_at (span_in s.first_uses w.name) w) (λ t. t) (adds_no_definition sheet) ⨾ end) s

  pub adds_check_assigned : {k : ℕ} (check : Bool) (t : Tree) → Step sheet k 0 (check_assigned check t)
  unfolding check_assigned
  adds_check_assigned true t s =
      turn_fold_none sheet check_first_use adds_check_first_use (filter (λ w. is_local s.scope w.name) (vars (leaves t))) s
  adds_check_assigned false t s = adds_no_definition sheet s

  -- ---- definitions

  pub adds_record_one : (i x : ℕ) (used : List ℕ) → Step sheet (suc i) 1 (record_one i x used)
  unfolding record_one
  adds_record_one i x used = adds_definitions sheet (define i x used ∷ []) (and_intro _ _ (define-below i x used) refl)

  -- A definition for each name, or one.
  pub adds_record_each : (i : ℕ) (names : List ℕ) (used : ℕ → List ℕ) → Step sheet (suc i) (max 1 (length names)) (record_each i names used)
  unfolding record_each
  adds_record_each i [] used = adds_record_one i 0 (used 0)
  adds_record_each i (x ∷ names) used =
      step_at-most sheet (max 1 (suc (length names)))
      (adds_definitions sheet (map (λ y. define i y (used y)) (x ∷ names))
      (map_always (below (suc i)) (λ y. define i y (used y)) (λ y. define-below i y (used y)) (x ∷ names)))
      (omega (arith, length-map names (λ y. define i y (used y))))

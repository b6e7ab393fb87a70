-- Laws of `Exprs`.
use mathlib.Core.Path.{◌≡◌, refl}
use mathlib.Core.Bool.{Bool, true, false, cond, ◌&&◌, not}
use mathlib.Core.List.{List, [], ◌∷◌, ◌++◌, foldl}
use mathlib.Core.Logic.{inl}
use mathlib.Core.Option.{Option, none, some}
use Prim.Native.Nat.{ℕ, suc, ◌+◌, ◌≤◌, max}
use native.Mathlib.Omega.{arith}
use lib.Dec.{eqb}
use lib.ListN.{length}
use Rattle.base.specs.Lists.{filter}
use Rattle.sheet.specs.declared.Row.{Row}
use Rattle.sheet.specs.Sheet.{Sheet}
use Rattle.sheet.specs.Kinds.{is_array, is_assign, is_col_eq}
use Rattle.scope.specs.Trees.{Tree, nil, node, row_of, first_of, second_of, chain}
use Rattle.scope.specs.Paths.{get_extra_arg}
use Rattle.scope.specs.Scopes.{Scope, add_unscoped}
use Rattle.definition.specs.Uses.{assigned_vars}
use Rattle.definition.specs.States.{lengths, State, set_scope, Way}
use Rattle.definition.specs.Comprs.{Mods, all_used}
use Rattle.definition.specs.Exprs.{Pairing, pair, mismatch, pairings, assign_one_way, assign_pairing, process_assign_expr, process_plain_expr, process_expr, process_extra_arg, process_call}
use Rattle.definition_once.specs.Inner.OnceWay.{Nested, once_way}
use Rattle.definition_room.specs.Inner.Sizes.{total, size}
use Rattle.definition_room.proofs.Laws.Lists.{total-append}
use Rattle.definition_room.specs.Inner.Leaves.{pattern_vars, bracket_vars}
use Rattle.definition_room.proofs.Laws.Leaves.{pattern-fits, brackets_fit, node-fit}
use Rattle.definition_room.proofs.Laws.Adds.{Step, adds_definitions_then, adds_at_most, step_at-most, end, ◌⨾◌, adds_turn, turn-fold, adds_set_scope, adds_fail}
use Rattle.definition_room.proofs.Laws.Using.{assigned_few, adds_check_assigned, adds_record_each}
use Rattle.definition_room.proofs.Laws.Extras.{extra_few, extra_fits}
use Rattle.definition_room.proofs.Laws.Recording.{AddsFor, for_at_most, for_one, lastly, ◌⨟◌, turn_for}
use Rattle.definition_room.proofs.Laws.Comprs.{KeepsFit, adds_use_expr}
use Rattle.definition_room.specs.Inner.Exprs.{side_cost, pair_cost}

side_fits : (w : Row) (a b c : Tree) → side_cost (node w a b c nil) ≤ suc (size a + (size b + size c))
unfolding size
side_fits w a b c = omega (arith, pattern-fits (node w a b c nil), node-fit w a b c nil)

-- The pairs of an assignment are different expressions of its sides.
pub pairings-fit : (l r : Tree) → total pair_cost (pairings l r) ≤ size l + size r
unfolding pairings size
pairings-fit nil r = omega arith
pairings-fit (node w a b c n) nil = omega arith
pairings-fit (node w a b c n) (node v d e f m) =
    go (is_array w && is_array v) (eqb (length (chain a)) (length (chain d))) (pairings-fit a d) (pairings-fit n m)
  where
    left : Tree
    left = node w a b c nil

    right : Tree
    right = node v d e f nil

    go : (x y : Bool) → total pair_cost (pairings a d) ≤ size a + size d → total pair_cost (pairings n m) ≤ size n + size m
        → total pair_cost (cond x (cond y (pairings a d) (mismatch v ∷ [])) (pair left right ∷ []) ++ pairings n m)
        ≤ suc (size a + (size b + (size c + size n))) + suc (size d + (size e + (size f + size m)))
    go true true p q = omega (arith, total-append pair_cost (pairings a d) (pairings n m))
    go true false p q = omega arith
    go false y p q = omega (arith, side_fits w a b c, side_fits v d e f)

parts-fit : (e : Tree) → size (first_of e) + size (second_of e) ≤ size e
unfolding size
parts-fit nil = omega arith
parts-fit (node w a b c n) = omega arith

module _ (sheet : Sheet) (nested : Nested) (parents : List Scope) (keeps : KeepsFit sheet nested) (i : ℕ) (m : Mods) where
  abbrev way : Way
  way = once_way sheet nested parents

  -- ---- assignments

  -- One direction adds what the source's brackets define, and what the target assigns or one definition.
  pub adds_assign_one_way : (check : Bool) (target source : Tree)
      → Step sheet (suc i) (bracket_vars source + max 1 (pattern_vars target)) (assign_one_way sheet way i m check target source)
  unfolding assign_one_way
  adds_assign_one_way check target source =
      step_at-most sheet (bracket_vars source + max 1 (pattern_vars target))
      (adds_turn sheet (adds_use_expr sheet nested parents keeps i [] m source
      ⨾ adds_check_assigned sheet check target
      ⨾ (λ t. adds_at_most sheet (max 1 (pattern_vars target))
      (adds_record_each sheet i (assigned_vars t.scope target) (λ x. filter (λ y. not (eqb y x)) (all_used sheet way [] m source t)) t)
      (omega (arith, assigned_few t.scope target)))
      ⨾ end)) (omega arith)

  pub adds_assign_pairing : (check : Bool) (p : Pairing) → Step sheet (suc i) (pair_cost p) (λ s. assign_pairing sheet way i m check s p)
  unfolding assign_pairing
  adds_assign_pairing check (pair lhs rhs) =
      step_at-most sheet (side_cost lhs + side_cost rhs)
      (adds_turn sheet (adds_assign_one_way check lhs rhs ⨾ adds_assign_one_way false rhs lhs ⨾ end)) (omega arith)
  adds_assign_pairing check (mismatch v) = adds_turn sheet (adds_fail sheet (lengths v.line v.col) ⨾ end)

  -- An assignment adds at most as many definitions as its sides have expressions.
  pub adds_process_assign_expr : (e : Tree) → Step sheet (suc i) (size e) (process_assign_expr sheet way i m e)
  unfolding process_assign_expr
  adds_process_assign_expr e s =
      adds_at_most sheet (size e)
      (turn-fold sheet pair_cost (assign_pairing sheet way i m (is_col_eq (row_of e))) (adds_assign_pairing (is_col_eq (row_of e)))
      (pairings (first_of e) (second_of e)) s)
      (omega (arith, pairings-fit (first_of e) (second_of e), parts-fit e))

  -- ---- any other expression

  -- It adds what its brackets define, and one definition.
  pub adds_process_plain_expr : (e : Tree) (s : State) → AddsFor sheet i (size e) s (process_plain_expr sheet way i m e s)
  unfolding process_plain_expr
  adds_process_plain_expr e s =
      for_at_most sheet i (size e)
      (turn_for sheet i (adds_use_expr sheet nested parents keeps i [] m e ⨟ lastly (λ t. for_one sheet i 0 (all_used sheet way [] m e t) t)) s)
      (omega (arith, brackets_fit e))

  pub adds_process_expr : (e : Tree) (s : State) → AddsFor sheet i (size e) s (process_expr sheet way i m e s)
  unfolding process_expr
  adds_process_expr e s = go (is_assign (row_of e))
    where
      go : (b : Bool) → AddsFor sheet i (size e) s
          (cond b (process_assign_expr sheet way i m e s) (process_plain_expr sheet way i m e s))
      go true = inl (adds_process_assign_expr e s)
      go false = adds_process_plain_expr e s

  -- ---- an extra argument

  pub adds_process_extra_arg : (e arg : Tree) → max 1 (pattern_vars arg) + bracket_vars e ≤ size e
      → Step sheet (suc i) (size e) (process_extra_arg sheet way i m e arg)
  unfolding process_extra_arg
  adds_process_extra_arg e arg h s =
      let extras = way.extra_vars arg in
      adds_at_most sheet (size e)
      (adds_definitions_then sheet (adds_set_scope sheet (foldl add_unscoped s.scope extras) s)
      (adds_turn sheet (adds_use_expr sheet nested parents keeps i extras m e
      ⨾ (λ t. adds_at_most sheet (max 1 (pattern_vars arg)) (adds_record_each sheet i extras (λ x. all_used sheet way extras m e t) t)
      (omega (arith, extra_few sheet parents nested arg)))
      ⨾ end) (set_scope (foldl add_unscoped s.scope extras) s)))
      (omega arith)

  pub adds_process_call : (e : Tree) (s : State) → AddsFor sheet i (size e) s (process_call sheet way (get_extra_arg sheet e) i m e s)
  unfolding process_call
  adds_process_call e s = go (get_extra_arg sheet e) refl
    where
      go : (x : Option Tree) → get_extra_arg sheet e ≡ x → AddsFor sheet i (size e) s (process_call sheet way x i m e s)
      go none q = adds_process_expr e s
      go (some arg) q = inl (adds_process_extra_arg e arg (extra_fits sheet e arg q) s)

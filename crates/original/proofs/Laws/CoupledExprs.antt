-- Two ways to analyse go side by side through assignments and plain expressions.
use mathlib.Core.Path.{ap}
use mathlib.Core.Bool.{Bool, true, false, cond, not}
use mathlib.Core.List.{List, [], ◌++◌, foldl}
use Prim.Native.Nat.{ℕ}
use lib.Dec.{eqb}
use Rattle.base.specs.Lists.{filter, concat_map}
use Rattle.sheet.specs.Sheet.{Sheet}
use Rattle.sheet.specs.Kinds.{is_assign, is_col_eq}
use Rattle.scope.specs.Trees.{Tree, row_of, first_of, second_of}
use Rattle.scope.specs.Traverse.{comprs}
use Rattle.definition.specs.Uses.{assigned_vars}
use Rattle.definition.specs.States.{lengths, State, fail, Way}
use Rattle.definition.specs.Using.{check_assigned, record_one, record_each}
use Rattle.definition.specs.Comprs.{Mods, all_used}
use Rattle.definition.specs.Exprs.{Pairing, pair, mismatch, pairings, assign_one_way, assign_pairing, process_assign_expr, process_plain_expr, process_expr}
use Rattle.original.proofs.Laws.Members.{Among, mem_left, mem_right, within-append, mem_concat_map}
use Rattle.original.specs.Inner.Places.{pair_comprs, expr_comprs}
use Rattle.original.proofs.Laws.Beside.{state_of, Beside, going, GoodBeside, beside_turn, fold_beside, fail-good, check_assigned-good, record_one_beside, record_each_beside}
use Rattle.original.proofs.Laws.CoupledComprs.{Coupling, forget, use_expr-good, all_used-same}

module _ (sheet : Sheet) (way way' : Way) (C : List Tree) (c : Coupling way way' C) where
  -- One direction of a pair.
  assign_one_way-good : (i : ℕ) (m : Mods) (check : Bool) (target source : Tree) → Among (comprs source ++ m.comprs) C → (K : List Tree)
      → GoodBeside (c.ρ K) (c.ρ K) (assign_one_way sheet way i m check target source) (assign_one_way sheet way' i m check target source)
  unfolding assign_one_way
  assign_one_way-good i m check target source h K o T U r =
      let cs = comprs source ++ m.comprs in
      let L = cs ++ K in
      forget sheet way way' C c cs K
      (beside_turn (c.ρ L) (c.ρ L)
      (λ t. record_each i (assigned_vars t.scope target) (λ x. filter (λ y. not (eqb y x)) (all_used sheet way [] m source t)) t)
      (λ t. record_each i (assigned_vars t.scope target) (λ x. filter (λ y. not (eqb y x)) (all_used sheet way' [] m source t)) t)
      (λ p A B z.
      record_each_beside (c.ρ L) (c.again L) i (assigned_vars p.scope target)
      (λ x. filter (λ y. not (eqb y x)) (all_used sheet way [] m source (state_of p A)))
      (λ x. filter (λ y. not (eqb y x)) (all_used sheet way' [] m source (state_of p B)))
      (ap {B = ℕ → List ℕ} (λ (l : List ℕ) (x : ℕ). filter (λ y. not (eqb y x)) l)
      (all_used-same sheet way way' C c [] m source L (mem_left cs K) p A B z)) p A B z)
      (beside_turn (c.ρ L) (c.ρ L) (check_assigned check target) (check_assigned check target) (check_assigned-good (c.ρ L) (c.again L) check target)
      (use_expr-good sheet way way' C c i [] m source h K o T U r)))

  -- Both directions, or a mismatch.
  assign_pairing_beside : (i : ℕ) (m : Mods) (check : Bool) (p : Pairing) → Among (pair_comprs p) C → Among m.comprs C → (K : List Tree)
      → {s u : State} → Beside (c.ρ K) s u → Beside (c.ρ K) (assign_pairing sheet way i m check s p) (assign_pairing sheet way' i m check u p)
  unfolding assign_pairing
  assign_pairing_beside i m check (pair lhs rhs) h k K b =
      let left = within-append (comprs lhs) m.comprs C (λ e n. h e (mem_left (comprs lhs) (comprs rhs) e n)) k in
      let right = within-append (comprs rhs) m.comprs C (λ e n. h e (mem_right (comprs lhs) (comprs rhs) e n)) k in
      beside_turn (c.ρ K) (c.ρ K) (assign_one_way sheet way i m false rhs lhs) (assign_one_way sheet way' i m false rhs lhs)
      (assign_one_way-good i m false rhs lhs left K)
      (beside_turn (c.ρ K) (c.ρ K) (assign_one_way sheet way i m check lhs rhs) (assign_one_way sheet way' i m check lhs rhs)
      (assign_one_way-good i m check lhs rhs right K) b)
  assign_pairing_beside i m check (mismatch v) h k K b =
      beside_turn (c.ρ K) (c.ρ K) (fail (lengths v.line v.col)) (fail (lengths v.line v.col))
      (fail-good (c.ρ K) (c.again K) (lengths v.line v.col)) b

  -- A plain expression.
  pub process_plain_expr-good : (i : ℕ) (m : Mods) (e : Tree) → Among (comprs e) C → Among m.comprs C → (K : List Tree)
      → GoodBeside (c.ρ K) (c.ρ K) (process_plain_expr sheet way i m e) (process_plain_expr sheet way' i m e)
  unfolding process_plain_expr
  process_plain_expr-good i m e h k K o T U r =
      let cs = comprs e ++ m.comprs in
      let L = cs ++ K in
      forget sheet way way' C c cs K
      (beside_turn (c.ρ L) (c.ρ L) (λ t. record_one i 0 (all_used sheet way [] m e t) t) (λ t. record_one i 0 (all_used sheet way' [] m e t) t)
      (λ p A B z.
      record_one_beside (c.ρ L) (c.again L) i 0 (all_used sheet way [] m e (state_of p A)) (all_used sheet way' [] m e (state_of p B))
      (all_used-same sheet way way' C c [] m e L (mem_left cs K) p A B z) p A B z)
      (use_expr-good sheet way way' C c i [] m e (within-append (comprs e) m.comprs C h k) K o T U r))

  -- Any expression.
  pub process_expr-good : (i : ℕ) (m : Mods) (e : Tree) → Among (expr_comprs e) C → Among m.comprs C → (K : List Tree)
      → GoodBeside (c.ρ K) (c.ρ K) (process_expr sheet way i m e) (process_expr sheet way' i m e)
  unfolding process_expr expr_comprs process_assign_expr
  process_expr-good i m e h k K o T U r = go (is_assign (row_of e)) h
    where
      ps : List Pairing
      ps = pairings (first_of e) (second_of e)

      go : (b : Bool) → Among (cond b (concat_map pair_comprs ps) (comprs e)) C
          → Beside (c.ρ K)
          (cond b (foldl (assign_pairing sheet way i m (is_col_eq (row_of e))) (state_of o T) ps) (process_plain_expr sheet way i m e (state_of o T)))
          (cond b (foldl (assign_pairing sheet way' i m (is_col_eq (row_of e))) (state_of o U) ps) (process_plain_expr sheet way' i m e (state_of o U)))
      go true w =
          fold_beside (c.ρ K) (assign_pairing sheet way i m (is_col_eq (row_of e))) (assign_pairing sheet way' i m (is_col_eq (row_of e))) ps
          (λ p n s u b. assign_pairing_beside i m (is_col_eq (row_of e)) p (λ d x. w d (mem_concat_map pair_comprs ps p n d x)) k K b)
          (going o T U r)
      go false w = process_plain_expr-good i m e w k K o T U r

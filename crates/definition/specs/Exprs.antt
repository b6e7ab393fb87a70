-- Plain expressions, assignments and extra arguments.
-- Beside: scheduler.rs, `process_expr`, `process_assign_expr`, and `Literal::Expr` of `analyze_query`.
use Rattle.std.specs.Prelude.{Bool, false, cond, not, ◌&&◌, ℕ, eqb, length}
use mathlib.Core.List.{List, [], ◌∷◌, ◌++◌, foldl}
use Rattle.std.proofs.Math.Option.{Option, none, some}
use Rattle.base.specs.Lists.{filter}
use Rattle.sheet.specs.declared.Row.{Row}
use Rattle.sheet.specs.Sheet.{Sheet}
use Rattle.sheet.specs.Kinds.{is_array, is_assign, is_col_eq}
use Rattle.scope.specs.Trees.{Tree, nil, node, row_of, first_of, second_of, chain}
use Rattle.scope.specs.Scopes.{add_unscoped}
use Rattle.definition.specs.Uses.{assigned_vars}
use Rattle.definition.specs.States.{lengths, State, set_scope, fail, in_turn, Way}
use Rattle.definition.specs.Using.{check_assigned, record_one, record_each}
use Rattle.definition.specs.Comprs.{Mods, all_used, use_expr}

-- What an assignment comes to where both sides are arrays, one inside the other: pairs to assign, and arrays on the right whose length
-- differs from the left's.
pub data Pairing : Type 0 where
  pair : (lhs rhs : Tree) → Pairing
  mismatch : (rhs : Row) → Pairing

-- Two chains side by side.
unfoldable pub pairings : Tree → Tree → List Pairing
pairings nil r = []
pairings (node w a b c n) nil = []
pairings (node w a b c n) (node v d e f m) =
    cond (is_array w && is_array v) (cond (eqb (length (chain a)) (length (chain d))) (pairings a d) (mismatch v ∷ []))
    (pair (node w a b c nil) (node v d e f nil) ∷ [])
    ++ pairings n m

module _ (sheet : Sheet) (way : Way) where
  -- One direction of a pair: each name that the target assigns is defined from what the source uses, less itself.
  unfoldable pub assign_one_way : ℕ → Mods → Bool → Tree → Tree → State → State
  assign_one_way i m check target source s =
      in_turn (use_expr sheet way i [] m source
      ∷ check_assigned check target
      ∷ (λ t. record_each i (assigned_vars t.scope target) (λ x. filter (λ y. not (eqb y x)) (all_used sheet way [] m source t)) t)
      ∷ []) s

  -- Both directions; `:=` checks the left side's first uses. A mismatch is 13.
  unfoldable pub assign_pairing : ℕ → Mods → Bool → State → Pairing → State
  assign_pairing i m check s (pair lhs rhs) = in_turn (assign_one_way i m check lhs rhs ∷ assign_one_way i m false rhs lhs ∷ []) s
  assign_pairing i m check s (mismatch v) = in_turn (fail (lengths v.line v.col) ∷ []) s

  -- `process_assign_expr`.
  unfoldable pub process_assign_expr : ℕ → Mods → Tree → State → State
  process_assign_expr i m e s = foldl (assign_pairing i m (is_col_eq (row_of e))) s (pairings (first_of e) (second_of e))

  -- Any other expression records its uses under the empty name.
  unfoldable pub process_plain_expr : ℕ → Mods → Tree → State → State
  process_plain_expr i m e s = in_turn (use_expr sheet way i [] m e ∷ (λ t. record_one i 0 (all_used sheet way [] m e t) t) ∷ []) s

  -- `process_expr`.
  unfoldable pub process_expr : ℕ → Mods → Tree → State → State
  process_expr i m e s = cond (is_assign (row_of e)) (process_assign_expr i m e s) (process_plain_expr i m e s)

  -- ---- an extra argument

  -- The names that it binds (`extras_scope.unscoped`) are unscoped from here on, and defined from what the call uses besides.
  unfoldable pub process_extra_arg : ℕ → Mods → Tree → Tree → State → State
  process_extra_arg i m e arg s =
      let extras = way.extra_vars arg in
      in_turn (use_expr sheet way i extras m e
      ∷ (λ t. record_each i extras (λ x. all_used sheet way extras m e t) t)
      ∷ []) (set_scope (foldl add_unscoped s.scope extras) s)

  -- Any `Expr`, a call or not: with its extra argument if it has one, as `process_expr` has it if not.
  unfoldable pub process_call : Option Tree → ℕ → Mods → Tree → State → State
  process_call none i m e s = process_expr i m e s
  process_call (some arg) i m e s = process_extra_arg i m e arg s

-- An extra argument: how many names it binds, and that they fit into the call with what its brackets define.
use mathlib.Core.Path.{◌≡◌, refl, ap}
use mathlib.Core.Bool.{Bool, true, false, cond, ◌||◌}
use mathlib.Core.List.{List, [], ◌∷◌, foldl}
use mathlib.Core.Logic.{◌⊎◌, inl, inr}
use mathlib.Core.Option.{Option, none, some}
use Prim.Native.Nat.{ℕ, suc, ◌+◌, ◌≤◌, max}
use native.Mathlib.Omega.{arith}
use lib.Dec.{eqb, ltb}
use lib.ListN.{length}
use borrow.Author.Tests.{eqb-true, ltb-true}
use Rattle.base.proofs.Laws.Truth.{bool_cases, and_left, and_right}
use Rattle.base.specs.Lists.{all, filter, range, last}
use Rattle.base.proofs.Laws.Lists.{ascending}
use Rattle.base.proofs.Laws.Ranges.{range-ascending, filter_none}
use Rattle.sheet.specs.declared.Builtin.{Builtin}
use Rattle.sheet.specs.declared.Row.{Row}
use Rattle.sheet.specs.Sheet.{Sheet, name_bound, is_input, is_special}
use Rattle.sheet.specs.Kinds.{is_call}
use Rattle.scope.specs.Trees.{Tree, nil, node, chain}
use Rattle.scope.specs.Traverse.{leaves, vars}
use Rattle.scope.specs.Paths.{get_path_string, builtin_with, beyond, get_extra_arg}
use Rattle.scope.specs.Scopes.{NameSet, empty, contains, insert, elements, Scope, no_scope, add_local, add_unscoped, add_input, use_input, var_exists}
use Rattle.scope.specs.Gather.{assign_var, gather_assigned_vars}
use Rattle.definition_once.specs.Inner.OnceWay.{Nested, once_way}
use Rattle.definition_room.specs.Inner.Sizes.{size}
use Rattle.definition_room.proofs.Laws.Lists.{total-last}
use Rattle.definition_room.specs.Inner.Leaves.{pattern_vars, index_count, bracket_vars}
use Rattle.definition_room.proofs.Laws.Leaves.{bracket_vars-node, pattern-fits, pattern_vars-chain}

-- ---- a set grows by one name at a time

-- None of the numbers above x is x.
insert-above : (s : NameSet) (x : ℕ) (l : List ℕ) → all (ltb x) l ≡ true → filter (insert s x) l ≡ filter s l
unfolding insert
insert-above s x [] h = refl
insert-above s x (y ∷ l) h =
    let above = ltb-true x y (and_left _ _ h) in
    go (bool_cases (eqb y x)) (insert-above s x l (and_right (ltb x y) _ h))
  where
    go : (eqb y x ≡ true) ⊎ (eqb y x ≡ false) → filter (insert s x) l ≡ filter s l
        → cond (eqb y x || s y) (y ∷ filter (insert s x) l) (filter (insert s x) l) ≡ cond (s y) (y ∷ filter s l) (filter s l)
    go (inl p) q = absurd (omega (arith, ltb-true x y (and_left _ _ h), eqb-true y x p))
    go (inr p) q = rw (p, q)

-- One name more is one member more at most.
pub filter-insert : (s : NameSet) (x : ℕ) (l : List ℕ) → ascending l ≡ true → length (filter (insert s x) l) ≤ suc (length (filter s l))
unfolding insert
filter-insert s x [] h = omega arith
filter-insert s x (y ∷ l) h = go (bool_cases (eqb y x)) (s y) (filter-insert s x l (and_right (all (ltb y) l) _ h))
  where
    same : eqb y x ≡ true → length (filter (insert s x) l) ≡ length (filter s l)
    same p = ap length (insert-above s x l (rw (← eqb-true y x p) (and_left _ _ h)))

    go : (eqb y x ≡ true) ⊎ (eqb y x ≡ false) → (b : Bool) → length (filter (insert s x) l) ≤ suc (length (filter s l))
        → length (cond (eqb y x || b) (y ∷ filter (insert s x) l) (filter (insert s x) l))
        ≤ suc (length (cond b (y ∷ filter s l) (filter s l)))
    go (inl p) true q = rw p (omega (arith, same p))
    go (inl p) false q = rw p (omega (arith, same p))
    go (inr p) true q = rw p (omega arith)
    go (inr p) false q = rw p q

elements-insert : (s : NameSet) (x : ℕ) → length (elements (insert s x)) ≤ suc (length (elements s))
unfolding elements contains
elements-insert s x = filter-insert s x (range 0 name_bound) (range-ascending 0 name_bound)

elements-empty : length (elements empty) ≡ 0
unfolding elements contains empty
elements-empty = ap length (filter_none (contains empty) name_bound (λ i l. refl))

-- ---- the names of an extra argument

module _ (sheet : Sheet) (parents : List Scope) where
  assign_few : (s : Scope) (w : Row) → length (elements (assign_var sheet parents false s w).unscoped) ≤ suc (length (elements s.unscoped))
  unfolding assign_var add_unscoped add_input use_input
  assign_few s w = go (is_special sheet w.name) (var_exists parents w)
    where
      go : (a b : Bool) → length (elements (cond a (use_input (is_input sheet w.name) s)
          (cond false (add_local s w) (cond b (add_input s w.name) (add_unscoped s w.name)))).unscoped) ≤ suc (length (elements s.unscoped))
      go true b = omega arith
      go false true = omega arith
      go false false = elements-insert s.unscoped w.name

  all-few : (ws : List Row) (s : Scope)
      → length (elements (foldl (assign_var sheet parents false) s ws).unscoped) ≤ length ws + length (elements s.unscoped)
  all-few [] s = omega arith
  all-few (w ∷ ws) s = omega (arith, all-few ws (assign_var sheet parents false s w), assign_few s w)

  -- It binds at most its variables.
  pub extra_few : (nested : Nested) (arg : Tree) → length ((once_way sheet nested parents).extra_vars arg) ≤ pattern_vars arg
  unfolding gather_assigned_vars pattern_vars
  extra_few nested arg = omega (arith, all-few (vars (leaves arg)) no_scope, elements-empty)

-- ---- the argument is part of the call

last-few : (b : Option Builtin) (t arg : Tree) → beyond b (chain t) ≡ some arg → pattern_vars arg ≤ pattern_vars t
last-few none t arg e = let z : ◌≡◌ {A = ℕ} 0 1 = cc in omega arith
last-few (some b) t arg e = go (eqb (b.arity + 1) (length (chain t))) e
  where
    go : (x : Bool) → cond x (last (chain t)) none ≡ some arg → pattern_vars arg ≤ pattern_vars t
    go true q = omega (arith, total-last pattern_vars (chain t) arg q, pattern_vars-chain t)
    go false q = let z : ◌≡◌ {A = ℕ} 0 1 = cc in omega arith

no_index : (w : Row) (a b c : Tree) → is_call w ≡ true → index_count (node w a b c nil) ≡ 0
unfolding index_count
no_index w a b c h = let k : w.kind ≡ 13 = eqb-true w.kind 13 h in rw k

-- The names of an extra argument, or one definition, and what the brackets of the call define are different expressions of the call.
pub extra_fits : (sheet : Sheet) (e arg : Tree) → get_extra_arg sheet e ≡ some arg → max 1 (pattern_vars arg) + bracket_vars e ≤ size e
unfolding get_extra_arg size
extra_fits sheet nil arg q = let z : ◌≡◌ {A = ℕ} 0 1 = cc in omega arith
extra_fits sheet (node w a b c n) arg q = go (bool_cases (is_call w))
  where
    go : (is_call w ≡ true) ⊎ (is_call w ≡ false)
        → max 1 (pattern_vars arg) + bracket_vars (node w a b c n) ≤ suc (size a + (size b + (size c + size n)))
    go (inl p) =
        omega (
          arith,
          last-few (builtin_with sheet.builtins (get_path_string a)) b arg (rw p at q),
          no_index w a b c p,
          bracket_vars-node w a b c n,
          pattern-fits a,
          pattern-fits b,
          pattern-fits c,
          pattern-fits n,
        )
    go (inr p) = let r : none ≡ some arg = rw p at q in let z : ◌≡◌ {A = ℕ} 0 1 = cc in omega arith

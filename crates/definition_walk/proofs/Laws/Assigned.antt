-- Laws of `Assigned`.
use mathlib.Core.Path.{◌≡◌, refl, sym, ap, ◌∙◌, subst}
use mathlib.Core.Bool.{Bool, true, false, cond}
use mathlib.Core.List.{List, [], ◌∷◌, ◌++◌, map}
use Prim.Native.Nat.{ℕ, ◌≤◌}
use borrow.Author.Tests.{eq-eqb}
use Rattle.base.specs.Lists.{filter, concat_map}
use Rattle.names.specs.Inner.Sets.{Inserted}
use Rattle.names.specs.Inner.Names.{Names}
use Rattle.sheet.specs.declared.Row.{Row}
use Rattle.sheet.specs.Inner.Sheet.{row_at}
use Rattle.sheet.specs.Kinds.{is_var, is_pattern}
use Rattle.scope.specs.Trees.{Tree, row_of}
use Rattle.scope.specs.Traverse.{leaves, vars}
use Rattle.scope.specs.Scopes as spec
use Rattle.scope.specs.Scopes.{owns}
use Rattle.definition.specs.Uses.{name_of, assigned_vars}
use Rattle.scope_state.specs.declared.Scope.{Scope}
use Rattle.scope_walk.specs.Inner.Sheets.{Accepted, expr_count}
use Rattle.scope_walk.specs.Inner.Exprs.{expr_by}
use Rattle.scope_walk.proofs.Laws.Patterns.{PatternTurn}
use Rattle.definition_walk.specs.Inner.Own.{Owns}
use Rattle.definition_walk.proofs.Laws.Gathered.{at_leaves, at_none, at-leaves, gathered-turn}
use Rattle.definition_walk.specs.Inner.Adds.{Adds}
use Rattle.definition_walk.proofs.Laws.Adds.{adds_none, adds_one}
use Rattle.definition_walk.specs.Inner.Assigned.{leaf_at, LeafStep, AssignedWalk}

pub as_leaves : (s : spec.Scope) (ts : List Tree) → filter (owns s) (map name_of (vars ts)) ≡ concat_map (λ (e : Tree). leaf_at s (row_of e)) ts
as_leaves s [] = refl
as_leaves s (e ∷ ts) = go (is_var (row_of e)) (owns s (row_of e).name) refl (as_leaves s ts)
  where
    go : (v b : Bool) → owns s (row_of e).name ≡ b → filter (owns s) (map name_of (vars ts)) ≡ concat_map (λ (e : Tree). leaf_at s (row_of e)) ts
        → filter (owns s) (map name_of (cond v (row_of e ∷ []) [] ++ vars ts))
        ≡ (cond v (cond b ((row_of e).name ∷ []) []) [] ++ concat_map (λ (e : Tree). leaf_at s (row_of e)) ts)
    go false b is ih = ih
    go true true is ih = rw is (ap (λ (l : List ℕ). (row_of e).name ∷ l) ih)
    go true false is ih = rw is ih

-- ---- a row

module _ (k : Scope) where
  pub leaf_still : (w : Row) → is_var w ≡ false → (a : Names) → LeafStep k w a a
  leaf_still w e a s h = rw e (adds_none a)

  module _ (w : Row) (a : Names) where
    module _ (v : w.kind ≡ 6) (o : Bool) (owned : Owns k w.name o) where
      pub leaf_own : o ≡ true → (b : Names) → Inserted a.words w.name b.words → LeafStep k w a b
      leaf_own p b put s h = rw (eq-eqb w.kind 6 v, sym (owned s h), p) (adds_one a w.name b put)

      pub leaf_foreign : o ≡ false → LeafStep k w a a
      leaf_foreign p s h = rw (eq-eqb w.kind 6 v, sym (owned s h), p) (adds_none a)

-- ---- the walk

module _ (t : List ℕ) where
  module _ (s : spec.Scope) where
    no_other : (w : Row) → is_var w ≡ false → leaf_at s w ≡ []
    no_other w e = rw e

    abbrev from : Bool → ℕ → List ℕ
    from = at_leaves t (leaf_at s) no_other

    assigned_is : (rest : Bool) (row : ℕ) → assigned_vars s (expr_by t rest row) ≡ from rest row
    unfolding assigned_vars
    assigned_is rest row = as_leaves s (leaves (expr_by t rest row))

    module _ (ok : Accepted t) where
      pub assigned_zero : (rest : Bool) → assigned_vars s (expr_by t rest 0) ≡ []
      assigned_zero rest = assigned_is rest 0 ∙ at_none t (leaf_at s) no_other ok rest

      pub assigned_row : (rest : Bool) (row : ℕ) → 1 ≤ row → row ≤ expr_count t
          → let w = row_at t row in let names : ℕ → List ℕ = λ r. assigned_vars s (expr_by t true r) in
          assigned_vars s (expr_by t rest row) ≡ ((leaf_at s w ++ names (cond (is_pattern w) w.first 0)) ++ names (cond rest w.next 0))
      assigned_row rest row low high =
          let w = row_at t row in
          let inner = cond (is_pattern w) w.first 0 in
          let next = cond rest w.next 0 in
          assigned_is rest row ∙ at-leaves t (leaf_at s) no_other ok rest row low high
          ∙ ap (λ (l : List ℕ). (leaf_at s w ++ l) ++ from true next) (sym (assigned_is true inner))
          ∙ ap (λ (l : List ℕ). (leaf_at s w ++ assigned_vars s (expr_by t true inner)) ++ l) (sym (assigned_is true next))

  module _ (k : Scope) where
    -- The match of a row.
    abbrev pub AssignedTurn : Row → Names → Names → Type 0
    AssignedTurn w = PatternTurn (LeafStep k w) (λ n. AssignedWalk t k n true) w

    module _ (ok : Accepted t) where
      pub assigned_none : (row : ℕ) → row ≡ 0 → (rest : Bool) (a : Names) → AssignedWalk t k row rest a a
      assigned_none row z rest a s h = rw (z, assigned_zero s ok rest) (adds_none a)

      -- With the walk over the rest of its chain.
      pub assigned_turn : (row : ℕ) → (row ≡ 0 → ⊥) → row ≤ expr_count t → (rest : Bool) (w : Row) → w ≡ row_at t row
          → (next : ℕ) → next ≡ cond rest w.next 0 → (a b c : Names) → AssignedTurn w a b → AssignedWalk t k next true b c → AssignedWalk t k row rest a c
      assigned_turn row ne high rest w is next n a b c turn on s h =
          let part : (v : ℕ) (x y : Names) → AssignedWalk t k v true x y → Adds x (from s true v) y =
          λ v x y walked. subst (λ (l : List ℕ). Adds x l y) (assigned_is s true v) (walked s h) in
          subst (λ (l : List ℕ). Adds a l c) (sym (assigned_is s rest row))
          (gathered-turn t (leaf_at s) (no_other s) ok row ne high rest w is next n a turn.own b c (turn.step s h) (part _ turn.own b turn.parts) (part next b c on))

-- Laws of `Own`.
use mathlib.Core.Path.{◌≡◌, refl}
use mathlib.Core.Bool.{Bool, true, false, cond, not, ◌||◌, ◌&&◌}
use mathlib.Core.List.{List, [], ◌∷◌, ◌++◌, map, foldl}
use mathlib.Core.Logic.{◌⊎◌, inl, inr, ⊎_elim}
use Prim.Native.Nat.{ℕ}
use lib.Dec.{eqb}
use borrow.Author.Tests.{eq-eqb}
use Rattle.base.proofs.Laws.Truth.{bool_cases, and_intro, and_left, and_right, or_left, or_right, or_cases}
use Rattle.base.specs.Lists.{all, filter, elem, range}
use Rattle.base.proofs.Laws.Lists.{all-elem}
use Rattle.order.specs.Definitions.{Definition}
use Rattle.base.proofs.Laws.ListLaws.{all_append, all_weaken, all-kept, all_map, concat_map_always}
use Rattle.sheet.specs.Sheet.{Sheet, name_bound, is_special}
use Rattle.sheet.specs.Kinds.{is_var, is_ref_brack}
use Rattle.scope.specs.Trees.{Tree, row_of, first_of, second_of}
use Rattle.scope.specs.Traverse.{traverse, leaves, vars, comprs}
use Rattle.scope.specs.Scopes.{contains, insert, elements, Scope, is_local, owns, add_unscoped, add_input, use_input}
use Rattle.definition.specs.Uses.{define, name_of, assigned_vars, index_vars, is_use, used_at, used_vars, index_definitions_at, index_definitions}
use Rattle.definition.specs.States.{State, Way}
use Rattle.definition.specs.Comprs.{Mods, comprs_use, all_used}
use Rattle.definition.specs.Queries.{mods_of}
use Rattle.definition_once.specs.Inner.Own.{own_definition}

-- Every own name of a is one of b.
abbrev pub Grows : Scope → Scope → Type 0
Grows a b = (x : ℕ) → owns a x ≡ true → owns b x ≡ true

pub own_grows : (a b : Scope) → Grows a b → (d : Definition) → own_definition a d ≡ true → own_definition b d ≡ true
unfolding own_definition
own_grows a b g d h =
    let v = and_left (eqb d.var 0 || owns a d.var) (all (owns a) d.used) h in
    let u = and_right (eqb d.var 0 || owns a d.var) (all (owns a) d.used) h in
    and_intro (eqb d.var 0 || owns b d.var) (all (owns b) d.used)
    (⊎_elim (λ (e : eqb d.var 0 ≡ true). or_left (eqb d.var 0) (owns b d.var) e)
    (λ (e : owns a d.var ≡ true). or_right (eqb d.var 0) (owns b d.var) (g d.var e))
    (or_cases (eqb d.var 0) (owns a d.var) v))
    (all_weaken (owns a) (owns b) g d.used u)

pub define-own : (sc : Scope) (i x : ℕ) (used : List ℕ) → (eqb x 0 || owns sc x) ≡ true → all (owns sc) used ≡ true
    → own_definition sc (define i x used) ≡ true
unfolding own_definition define
define-own sc i x used h u =
    and_intro (eqb x 0 || owns sc x) (all (owns sc) (filter (λ y. elem y used) (range 0 name_bound))) h
    (all_weaken (λ y. elem y used) (owns sc) (λ y e. all-elem (owns sc) used u y e) (filter (λ y. elem y used) (range 0 name_bound))
    (all-kept (λ y. elem y used) (range 0 name_bound)))

-- ---- scopes that grow

pub grows_flag : (b : Bool) (a : Scope) → Grows a (use_input b a)
unfolding owns use_input
grows_flag b a x e = e

pub grows_input : (y : ℕ) (a : Scope) → Grows a (add_input a y)
unfolding owns add_input
grows_input y a x e = e

pub grows_inputs : (l : List ℕ) (a : Scope) → Grows a (foldl add_input a l)
grows_inputs [] a x e = e
grows_inputs (y ∷ l) a x e = grows_inputs l (add_input a y) x (grows_input y a x e)

pub grows_one : (y : ℕ) (a : Scope) → Grows a (add_unscoped a y)
unfolding owns add_unscoped contains insert
grows_one y a x e =
    ⊎_elim (λ (p : is_local a x ≡ true). or_left (is_local a x) (eqb x y || contains a.unscoped x) p)
    (λ (p : contains a.unscoped x ≡ true). or_right (is_local a x) (eqb x y || contains a.unscoped x) (or_right (eqb x y) (contains a.unscoped x) p))
    (or_cases (is_local a x) (contains a.unscoped x) e)

pub grows_unscoped : (l : List ℕ) (a : Scope) → Grows a (foldl add_unscoped a l)
grows_unscoped [] a x e = e
grows_unscoped (y ∷ l) a x e = grows_unscoped l (add_unscoped a y) x (grows_one y a x e)

-- Names that are added are own.
pub all-unscoped : (l : List ℕ) (a : Scope) → all (owns (foldl add_unscoped a l)) l ≡ true
unfolding owns add_unscoped contains insert
all-unscoped [] a = refl
all-unscoped (y ∷ l) a =
    and_intro (owns (foldl add_unscoped (add_unscoped a y) l) y) (all (owns (foldl add_unscoped (add_unscoped a y) l)) l)
    (grows_unscoped l (add_unscoped a y) y
    (or_right (is_local a y) (eqb y y || contains a.unscoped y) (or_left (eqb y y) (contains a.unscoped y) (eq-eqb y y refl))))
    (all-unscoped l (add_unscoped a y))

pub local_own : (sc : Scope) (x : ℕ) → is_local sc x ≡ true → owns sc x ≡ true
unfolding owns
local_own sc x e = or_left (is_local sc x) (contains sc.unscoped x) e

-- ---- what is used is own

pub assigned_own : (sc : Scope) (t : Tree) → all (owns sc) (assigned_vars sc t) ≡ true
unfolding assigned_vars
assigned_own sc t = all-kept (owns sc) (map name_of (vars (leaves t)))

module _ (sheet : Sheet) (sc : Scope) (extras : List ℕ) where
  at_own : (e : Tree) → all (owns sc) (used_at sheet sc extras e) ≡ true
  unfolding used_at is_use index_vars
  at_own e = go (is_var (row_of e)) (bool_cases (owns sc (row_of e).name))
    where
      var : (a c : Bool) → (owns sc (row_of e).name ≡ true) ⊎ (owns sc (row_of e).name ≡ false)
          → all (owns sc) (cond (a && (owns sc (row_of e).name && c)) ((row_of e).name ∷ []) []) ≡ true
      var false c q = refl
      var true c (inr q) = rw q
      var true false (inl q) = rw q
      var true true (inl q) = rw (q, q)

      index : (b : Bool) → all (owns sc) (cond b (assigned_vars sc (second_of e)) []) ≡ true
      index true = assigned_own sc (second_of e)
      index false = refl

      go : (b : Bool) → (owns sc (row_of e).name ≡ true) ⊎ (owns sc (row_of e).name ≡ false)
          → all (owns sc) (cond b (cond (is_use sheet sc extras (row_of e)) ((row_of e).name ∷ []) []) (cond (is_ref_brack (row_of e)) (index_vars sc e) [])) ≡ true
      go true q = var (not (is_special sheet (row_of e).name)) (not (elem (row_of e).name extras)) q
      go false q = index (is_ref_brack (row_of e))

  pub used-own : (t : Tree) → all (owns sc) (used_vars sheet sc extras t) ≡ true
  unfolding used_vars
  used-own t = concat_map_always (owns sc) (used_at sheet sc extras) at_own (traverse t)

  pub index-own : (i : ℕ) (t : Tree) → all (own_definition sc) (index_definitions sheet sc extras i t) ≡ true
  unfolding index_definitions index_definitions_at index_vars
  index-own i t = concat_map_always (own_definition sc) (index_definitions_at sheet sc extras i) (λ e. go e (is_ref_brack (row_of e))) (traverse t)
    where
      go : (e : Tree) (b : Bool)
          → all (own_definition sc) (cond b (map (λ x. define i x (used_vars sheet sc extras (first_of e))) (assigned_vars sc (second_of e))) []) ≡ true
      go e false = refl
      go e true =
          all_map (own_definition sc) (owns sc) (λ x. define i x (used_vars sheet sc extras (first_of e)))
          (λ x q. define-own sc i x (used_vars sheet sc extras (first_of e)) (or_right (eqb x 0) (owns sc x) q) (used-own (first_of e)))
          (assigned_vars sc (second_of e)) (assigned_own sc (second_of e))

pub comprs-own : (sheet : Sheet) (way : Way) (cs : List Tree) (s : State) → all (owns s.scope) (comprs_use sheet way cs s) ≡ true
unfolding comprs_use
comprs-own sheet way cs s = concat_map_always (owns s.scope) _ (λ e. all-kept (owns s.scope) (elements (way.compr_scope s.scope s e).inputs)) cs

-- The names of the modifiers being own from a scope on.
pub all_used-own : (sheet : Sheet) (way : Way) (sc : Scope) (extras : List ℕ) (m : Mods) (t : Tree) (s : State) → Grows sc s.scope
    → all (owns sc) m.used_vars ≡ true → all (owns s.scope) (all_used sheet way extras m t s) ≡ true
unfolding all_used
all_used-own sheet way sc extras m t s g h =
    all_append (owns s.scope) (used_vars sheet s.scope extras t) (m.used_vars ++ comprs_use sheet way (comprs t ++ m.comprs) s)
    (used-own sheet s.scope extras t)
    (all_append (owns s.scope) m.used_vars (comprs_use sheet way (comprs t ++ m.comprs) s)
    (all_weaken (owns sc) (owns s.scope) g m.used_vars h) (comprs-own sheet way (comprs t ++ m.comprs) s))

pub mods-own : (sheet : Sheet) (sc : Scope) (mods : List Tree) → all (owns sc) (mods_of sheet sc mods).used_vars ≡ true
unfolding mods_of
mods-own sheet sc mods = concat_map_always (owns sc) (used_vars sheet sc []) (used-own sheet sc []) mods

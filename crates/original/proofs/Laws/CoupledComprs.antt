-- Two ways to analyse go through comprehensions side by side, if they do so at each one.
use mathlib.Core.Path.{◌≡◌, refl, sym, ap, subst}
use mathlib.Core.Bool.{not}
use mathlib.Core.List.{List, [], ◌∷◌, ◌++◌, map, foldl, Memᴰ}
use Prim.Native.Nat.{ℕ}
use Rattle.base.specs.Lists.{filter}
use Rattle.sheet.specs.Sheet.{Sheet}
use Rattle.scope.specs.Trees.{Tree, row_of}
use Rattle.scope.specs.Traverse.{comprs}
use Rattle.scope.specs.Scopes.{elements, Scope, Span, owns, add_input, use_input}
use Rattle.definition.specs.Uses.{used_vars}
use Rattle.definition.specs.States.{QuerySchedule, State, Way}
use Rattle.definition.specs.Comprs.{Mods, propagate, comprs_use, use_compr, all_used, process_compr, process_comprs, use_expr}
use Rattle.original.specs.Inner.SameOuter.{SameOwn}
use Rattle.original.proofs.Laws.Members.{Among, mem_right, mem_move, concat_map_agree}
use Rattle.original.proofs.Laws.Beside.{Own, state_of, Tables, Beside, going, GoodBeside, turn_at, beside_turn, beside_map, own-use_input, own_add_inputs, gather_used_vars-good, add_first_uses_beside, set_scope_beside}

-- What is asked at the comprehensions C: of tables related with K known, the analysis of one makes tables related with it known too, and
-- of what is known the scopes are equal.
pub record Coupling (way way' : Way) (C : List Tree) : Type 1 where
  pub ρ : List Tree → Tables
  pub again : (K : List Tree) (sc sc' : Scope) (T U : List QuerySchedule) → SameOwn sc sc' → ρ K sc T U → ρ K sc' T U
  pub weaken : (K L : List Tree) → Among L K → (sc : Scope) (T U : List QuerySchedule) → ρ K sc T U → ρ L sc T U
  pub enter : (e : Tree) → Memᴰ e C → (K : List Tree)
      → GoodBeside (ρ K) (ρ (e ∷ K)) (λ s. way.compr s.scope e s) (λ s. way'.compr s.scope e s)
  pub look : (e : Tree) (K : List Tree) → Memᴰ e K → (o : Own) (T U : List QuerySchedule) → ρ K o.scope T U
      → way.compr_scope o.scope (state_of o T) e ≡ way'.compr_scope o.scope (state_of o U) e

module _ (sheet : Sheet) (way way' : Way) (C : List Tree) (c : Coupling way way' C) where
  -- ---- comprehensions

  -- Known comprehensions use the same names.
  comprs_use-same : (cs K : List Tree) → Among cs K → (o : Own) (T U : List QuerySchedule) → c.ρ K o.scope T U
      → comprs_use sheet way cs (state_of o T) ≡ comprs_use sheet way' cs (state_of o U)
  unfolding comprs_use
  comprs_use-same cs K h o T U r =
      concat_map_agree (λ e. filter (owns o.scope) (elements (way.compr_scope o.scope (state_of o T) e).inputs))
      (λ e. filter (owns o.scope) (elements (way'.compr_scope o.scope (state_of o U) e).inputs)) cs
      (λ e m. ap (λ (x : Scope). filter (owns o.scope) (elements x.inputs)) (c.look e K (h e m) o T U r))

  -- What a known comprehension propagates.
  pub propagate-good : (e : Tree) (K : List Tree) → Memᴰ e K
      → GoodBeside (c.ρ K) (c.ρ K) (λ t. propagate sheet way t.scope e t) (λ t. propagate sheet way' t.scope e t)
  unfolding propagate
  propagate-good e K m o T U r =
      let F : Scope → Scope = λ x.
      foldl add_input (use_input x.uses_input o.scope) (filter (λ y. not (owns o.scope y)) (elements x.inputs)) in
      let x = way.compr_scope o.scope (state_of o T) e in
      set_scope_beside (c.ρ K) (c.again K) (F x) (F (way'.compr_scope o.scope (state_of o U) e)) (ap F (c.look e K m o T U r)) o T U
      (c.again K o.scope (F x) T U
      (own_add_inputs o.scope (filter (λ y. not (owns o.scope y)) (elements x.inputs)) (use_input x.uses_input o.scope)
      (own-use_input x.uses_input o.scope)) r)

  -- What it uses.
  use_compr-good : (e : Tree) (K : List Tree) → Memᴰ e K → GoodBeside (c.ρ K) (c.ρ K) (use_compr sheet way e) (use_compr sheet way' e)
  unfolding use_compr
  use_compr-good e K m o T U r =
      let F : List ℕ → List Span = map (λ x. record { name = x; line = (row_of e).line; col = (row_of e).col }) in
      add_first_uses_beside (c.ρ K) (c.again K) (F (comprs_use sheet way (e ∷ []) (state_of o T)))
      (F (comprs_use sheet way' (e ∷ []) (state_of o U)))
      (ap F (comprs_use-same (e ∷ []) K
      (λ d n. subst (λ (x : Tree). Memᴰ x K) (sym (mathlib.Core.List.Memᴰ.eq_of_singleton n)) m) o T U r)) o T U r

  -- A comprehension is processed, and known from then on.
  process_compr_beside : (e : Tree) → Memᴰ e C → (K : List Tree) {s u : State} → Beside (c.ρ K) s u
      → Beside (c.ρ (e ∷ K)) (process_compr sheet way s e) (process_compr sheet way' u e)
  unfolding process_compr
  process_compr_beside e m K b =
      let here : Memᴰ e (e ∷ K) = mathlib.Core.List.Memᴰ.head refl in
      let L = e ∷ K in
      beside_turn (c.ρ L) (c.ρ L) (use_compr sheet way e) (use_compr sheet way' e) (use_compr-good e L here)
      (beside_turn (c.ρ L) (c.ρ L) (λ t. propagate sheet way t.scope e t) (λ t. propagate sheet way' t.scope e t) (propagate-good e L here)
      (turn_at (c.ρ K) (c.ρ L) (λ s. way.compr s.scope e) (λ s. way'.compr s.scope e) (c.enter e m K) b))

  -- So are all of a list.
  pub process_comprs_beside : (cs : List Tree) → Among cs C → (K : List Tree) {s u : State} → Beside (c.ρ K) s u
      → Beside (c.ρ (cs ++ K)) (foldl (process_compr sheet way) s cs) (foldl (process_compr sheet way') u cs)
  process_comprs_beside [] h K b = b
  process_comprs_beside (e ∷ cs) h K b =
      beside_map (c.ρ (cs ++ (e ∷ K))) (c.ρ ((e ∷ cs) ++ K)) (c.weaken (cs ++ (e ∷ K)) ((e ∷ cs) ++ K) (mem_move e cs K))
      (process_comprs_beside cs (λ d m. h d (mathlib.Core.List.Memᴰ.tail m)) (e ∷ K) (process_compr_beside e (h e (mathlib.Core.List.Memᴰ.head refl)) K b))

  -- Back to what was known before.
  pub forget : (cs K : List Tree) {s u : State} → Beside (c.ρ (cs ++ K)) s u → Beside (c.ρ K) s u
  forget cs K b = beside_map (c.ρ (cs ++ K)) (c.ρ K) (c.weaken (cs ++ K) K (mem_right cs K)) b

  -- An expression with its comprehensions and the modifiers'.
  pub use_expr-good : (i : ℕ) (extras : List ℕ) (m : Mods) (t : Tree) → Among (comprs t ++ m.comprs) C → (K : List Tree)
      → GoodBeside (c.ρ K) (c.ρ ((comprs t ++ m.comprs) ++ K)) (use_expr sheet way i extras m t) (use_expr sheet way' i extras m t)
  unfolding use_expr process_comprs
  use_expr-good i extras m t h K o T U r =
      let cs = comprs t ++ m.comprs in
      beside_turn (c.ρ K) (c.ρ (cs ++ K)) (λ s. foldl (process_compr sheet way) s cs) (λ s. foldl (process_compr sheet way') s cs)
      (λ p A B x. process_comprs_beside cs h K (going p A B x))
      (gather_used_vars-good (c.ρ K) (c.again K) sheet i extras t o T U r)

  -- All that it uses is the same, once these are known.
  pub all_used-same : (extras : List ℕ) (m : Mods) (t : Tree) (K : List Tree) → Among (comprs t ++ m.comprs) K → (o : Own) (T U : List QuerySchedule)
      → c.ρ K o.scope T U → all_used sheet way extras m t (state_of o T) ≡ all_used sheet way' extras m t (state_of o U)
  unfolding all_used
  all_used-same extras m t K h o T U r =
      ap (λ (l : List ℕ). used_vars sheet o.scope extras t ++ (m.used_vars ++ l)) (comprs_use-same (comprs t ++ m.comprs) K h o T U r)

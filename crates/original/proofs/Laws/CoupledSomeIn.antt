-- Two ways to analyse go side by side through `some .. in ..`.
use mathlib.Core.Path.{refl, ap}
use mathlib.Core.List.{List, [], ◌∷◌, ◌++◌, map, foldl, Memᴰ}
use Prim.Native.Nat.{ℕ}
use Rattle.base.proofs.Laws.Members.{filter_mem}
use Rattle.base.specs.Lists.{concat_map}
use Rattle.sheet.specs.declared.Row.{Row}
use Rattle.sheet.specs.Sheet.{Sheet}
use Rattle.scope.specs.Trees.{Tree}
use Rattle.scope.specs.Traverse.{comprs}
use Rattle.scope.specs.Scopes.{span_of}
use Rattle.definition.specs.Uses.{define, index_definitions}
use Rattle.definition.specs.States.{State, add_first_uses, add_definitions, Way}
use Rattle.definition.specs.Using.{gather_used_vars, record_one}
use Rattle.definition.specs.Comprs.{Mods, all_used, process_compr, process_comprs}
use Rattle.definition.specs.SomeIn.{some_vars_in, non_vars, fail_if_some, process_non_var, process_some_in}
use Rattle.original.proofs.Laws.Members.{Among, mem_left, mem_right, within-append, mem_concat_map, concat_map_agree}
use Rattle.original.proofs.Laws.Beside.{state_of, Beside, going, GoodBeside, beside_turn, beside_map, gather_used_vars-good, add_first_uses_beside, add_definitions_beside, record_one_beside, fail_if_some-good}
use Rattle.original.proofs.Laws.CoupledComprs.{Coupling, process_comprs_beside, forget, use_expr-good, all_used-same}

module _ (sheet : Sheet) (way way' : Way) (C : List Tree) (c : Coupling way way' C) where
  -- What is left of a pattern, one by one.
  process_non_var_beside : (i : ℕ) (m : Mods) (e : Tree) → Among (comprs e ++ m.comprs) C → (K : List Tree) {s u : State} → Beside (c.ρ K) s u
      → Beside (c.ρ ((comprs e ++ m.comprs) ++ K)) (process_non_var sheet way i m s e) (process_non_var sheet way' i m u e)
  unfolding process_non_var process_comprs
  process_non_var_beside i m e h K b =
      let cs = comprs e ++ m.comprs in
      beside_turn (c.ρ K) (c.ρ (cs ++ K)) (λ s. foldl (process_compr sheet way) s cs) (λ s. foldl (process_compr sheet way') s cs)
      (λ p A B x. process_comprs_beside sheet way way' C c cs h K (going p A B x))
      (beside_turn (c.ρ K) (c.ρ K) (λ t. fail_if_some (index_definitions sheet t.scope [] i e) t)
      (λ t. fail_if_some (index_definitions sheet t.scope [] i e) t)
      (λ p A B x. fail_if_some-good (c.ρ K) (c.again K) (index_definitions sheet p.scope [] i e) p A B x)
      (beside_turn (c.ρ K) (c.ρ K) (gather_used_vars sheet i [] e) (gather_used_vars sheet i [] e)
      (gather_used_vars-good (c.ρ K) (c.again K) sheet i [] e) b))

  -- The comprehensions of all that is left of a pattern are known in the end.
  all_comprs : Mods → List Tree → List Tree
  all_comprs m others = concat_map (λ e. comprs e ++ m.comprs) others

  -- All that is left of a pattern.
  process_non_vars_beside : (i : ℕ) (m : Mods) (others : List Tree) → ((e : Tree) → Memᴰ e others → Among (comprs e ++ m.comprs) C)
      → (K : List Tree) {s u : State} → Beside (c.ρ K) s u
      → Beside (c.ρ (all_comprs m others ++ K)) (foldl (process_non_var sheet way i m) s others) (foldl (process_non_var sheet way' i m) u others)
  unfolding all_comprs
  process_non_vars_beside i m [] h K b = b
  process_non_vars_beside i m (e ∷ others) h K b =
      let cs = comprs e ++ m.comprs in
      let rest = all_comprs m others in
      beside_map (c.ρ (rest ++ (cs ++ K))) (c.ρ ((cs ++ rest) ++ K))
      (c.weaken (rest ++ (cs ++ K)) ((cs ++ rest) ++ K)
      (within-append (cs ++ rest) K (rest ++ (cs ++ K))
      (within-append cs rest (rest ++ (cs ++ K)) (λ d n. mem_right rest (cs ++ K) d (mem_left cs K d n)) (mem_left rest (cs ++ K)))
      (λ d n. mem_right rest (cs ++ K) d (mem_right cs K d n))))
      (process_non_vars_beside i m others (λ d n. h d (Memᴰ.tail n)) (cs ++ K) (process_non_var_beside i m e (h e (Memᴰ.head refl)) K b))

  -- `some .. in ..`.
  pub process_some_in-good : (i : ℕ) (m : Mods) (pattern : List Tree) (collection : Tree) → Among (comprs collection) C
      → Among (concat_map comprs pattern) C → Among m.comprs C → (K : List Tree)
      → GoodBeside (c.ρ K) (c.ρ K) (process_some_in sheet way i m pattern collection) (process_some_in sheet way' i m pattern collection)
  unfolding process_some_in all_comprs non_vars
  process_some_in-good i m pattern collection h p k K o T U r =
      let cs = comprs collection ++ m.comprs in
      let L = cs ++ K in
      let names = some_vars_in sheet o.scope pattern in
      let others = non_vars sheet o.scope pattern in
      let N = all_comprs m others in
      let later : Mods = record { used_vars = []; comprs = m.comprs } in
      forget sheet way way' C c cs K
      (forget sheet way way' C c N L
      (beside_turn (c.ρ (N ++ L)) (c.ρ (N ++ L)) (λ t. record_one i 0 (concat_map (λ e. all_used sheet way [] later e t) others) t)
      (λ t. record_one i 0 (concat_map (λ e. all_used sheet way' [] later e t) others) t)
      (λ q A B z.
      record_one_beside (c.ρ (N ++ L)) (c.again (N ++ L)) i 0
      (concat_map (λ e. all_used sheet way [] later e (state_of q A)) others)
      (concat_map (λ e. all_used sheet way' [] later e (state_of q B)) others)
      (concat_map_agree (λ e. all_used sheet way [] later e (state_of q A)) (λ e. all_used sheet way' [] later e (state_of q B)) others
      (λ e n.
      all_used-same sheet way way' C c [] later e (N ++ L)
      (λ d x. mem_left N L d (mem_concat_map (λ f. comprs f ++ m.comprs) others e n d x)) q A B z)) q A B z)
      (beside_turn (c.ρ L) (c.ρ (N ++ L)) (λ t. foldl (process_non_var sheet way i m) t others) (λ t. foldl (process_non_var sheet way' i m) t others)
      (λ q A B z.
      process_non_vars_beside i m others
      (λ e n.
      within-append (comprs e) m.comprs C
      (λ d x. p d (mem_concat_map comprs pattern e (filter_mem _ pattern n).0 d x)) k) L (going q A B z))
      (beside_turn (c.ρ L) (c.ρ L) (add_first_uses (map span_of names)) (add_first_uses (map span_of names))
      (λ q A B z. add_first_uses_beside (c.ρ L) (c.again L) (map span_of names) (map span_of names) refl q A B z)
      (beside_turn (c.ρ L) (c.ρ L)
      (λ t. add_definitions (map (λ (w : Row). define i w.name (all_used sheet way [] m collection t)) names) t)
      (λ t. add_definitions (map (λ (w : Row). define i w.name (all_used sheet way' [] m collection t)) names) t)
      (λ q A B z.
      add_definitions_beside (c.ρ L) (c.again L)
      (map (λ (w : Row). define i w.name (all_used sheet way [] m collection (state_of q A))) names)
      (map (λ (w : Row). define i w.name (all_used sheet way' [] m collection (state_of q B))) names)
      (ap (λ (l : List ℕ). map (λ (w : Row). define i w.name l) names)
      (all_used-same sheet way way' C c [] m collection L (mem_left cs K) q A B z)) q A B z)
      (use_expr-good sheet way way' C c i [] m collection (within-append (comprs collection) m.comprs C h k) K o T U r))))))

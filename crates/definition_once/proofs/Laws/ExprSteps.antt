-- What the analysis of an expression keeps, its comprehensions with it, if the analysis of nested queries keeps R. A test Q that the names
-- of all rows pass goes along, so that it is known of a nested query's outputs.
use mathlib.Core.Path.{◌≡◌, refl, ap, ◌∙◌}
use mathlib.Core.Logic.{⊎_elim}
use mathlib.Core.Bool.{Bool, true, false, cond, not, ◌&&◌}
use mathlib.Core.List.{List, [], ◌∷◌, ◌++◌, foldl}
use mathlib.Core.Option.{Option, none, some}
use Prim.Native.Nat.{ℕ}
use lib.Dec.{eqb}
use lib.ListN.{length}
use borrow.Author.Tests.{eqb-true}
use Rattle.base.proofs.Laws.Truth.{not-both, or_cases, and_intro, and_left, and_right}
use Rattle.base.specs.Lists.{all, filter, range}
use Rattle.order.specs.Definitions.{Definition}
use Rattle.base.proofs.Laws.ListLaws.{all_append, all_weaken, all-kept, all_filter}
use Rattle.base.proofs.Laws.Mapping.{to_list}
use Rattle.sheet.specs.declared.Row.{Row}
use Rattle.sheet.specs.Sheet.{Sheet, name_bound}
use Rattle.sheet.specs.Kinds.{is_array, is_assign, is_col_eq}
use Rattle.scope.specs.Trees.{Tree, nil, node, row_of, first_of, second_of, chain, outputs_of}
use Rattle.scope.specs.Traverse.{comprs}
use Rattle.scope.proofs.Laws.TreeRows.{rows_pass, rows_of-parts, alone-rows, comprs-rows, outputs-rows, first_rows_lem, second-rows}
use Rattle.scope.specs.Scopes.{empty, contains, insert, elements, Scope, no_scope, owns, add_local, add_unscoped, add_input, use_input}
use Rattle.scope.specs.Gather.{gather_assigned_vars}
use Rattle.scope.proofs.Laws.GatherLaws as gather
use Rattle.scope.proofs.Laws.GatherLaws.{assigned_kept}
use Rattle.definition.specs.Uses.{assigned_vars}
use Rattle.definition.specs.States.{lengths, QuerySchedule, Run, State, schedule_of, set_scope, set_run, fail, Way}
use Rattle.definition.specs.Using.{gather_used_vars, check_assigned, record_one, record_each}
use Rattle.definition.specs.Comprs.{Mods, propagate, use_compr, all_used, process_compr, process_comprs, use_expr}
use Rattle.definition.specs.Exprs.{Pairing, pair, mismatch, pairings, assign_one_way, assign_pairing, process_assign_expr, process_plain_expr, process_expr, process_extra_arg, process_call}
use Rattle.definition_once.specs.Inner.OnceWay.{Nested, unless_scheduled, analyze_compr, once_way}
use Rattle.definition_once.proofs.Laws.Own.{Grows, grows_unscoped, all-unscoped, assigned_own, all_used-own}
use Rattle.definition_once.proofs.Laws.Steps.{KeptByChanges, Rises, KeepsBoth, Good, good-same, good-end, good_then, good-fold, good-run, good-fail, good-scope, extras_kept, good-used, good-propagate, good-use_compr, good-one, good-each, good-check_assigned}

-- A row whose name passes Q.
abbrev pub row_passes : (ℕ → Bool) → Row → Bool
row_passes Q w = Q w.name

-- The names that an extra argument adds are those of its rows.
module _ (sheet : Sheet) (parents : List Scope) (Q : ℕ → Bool) where
  abbrev Unscoped : Scope → Type 0
  Unscoped s = (x : ℕ) → contains s.unscoped x ≡ true → Q x ≡ true

  unscoped-kept : gather.KeptByGathering parents (row_passes Q) Unscoped
  unfolding add_local add_unscoped add_input use_input contains insert
  unscoped-kept = record {
    local = λ s w q h. h;
    unscoped = λ s w q h x e. ⊎_elim (λ (i : eqb x w.name ≡ true). ap Q (eqb-true x w.name i) ∙ q) (λ (i : s.unscoped x ≡ true). h x i) (or_cases (eqb x w.name) (s.unscoped x) e);
    input = λ s w q e h. h;
    flag = λ s b h. h;
  }

  pub extras_pass : Q 0 ≡ true → (arg : Tree) → rows_pass (row_passes Q) arg ≡ true
      → all Q (elements (gather_assigned_vars sheet parents false arg no_scope).unscoped) ≡ true
  unfolding elements contains empty
  extras_pass unnamed arg rows =
      let s = gather_assigned_vars sheet parents false arg no_scope in
      all_weaken (contains s.unscoped) Q
      (assigned_kept sheet parents (row_passes Q) unnamed Unscoped unscoped-kept false arg rows no_scope (λ x e. absurd (not-both e refl)))
      (elements s.unscoped) (all-kept (contains s.unscoped) (range 0 name_bound))

scope-is : (b : Scope) (s : State) → Grows b (set_scope b s).scope
unfolding set_scope
scope-is b s x e = e

module _ (test : Row → Bool) where
  abbrev pairing_rows : Pairing → Bool
  pairing_rows (pair lhs rhs) = rows_pass test lhs && rows_pass test rhs
  pairing_rows (mismatch v) = true

  pairings-rows : (l r : Tree) → rows_pass test l ≡ true → rows_pass test r ≡ true → all pairing_rows (pairings l r) ≡ true
  unfolding pairings
  pairings-rows nil r h g = refl
  pairings-rows (node w a b c n) nil h g = refl
  pairings-rows (node w a b c n) (node v x y z m) h g =
      let p = rows_of-parts test w a b c n h in
      let q = rows_of-parts test v x y z m g in
      all_append pairing_rows
      (cond (is_array w && is_array v) (cond (eqb (length (chain a)) (length (chain x))) (pairings a x) (mismatch v ∷ []))
      (pair (node w a b c nil) (node v x y z nil) ∷ []))
      (pairings n m)
      (go (is_array w && is_array v) (eqb (length (chain a)) (length (chain x))) (pairings-rows a x p.first q.first)
      (and_intro _ _ (alone-rows test w a b c n p) (alone-rows test v x y z m q)))
      (pairings-rows n m p.next q.next)
    where
      go : (s t : Bool) → all pairing_rows (pairings a x) ≡ true → (rows_pass test (node w a b c nil) && rows_pass test (node v x y z nil)) ≡ true
          → all pairing_rows (cond s (cond t (pairings a x) (mismatch v ∷ [])) (pair (node w a b c nil) (node v x y z nil) ∷ [])) ≡ true
      go true true ih both = ih
      go true false ih both = refl
      go false t ih both = and_intro _ _ both refl

-- ---- the steps

module _ (sheet : Sheet) (nested : Nested) (parents : List Scope) (Q : ℕ → Bool) (S : Scope → List Definition → Type 0)
    (R : List QuerySchedule → Type 0) (k : KeptByChanges Q S) (rises : Rises Q R) (unnamed : Q 0 ≡ true)
    (keeps : (ps : List Scope) (q : ℕ) (outs : List Tree) (r : Run) → all (rows_pass (row_passes Q)) outs ≡ true → R r.schedules → R (nested ps q outs r).schedules)
  where
    abbrev way : Way
    way = once_way sheet nested parents

    pub good-compr : (sc : Scope) (ps : List Scope) (e : Tree) → rows_pass (row_passes Q) e ≡ true → Good S R sc (analyze_compr nested ps e)
    unfolding analyze_compr
    good-compr sc ps e t s o h = go (schedule_of s.run.schedules (row_of e).third)
      where
        go : (a : Option QuerySchedule) → KeepsBoth S R s (unless_scheduled a (λ u. set_run (nested ps (row_of e).third (outputs_of e) u.run) u) s)
        go none = good-run S R s (nested ps (row_of e).third (outputs_of e) s.run) o (keeps ps (row_of e).third (outputs_of e) s.run (outputs-rows (row_passes Q) e t) o.table)
        go (some a) = good-same S R sc s o h

    pub good-comprs : (sc : Scope) (cs : List Tree) → all (rows_pass (row_passes Q)) cs ≡ true → Good S R sc (process_comprs sheet way cs)
    unfolding process_comprs process_compr
    good-comprs sc cs t =
        good-fold S R sc (rows_pass (row_passes Q)) (process_compr sheet way)
        (λ e q s o h. good_then S R sc (analyze_compr nested (s.scope ∷ parents) e) ((λ t. propagate sheet way t.scope e t) ∷ use_compr sheet way e ∷ []) (good-compr sc (s.scope ∷ parents) e q)
        (good_then S R sc (λ t. propagate sheet way t.scope e t) (use_compr sheet way e ∷ []) (good-propagate S R Q k rises sheet nested parents sc (λ t. t.scope) e)
        (good_then S R sc (use_compr sheet way e) [] (good-use_compr S R Q k rises sheet way sc e) (good-end S R sc))) s o h) cs t

    pub good-expr : (sc : Scope) (i : ℕ) (extras : List ℕ) (m : Mods) → all (rows_pass (row_passes Q)) m.comprs ≡ true
        → (t : Tree) → rows_pass (row_passes Q) t ≡ true → Good S R sc (use_expr sheet way i extras m t)
    unfolding use_expr
    good-expr sc i extras m mt t h =
        let cs = comprs t ++ m.comprs in
        good_then S R sc (gather_used_vars sheet i extras t) (process_comprs sheet way cs ∷ []) (good-used S R Q k rises sheet sc i extras t)
        (good_then S R sc (process_comprs sheet way cs) []
        (good-comprs sc cs (all_append (rows_pass (row_passes Q)) (comprs t) m.comprs (comprs-rows (row_passes Q) t h) mt)) (good-end S R sc))

    -- The names of the modifiers being own from a scope on.
    module _ (sc : Scope) (i : ℕ) (m : Mods) (mt : all (rows_pass (row_passes Q)) m.comprs ≡ true) (own : all (owns sc) m.used_vars ≡ true) where
      good-way : (check : Bool) (target source : Tree) → rows_pass (row_passes Q) source ≡ true → Good S R sc (assign_one_way sheet way i m check target source)
      unfolding assign_one_way
      good-way check target source h =
          let used : State → ℕ → List ℕ = λ t x. filter (λ y. not (eqb y x)) (all_used sheet way [] m source t) in
          let last : State → State = λ t. record_each i (assigned_vars t.scope target) (used t) t in
          good_then S R sc (use_expr sheet way i [] m source) (check_assigned check target ∷ last ∷ []) (good-expr sc i [] m mt source h)
          (good_then S R sc (check_assigned check target) (last ∷ []) (good-check_assigned S R Q k rises sc check target)
          (good_then S R sc last []
          (λ t o g. good-each S R Q k rises i (assigned_vars t.scope target) (used t) t o (assigned_own t.scope target)
          (λ x. all_filter (owns t.scope) (λ y. not (eqb y x)) (all_used sheet way [] m source t) (all_used-own sheet way sc [] m source t g own)))
          (good-end S R sc)))

      good_pairing : (check : Bool) (j : Pairing) → pairing_rows (row_passes Q) j ≡ true → Good S R sc (λ s. assign_pairing sheet way i m check s j)
      unfolding assign_pairing
      good_pairing check (pair lhs rhs) h =
          good_then S R sc (assign_one_way sheet way i m check lhs rhs) (assign_one_way sheet way i m false rhs lhs ∷ [])
          (good-way check lhs rhs (and_right (rows_pass (row_passes Q) lhs) _ h))
          (good_then S R sc (assign_one_way sheet way i m false rhs lhs) [] (good-way false rhs lhs (and_left _ (rows_pass (row_passes Q) rhs) h)) (good-end S R sc))
      good_pairing check (mismatch v) h = good_then S R sc (fail (lengths v.line v.col)) [] (good-fail S R sc (lengths v.line v.col)) (good-end S R sc)

      pub good-plain : (e : Tree) → rows_pass (row_passes Q) e ≡ true → Good S R sc (process_plain_expr sheet way i m e)
      unfolding process_plain_expr
      good-plain e h =
          let last : State → State = λ t. record_one i 0 (all_used sheet way [] m e t) t in
          good_then S R sc (use_expr sheet way i [] m e) (last ∷ []) (good-expr sc i [] m mt e h)
          (good_then S R sc last [] (λ t o g. good-one S R Q k rises i 0 (all_used sheet way [] m e t) t o refl (all_used-own sheet way sc [] m e t g own)) (good-end S R sc))

      pub good-process_expr : (e : Tree) → rows_pass (row_passes Q) e ≡ true → Good S R sc (process_expr sheet way i m e)
      unfolding process_expr process_assign_expr
      good-process_expr e t s o h = go (is_assign (row_of e))
        where
          go : (b : Bool) → KeepsBoth S R s (cond b (foldl (assign_pairing sheet way i m (is_col_eq (row_of e))) s (pairings (first_of e) (second_of e))) (process_plain_expr sheet way i m e s))
          go true =
              good-fold S R sc (pairing_rows (row_passes Q)) (assign_pairing sheet way i m (is_col_eq (row_of e))) (good_pairing (is_col_eq (row_of e)))
              (pairings (first_of e) (second_of e)) (pairings-rows (row_passes Q) (first_of e) (second_of e) (first_rows_lem (row_passes Q) e t) (second-rows (row_passes Q) e t)) s o h
          go false = good-plain e t s o h

    pub good_extra : (sc : Scope) (i : ℕ) (m : Mods) → all (rows_pass (row_passes Q)) m.comprs ≡ true → all (owns sc) m.used_vars ≡ true
        → (e arg : Tree) → rows_pass (row_passes Q) e ≡ true → rows_pass (row_passes Q) arg ≡ true → Good S R sc (process_extra_arg sheet way i m e arg)
    unfolding process_extra_arg
    good_extra sc i m mt own e arg t at s o h =
        let extras = way.extra_vars arg in
        let b = foldl add_unscoped s.scope extras in
        let first = good-scope S R Q k rises s b o (extras_kept S R Q k rises extras (extras_pass sheet parents Q unnamed arg at) s.scope s.definitions o.here) (grows_unscoped extras s.scope) in
        let own_b = all_weaken (owns sc) (owns b) (λ x q. grows_unscoped extras s.scope x (h x q)) m.used_vars own in
        let f : State → State = λ u. record_each i extras (λ x. all_used sheet way extras m e u) u in
        let r = good_then S R b (use_expr sheet way i extras m e) (f ∷ []) (good-expr b i extras m mt e t)
        (good_then S R b f []
        (λ u p g. good-each S R Q k rises i extras (λ x. all_used sheet way extras m e u) u p (all_weaken (owns b) (owns u.scope) g extras (all-unscoped extras s.scope))
        (λ x. all_used-own sheet way b extras m e u g own_b)) (good-end S R b))
        (set_scope b s) first.holds (scope-is b s) in
        record { holds = r.holds; grows = λ x q. r.grows x (first.grows x q) }

    pub good_call : (sc : Scope) (i : ℕ) (m : Mods) → all (rows_pass (row_passes Q)) m.comprs ≡ true → all (owns sc) m.used_vars ≡ true
        → (x : Option Tree) → all (rows_pass (row_passes Q)) (to_list x) ≡ true → (e : Tree) → rows_pass (row_passes Q) e ≡ true → Good S R sc (process_call sheet way x i m e)
    unfolding process_call
    good_call sc i m mt own none at e t = good-process_expr sc i m mt own e t
    good_call sc i m mt own (some arg) at e t = good_extra sc i m mt own e arg t (and_left (rows_pass (row_passes Q) arg) true at)

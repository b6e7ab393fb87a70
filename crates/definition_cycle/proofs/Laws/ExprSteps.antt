-- An expression that is a literal: the names of its extra argument are bound, and it is an assignment, or it records its uses.
use mathlib.Core.Path.{◌≡◌, refl, sym, ap, ◌∙◌, subst}
use mathlib.Core.Bool.{Bool, true, false, cond}
use mathlib.Core.List.{List, [], ◌∷◌, foldl}
use mathlib.Core.Logic.{◌⊎◌, inl, inr}
use mathlib.Core.Option.{none, some}
use Prim.Native.Nat.{ℕ, suc, ◌+◌, ◌≤◌, max}
use native.Mathlib.Omega.{arith}
use lib.Dec.{eqb}
use lib.ListN.{length}
use borrow.Author.Tests.{eq-eqb, ne_eqb, eqb-true}
use Rattle.base.proofs.Laws.Truth.{bool_cases, eq_cases, not-both}
use Rattle.base.specs.Sets.{members}
use Rattle.names.specs.Inner.Names.{Names}
use Rattle.sheet.specs.declared.Row.{Row}
use Rattle.names_width.specs.declared.Width.{Width}
use Rattle.sheet.specs.Inner.Sheet.{row_at}
use Rattle.sheet.specs.Kinds.{is_call, is_assign, is_col_eq}
use Rattle.scope.specs.Trees.{Tree, row_of}
use Rattle.scope.specs.Paths.{get_extra_arg}
use Rattle.scope.specs.Scopes.{Scope, add_unscoped}
use Rattle.definition.specs.States.{sound, Run, State, set_scope, in_turn, Way}
use Rattle.definition.specs.Using.{record_each}
use Rattle.definition.specs.Comprs.{Mods, all_used, use_expr}
use Rattle.definition.specs.Exprs.{assign_pairing, process_assign_expr, process_plain_expr, process_expr, process_extra_arg, process_call}
use Rattle.definition_once.specs.Inner.OnceWay.{Nested}
use Rattle.definition_room.specs.Inner.Sizes.{total, size}
use Rattle.definition_room.specs.Inner.Leaves.{bracket_vars}
use Rattle.definition_room.proofs.Laws.Leaves.{brackets_fit}
use Rattle.definition_room.specs.Inner.Exprs.{pair_cost}
use Rattle.definition_room.proofs.Laws.Exprs.{pairings-fit}
use Rattle.definition_room.proofs.Laws.Extras.{extra_few, extra_fits}
use Rattle.definition_room.proofs.Laws.Adds.{Step, step_if, adds_set_scope}
use Rattle.definition_room.proofs.Laws.Lying.{lies-there}
use Rattle.definition_room.proofs.Laws.Homes.{assign_no_compr, fields_lie}
use Rattle.scope_walk.specs.Inner.Sheets.{counts_at, sheet_at, Accepted, expr_count}
use Rattle.scope_walk.specs.Inner.Exprs.{expr_by}
use Rattle.scope_walk.proofs.Laws.Exprs.{tree_is, row_is, first-is, second_is}
use Rattle.scope_state.specs.Inner.Outers.{Outer}
use Rattle.scope_state.specs.Inner.Enclosing.{Encloses}
use Rattle.scope_state.proofs.Laws.Enclosing.{scopes_enclosed}
use Rattle.definition_walk.specs.Inner.Own.{Holds}
use Rattle.definition_expr.specs.declared.Using.{Using}
use Rattle.definition_expr.specs.Inner.Defined.{ListedExtras}
use Rattle.definition_literal.specs.declared.context.Context.{Context}
use Rattle.definition_literal.specs.Inner.Contexts.{Stands}
use Rattle.definition_literal.specs.Inner.ExtraArgs.{ExtraArg}
use Rattle.definition_literal.specs.Inner.ExtraNames.{ExtraVars}
use Rattle.definition_literal.specs.Inner.Binding.{Bound}
use Rattle.definition_record.proofs.Laws.Guards.{if_same}
use Rattle.definition_record.specs.Inner.Records.{NamesFit, EachRecorded}
use Rattle.definition_record.proofs.Laws.Records.{ready-names}
use Rattle.definition_state.specs.declared.Progress.{Progress}
use Rattle.definition_state.specs.Inner.Faults.{is_sound, meaning}
use Rattle.definition_state.specs.Inner.Held.{Held}
use Rattle.definition_state.specs.Inner.Table.{Table}
use Rattle.definition_state.specs.Inner.Frames.{guarded, Agree, Grown}
use Rattle.definition_state.proofs.Laws.Frames.{grown_then}
use Rattle.definition_state.proofs.Laws.Steps.{agree_sound, not_sound}
use Rattle.definition_steps.proofs.Laws.Guards.{guarded-sound, guarded-stays, fault_cases, pairings_stay}
use Rattle.definition_cycle.specs.Inner.Sites.{nested_by, way_by, Surrounds, Inside, Under}
use Rattle.definition_cycle.proofs.Laws.Witnesses.{members-held, some_mods, some_stand}
use Rattle.definition_cycle.proofs.Laws.Moves.{Enclosing, at_ready, inside-next, under_less, under_next, under-inside}
use Rattle.definition_cycle.proofs.Laws.Steadies.{steady_use}
use Rattle.definition_cycle.specs.Inner.Asks.{tree_of, pairs_at, AsksExpr, AsksWhole}
use Rattle.definition_cycle.specs.Inner.Does.{DoesUse, DoesPairs, DoesStep, expr_step}

-- The names on a list are unscoped from here on.
abbrev bind : List ℕ → State → State
bind l s = set_scope (foldl add_unscoped s.scope l) s

bind-run : (l : List ℕ) (s : State) → (bind l s).run ≡ s.run
unfolding set_scope
bind-run l s = refl

bind-none : (s : State) → bind [] s ≡ s
unfolding set_scope
bind-none s = refl

module _ (t : List ℕ) (ok : Accepted t) (outer spans : List ℕ) (row : ℕ) (call : Bool) (x : Context) (p : Progress) (firsts work : List ℕ)
    (asks : AsksWhole t outer spans row x p firsts work) (arg : ℕ) (which : ExtraArg t row call arg) where
  abbrev nested : Nested
  nested = nested_by t x.levels

  abbrev way : List Scope → Way
  way = way_by t x.levels

  there : row ≡ 0 → ⊥
  there z = omega (arith, asks.there)

  pub arg_low : arg ≤ expr_count t
  arg_low = go which
    where
      go : ExtraArg t row call arg → arg ≤ expr_count t
      go (inl a) = omega (arith, a.zero)
      go (inr a) = a.high

  module _ (extras : Names) (vars : ExtraVars t outer arg extras) (q : Progress) (bound : Bound p extras q) (inner : List ℕ)
      (closed : Encloses outer q.scope spans inner) where
    -- ---- the names of the extra argument

    names : List Scope → List ℕ
    names parents = cond (eqb arg 0) [] ((way parents).extra_vars (expr_by t false arg))

    hold : (parents : List Scope) → Outer outer parents → Holds extras (names parents)
    unfolding names
    hold parents o = go (eq_cases arg 0)
      where
        go : (arg ≡ 0) ⊎ (arg ≡ 0 → ⊥) → Holds extras (cond (eqb arg 0) [] ((way parents).extra_vars (expr_by t false arg)))
        go (inl z) = rw (eq-eqb arg 0 z) (vars.none z)
        go (inr n) = rw (ne_eqb arg 0 n) (vars.all n nested parents o)

    -- They fit into the expression with what its brackets define.
    few : (parents : List Scope) → bracket_vars (tree_of t row) + max 1 (length (names parents)) ≤ suc (size (tree_of t row))
    unfolding names
    few parents = go which
      where
        go : ExtraArg t row call arg
            → bracket_vars (tree_of t row) + max 1 (length (cond (eqb arg 0) [] ((way parents).extra_vars (expr_by t false arg)))) ≤ suc (size (tree_of t row))
        go (inl a) = rw (eq-eqb arg 0 a.zero) (omega (arith, brackets_fit (tree_of t row)))
        go (inr a) =
            rw (ne_eqb arg 0 (λ z. omega (arith, a.low)))
            (omega (arith, extra_few (sheet_at t) parents nested (expr_by t false arg), extra_fits (sheet_at t) (tree_of t row) (expr_by t false arg) a.is))

    binds : (parents : List Scope) (s : State) → Outer outer parents → Agree t spans p firsts work s
        → Agree t spans q firsts work (guarded (bind (names parents)) s)
    unfolding set_scope
    binds parents s o a = go (bool_cases (is_sound p.fault))
      where
        go : (is_sound p.fault ≡ true) ⊎ (is_sound p.fault ≡ false) → Agree t spans q firsts work (guarded (bind (names parents)) s)
        go (inl b) =
            let clear = agree_sound t spans p firsts work s a b in
            let held = a.whole clear in
            rw (guarded-sound (bind (names parents)) s clear) (record {
              fault = ap meaning bound.fault ∙ a.fault;
              count = omega (arith, bound.count, a.count);
              whole = λ e. record {
                scope = bound.agrees b spans s.scope (names parents) held.scope (hold parents o);
                used-first = held.used-first;
                rows =
                    subst (λ (v : Width). Held v work q.count s.definitions) (sym bound.wide)
                    (subst (λ (n : ℕ). Held p.width work n s.definitions) (sym bound.count) held.rows);
                table = subst (λ (v : Width). Table v t work s.run.schedules) (sym bound.wide) held.table;
              };
            })
        go (inr b) =
            let faulty : s.run.fault ≡ sound → ⊥ = λ e. not_sound p.fault b (a.fault ∙ e) in
            rw (guarded-stays s faulty (bind (names parents)), bound.same b) a

    bound-grown : Grown t p work q work
    bound-grown = record { long = refl; up = omega (arith, bound.count); wide = bound.wide; before = λ j l. refl }

    steps : (parents : List Scope) → Step (sheet_at t) 0 0 (guarded (bind (names parents)))
    steps parents s =
        step_if (sheet_at t) (bind (names parents)) (λ u. adds_set_scope (sheet_at t) (foldl add_unscoped u.scope (names parents)) u) s.run.fault s

    abbrev under : Under t outer spans q firsts work (suc (size (tree_of t row)))
    under =
        under_next t outer spans p q firsts firsts work work (suc (size (tree_of t row))) 0 (suc (size (tree_of t row))) 0 (λ parents. guarded (bind (names parents)))
        steps (omega arith) (record { grown = bound-grown; agrees = binds }) asks.under

    closing : Enclosing t outer spans q inner
    closing parents o sc a = scopes_enclosed outer q.scope spans inner closed parents o sc a

    -- The same below the scopes around nested queries, with room for less.
    abbrev within : (n : ℕ) → n ≤ suc (size (tree_of t row)) → Inside t inner q firsts work n
    within n l =
        under-inside t outer spans inner q firsts work n closing (under_less t outer spans q firsts work (suc (size (tree_of t row))) n l under)

    around : (parents : List Scope) (s : State) → Outer outer parents → Agree t spans q firsts work s → Surrounds t inner parents s
    around parents s o a e = closing parents o s.scope (a.whole e).scope

    -- ---- an assignment

    module _ (w : Row) (is : w ≡ row_at t row) (assigns : is_assign w ≡ true) where
      root : row_of (tree_of t row) ≡ w
      root = row_is t ok row there asks.low true ∙ sym is

      -- It is no call.
      no_call : is_call w ≡ false
      no_call = go (bool_cases (is_call w))
        where
          go : (is_call w ≡ true) ⊎ (is_call w ≡ false) → is_call w ≡ false
          go (inr n) = n
          go (inl c) = let k : w.kind ≡ 13 = eqb-true w.kind 13 c in absurd (not-both assigns (rw k))

      no_arg : get_extra_arg (sheet_at t) (tree_of t row) ≡ none
      unfolding get_extra_arg
      no_arg = rw (root, no_call)

      none-bound : (parents : List Scope) → names parents ≡ []
      unfolding names
      none-bound parents = go which
        where
          go : ExtraArg t row call arg → cond (eqb arg 0) [] ((way parents).extra_vars (expr_by t false arg)) ≡ []
          go (inl a) = rw (eq-eqb arg 0 a.zero)
          go (inr a) = let e : none ≡ some (expr_by t false arg) = sym no_arg ∙ a.is in let z : ◌≡◌ {A = ℕ} 0 1 = cc in absurd (omega arith)

      pairs_fit : total pair_cost (pairs_at t w.first w.second) ≤ suc (size (tree_of t row))
      unfolding size
      pairs_fit =
          rw (tree_is t ok row there asks.low, sym is) (omega (arith, pairings-fit (tree_of t w.first) (tree_of t w.second)))

      pub pairs_asks : AsksExpr t inner w.first w.second x q firsts work (total pair_cost (pairs_at t w.first w.second))
      pairs_asks =
          let here = lies-there (counts_at t) t asks.under.at.query row asks.there asks.lies in
          let other = subst (λ (v : Row). is_assign v ≡ true) is assigns in
          let lie = fields_lie (counts_at t) t ok.within ok.fine asks.under.at.query row asks.there asks.low here
          (assign_no_compr (row_at t row) other) in
          record {
            inside = within (total pair_cost (pairs_at t w.first w.second)) pairs_fit;
            first-lies = rw is lie.first;
            second-lies = rw is lie.second;
            mods_lie = asks.mods_lie;
            mods-low = asks.mods-low;
          }

      module _ (check : Bool) (checks : check ≡ is_col_eq w) (r : Progress) (firsts' work' : List ℕ)
          (pairs : DoesPairs t inner (pairs_at t w.first w.second) check x q firsts work r firsts' work') where
        assigned : (parents : List Scope) (m : Mods) (s : State)
            → foldl (assign_pairing (sheet_at t) (way parents) x.statement m check) s (pairs_at t w.first w.second)
            ≡ process_expr (sheet_at t) (way parents) x.statement m (tree_of t row) s
        unfolding process_expr process_assign_expr
        assigned parents m s =
            sym (rw (
              root,
              assigns,
              sym checks,
              first-is t ok row there asks.low true,
              second_is t ok row there asks.low true,
              sym is,
            ))

        step_is : (parents : List Scope) (m : Mods) (s : State)
            → foldl (assign_pairing (sheet_at t) (way parents) x.statement m check) s (pairs_at t w.first w.second)
            ≡ expr_step t call row x parents m s
        unfolding process_call
        step_is parents m s = go (fault_cases s.run.fault)
          where
            plain : (b : Bool) → process_expr (sheet_at t) (way parents) x.statement m (tree_of t row) s
                ≡ cond b (process_call (sheet_at t) (way parents) (get_extra_arg (sheet_at t) (tree_of t row)) x.statement m (tree_of t row) s)
                (process_expr (sheet_at t) (way parents) x.statement m (tree_of t row) s)
            plain true = sym (rw no_arg)
            plain false = refl

            go : (s.run.fault ≡ sound) ⊎ (s.run.fault ≡ sound → ⊥)
                → foldl (assign_pairing (sheet_at t) (way parents) x.statement m check) s (pairs_at t w.first w.second)
                ≡ expr_step t call row x parents m s
            go (inl e) = assigned parents m s ∙ plain call ∙ sym (guarded-sound _ s e)
            go (inr n) =
                pairings_stay (sheet_at t) (way parents) s n x.statement m check (pairs_at t w.first w.second) ∙ sym (guarded-stays s n _)

        pub assign_does : DoesStep t (expr_step t call row x) outer spans x p firsts work r firsts' work'
        assign_does m stands = record {
          grown = grown_then t p q r work work work' bound-grown (pairs m stands).grown;
          agrees = λ parents s o a.
              let same : guarded (bind (names parents)) s ≡ s = unbound parents s in
              let b : Agree t spans q firsts work s = subst (Agree t spans q firsts work) same (binds parents s o a) in
              subst (Agree t spans r firsts' work') (step_is parents m s)
              ((pairs m stands).agrees parents spans s (around parents s o b) b);
        }
          where
            unbound : (parents : List Scope) (s : State) → guarded (bind (names parents)) s ≡ s
            unbound parents s = go (fault_cases s.run.fault)
              where
                go : (s.run.fault ≡ sound) ⊎ (s.run.fault ≡ sound → ⊥) → guarded (bind (names parents)) s ≡ s
                go (inl e) = guarded-sound (bind (names parents)) s e ∙ rw (none-bound parents) (bind-none s)
                go (inr n) = guarded-stays s n (bind (names parents))

    -- ---- any other expression

    pub extras_listed : ListedExtras extras
    extras_listed = record { list = names asks.under.at.parents; holds = hold asks.under.at.parents asks.under.beneath }

    pub use_asks : AsksExpr t inner row 0 x q firsts work (bracket_vars (tree_of t row))
    use_asks = record {
      inside = within (bracket_vars (tree_of t row)) (omega (arith, brackets_fit (tree_of t row)));
      first-lies = asks.lies;
      second-lies = inl refl;
      mods_lie = asks.mods_lie;
      mods-low = asks.mods-low;
    }

    module _ (u : Using) (firsts' work' : List ℕ) (uses : DoesUse t inner extras (tree_of t row) x q firsts work u firsts' work') where
      pub each_fits : NamesFit 1 extras u.progress work'
      each_fits =
          let ps = asks.under.at.parents in
          let l = names ps in
          let h = hold ps asks.under.beneath in
          let m = some_mods t x in
          let cost = bracket_vars (tree_of t row) in
          let most = max 1 (length l) in
          let next = inside-next t inner q u.progress firsts firsts' work work' (cost + most) cost most
          (λ parents. use_expr (sheet_at t) (way parents) x.statement l m (tree_of t row))
          (λ parents. steady_use t x.levels parents x.statement l m (tree_of t row)) (omega arith)
          (uses.runs m (some_stand t x) l h) (within (cost + most) (few ps)) in
          ready-names u.progress work' extras t firsts' 1 l h (at_ready t next.spans u.progress firsts' work' most next.at)

      module _ (assigns : is_assign (row_at t row) ≡ false) (r : Progress) (work'' : List ℕ)
          (each : EachRecorded x.statement extras u.names false u.progress work' r work'') where
        -- The steps that are done, for the names on a list.
        used : List ℕ → List Scope → Mods → State → State
        used l parents m s = use_expr (sheet_at t) (way parents) x.statement l m (tree_of t row) (guarded (bind l) s)

        record_used : List ℕ → List Scope → Mods → State → State
        record_used l parents m s = record_each x.statement l (λ y. all_used (sheet_at t) (way parents) l m (tree_of t row) s) s

        recorded : List ℕ → List Scope → Mods → State → State
        recorded l parents m s = guarded (record_used l parents m) (used l parents m s)

        -- Where there is no fault at first.
        module _ (parents : List Scope) (m : Mods) (s : State) (clear : s.run.fault ≡ sound) where
          in_turn_lem : (l : List ℕ) → recorded l parents m s
              ≡ in_turn (use_expr (sheet_at t) (way parents) x.statement l m (tree_of t row) ∷ record_used l parents m ∷ []) (bind l s)
          unfolding recorded used
          in_turn_lem l =
              let f = use_expr (sheet_at t) (way parents) x.statement l m (tree_of t row) in
              ap (λ (v : State). guarded (record_used l parents m) v)
              (ap f (guarded-sound (bind l) s clear) ∙ sym (guarded-sound f (bind l s) (ap (λ (v : Run). v.fault) (bind-run l s) ∙ clear)))

          plain-is : recorded [] parents m s ≡ process_expr (sheet_at t) (way parents) x.statement m (tree_of t row) s
          unfolding process_expr process_plain_expr record_each record_used set_scope
          plain-is = rw (row_is t ok row there asks.low true, assigns) (in_turn_lem [])

          extra_is : (e : Tree) → recorded ((way parents).extra_vars e) parents m s
              ≡ process_extra_arg (sheet_at t) (way parents) x.statement m (tree_of t row) e s
          unfolding process_extra_arg record_used
          extra_is e = in_turn_lem ((way parents).extra_vars e)

          does : ExtraArg t row call arg → recorded (names parents) parents m s
              ≡ cond call (process_call (sheet_at t) (way parents) (get_extra_arg (sheet_at t) (tree_of t row)) x.statement m (tree_of t row) s)
              (process_expr (sheet_at t) (way parents) x.statement m (tree_of t row) s)
          unfolding names process_call
          does (inl a) = rw (eq-eqb arg 0 a.zero) (plain-is ∙ either (bool_cases call))
            where
              either : (call ≡ true) ⊎ (call ≡ false) → process_expr (sheet_at t) (way parents) x.statement m (tree_of t row) s
                  ≡ cond call (process_call (sheet_at t) (way parents) (get_extra_arg (sheet_at t) (tree_of t row)) x.statement m (tree_of t row) s)
                  (process_expr (sheet_at t) (way parents) x.statement m (tree_of t row) s)
              either (inl b) = sym (rw (b, a.nothing b))
              either (inr b) = sym (rw b)
          does (inr a) = rw (ne_eqb arg 0 (λ z. omega (arith, a.low))) (extra_is (expr_by t false arg) ∙ asked)
            where
              asked : process_extra_arg (sheet_at t) (way parents) x.statement m (tree_of t row) (expr_by t false arg) s
                  ≡ cond call (process_call (sheet_at t) (way parents) (get_extra_arg (sheet_at t) (tree_of t row)) x.statement m (tree_of t row) s)
                  (process_expr (sheet_at t) (way parents) x.statement m (tree_of t row) s)
              asked = sym (rw (a.asked, a.is))

        stays : (l : List ℕ) (parents : List Scope) (m : Mods) (s : State) → (s.run.fault ≡ sound → ⊥) → recorded l parents m s ≡ s
        unfolding recorded used
        stays l parents m s n =
            let f = use_expr (sheet_at t) (way parents) x.statement l m (tree_of t row) in
            ap (λ (v : State). guarded (record_used l parents m) (f v)) (guarded-stays s n (bind l))
            ∙ ap (λ (v : State). guarded (record_used l parents m) v) ((steady_use t x.levels parents x.statement l m (tree_of t row)).stays s n)
            ∙ guarded-stays s n (record_used l parents m)

        whole_is : (parents : List Scope) (m : Mods) (s : State) → recorded (names parents) parents m s ≡ expr_step t call row x parents m s
        whole_is parents m s = go (fault_cases s.run.fault)
          where
            go : (s.run.fault ≡ sound) ⊎ (s.run.fault ≡ sound → ⊥) → recorded (names parents) parents m s ≡ expr_step t call row x parents m s
            go (inl e) = does parents m s e which ∙ sym (guarded-sound _ s e)
            go (inr n) = stays (names parents) parents m s n ∙ sym (guarded-stays s n _)

        module _ (m : Mods) (stands : Stands t x m) (parents : List Scope) (s : State) (o : Outer outer parents) (a : Agree t spans p firsts work s) where
          begun : Agree t spans q firsts work (guarded (bind (names parents)) s)
          begun = binds parents s o a

          around_it : Surrounds t inner parents (guarded (bind (names parents)) s)
          around_it = around parents _ o begun

          after_use : Agree t spans u.progress firsts' work' (used (names parents) parents m s)
          unfolding used
          after_use = (uses.runs m stands (names parents) (hold parents o)).agrees parents spans _ around_it begun

          ends : Agree t spans r firsts' work'' (recorded (names parents) parents m s)
          unfolding recorded record_used used
          ends = go (bool_cases (is_sound u.progress.fault))
            where
              go : (is_sound u.progress.fault ≡ true) ⊎ (is_sound u.progress.fault ≡ false)
                  → Agree t spans r firsts' work'' (guarded (record_used (names parents) parents m) (used (names parents) parents m s))
              go (inl b) =
                  let v = used (names parents) parents m s in
                  let all = all_used (sheet_at t) (way parents) (names parents) m (tree_of t row) v in
                  let h = uses.names m stands (names parents) (hold parents o) b parents spans _ around_it begun in
                  subst (Agree t spans r firsts' work'')
                  (if_same v.run.fault (record_each x.statement (names parents) (λ y. all)) (record_used (names parents) parents m) v refl)
                  ((each t (names parents) all firsts' (hold parents o) h).agrees spans v after_use)
              go (inr b) =
                  let v = used (names parents) parents m s in
                  let faulty : v.run.fault ≡ sound → ⊥ = λ e. not_sound u.progress.fault b (after_use.fault ∙ e) in
                  let f = record_each x.statement (names parents) (λ y. members u.names.words) in
                  subst (Agree t spans r firsts' work'') (guarded-stays v faulty f ∙ sym (guarded-stays v faulty (record_used (names parents) parents m)))
                  ((each t (names parents) (members u.names.words) firsts' (hold parents o) (members-held u.names)).agrees spans v after_use)

        pub use_does : DoesStep t (expr_step t call row x) outer spans x p firsts work r firsts' work''
        use_does m stands =
            let ps = asks.under.at.parents in
            let h = hold ps asks.under.beneath in
            record {
              grown = grown_then t p q r work work work'' bound-grown
                  (grown_then t q u.progress r work work' work'' (uses.runs m stands (names ps) h).grown
                  (each t (names ps) (members u.names.words) firsts' h (members-held u.names)).grown);
              agrees = λ parents s o a. subst (Agree t spans r firsts' work'') (whole_is parents m s) (ends m stands parents s o a);
            }

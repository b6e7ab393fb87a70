-- A part of a some-in pattern that is no variable.
use mathlib.Core.Path.{◌≡◌, refl, sym, ap₂, ◌∙◌, subst}
use mathlib.Core.Bool.{Bool, true, false, cond, ◌&&◌}
use mathlib.Core.List.{List, [], ◌∷◌, ◌++◌}
use mathlib.Core.Logic.{◌⊎◌, inl, inr}
use Prim.Native.Nat.{ℕ, suc, ◌+◌, ◌≤◌}
use native.Mathlib.Omega.{arith}
use lib.Dec.{ltb}
use lib.ListN.{length}
use borrow.Author.Tests.{lt-ltb, le-ltb}
use Rattle.base.specs.Limits as limits
use Rattle.base.proofs.Laws.Truth.{bool_cases}
use Rattle.names.specs.Inner.Sets.{Empty}
use Rattle.names.specs.Inner.Names.{Names}
use Rattle.order.specs.Definitions.{Definition}
use Rattle.scope.specs.Trees.{Tree}
use Rattle.scope.specs.Traverse.{comprs}
use Rattle.scope.specs.Scopes.{Scope}
use Rattle.definition.specs.Uses.{index_definitions}
use Rattle.definition.specs.States.{sound, index_variable, State}
use Rattle.definition.specs.Using.{gather_used_vars}
use Rattle.definition.specs.Comprs.{Mods, process_comprs}
use Rattle.definition.specs.SomeIn.{fail_if_some, process_non_var}
use Rattle.definition_room.specs.Inner.Sizes.{total}
use Rattle.definition_room.specs.Inner.Leaves.{bracket_vars}
use Rattle.definition_room.proofs.Laws.Adds.{AddsDefinitions, step_if, adds_no_definition, adds_fail}
use Rattle.scope_walk.specs.Inner.Sheets.{sheet_at, Accepted}
use Rattle.scope_walk.specs.Inner.Exprs.{expr_by}
use Rattle.definition_expr.specs.declared.Using.{Using}
use Rattle.definition_expr.specs.Inner.UsesVars.{UsesVars}
use Rattle.definition_expr.proofs.Laws.UsesMods.{holds-none}
use Rattle.definition_comprs.specs.Inner.Lists.{most_listed, both_at, ListsBoth}
use Rattle.definition_literal.specs.declared.context.Context.{Context}
use Rattle.definition_state.specs.declared.Fault.TheVariants.{IndexVariable}
use Rattle.definition_state.specs.declared.Progress.{Progress}
use Rattle.definition_state.specs.Inner.Faults.{is_sound}
use Rattle.definition_state.specs.Inner.Frames.{failed, guarded, Agree, Runs, Ready}
use Rattle.definition_state.proofs.Laws.Steps.{agree_sound, failed-agrees, not_sound, ready_less}
use Rattle.definition_steps.proofs.Laws.Guards.{fault_cases, guarded-sound, guarded-stays, comprs_stay}
use Rattle.definition_steps.proofs.Laws.Same.{SameScope, same_refl, same_index}
use Rattle.definition_steps.proofs.Laws.Keeps.{keeps_guarded, keeps_fail, keeps_gather_used_vars}
use Rattle.definition_cycle.specs.Inner.Sites.{way_by, Inside, RunsIn}
use Rattle.definition_cycle.specs.Inner.Asks.{other_at, AsksComprs, AsksExpr}
use Rattle.definition_cycle.specs.Inner.Does.{DoesComprs, DoesOthers}
use Rattle.definition_cycle.proofs.Laws.ComprRows.{at_lies}
use Rattle.definition_cycle.proofs.Laws.ComprLists.{both-asks}
use Rattle.definition_cycle.proofs.Laws.Moves.{Steady, at_ready, inside-next, runs_in, runs_in_then, runs_in_as}
use Rattle.definition_cycle.proofs.Laws.Steadies.{steady_then, steady_gather}
use Rattle.definition_cycle.proofs.Laws.Patterns.{other-is}

module _ (t : List ℕ) where
  -- ---- the first two steps

  -- 14, where the brackets of e define something.
  abbrev fail_some : ℕ → Tree → State → State
  fail_some i e s = fail_if_some (index_definitions (sheet_at t) s.scope [] i e) s

  abbrev use_or_fail : ℕ → Tree → State → State
  use_or_fail i e s = guarded (fail_some i e) (guarded (gather_used_vars (sheet_at t) i [] e) s)

  module _ (levels i : ℕ) (e : Tree) where
    steady_fail : Steady t 0 (guarded (fail_some i e))
    steady_fail = record {
      below = suc i;
      adds = λ s. step_if (sheet_at t) (fail_some i e) (λ u. more u (index_definitions (sheet_at t) u.scope [] i e)) s.run.fault s;
      keeps = keeps_guarded (fail_some i e) (λ u. same u (index_definitions (sheet_at t) u.scope [] i e));
      stays = λ s h. guarded-stays s h (fail_some i e);
    }
      where
        more : (u : State) (defs : List Definition) → AddsDefinitions (sheet_at t) (suc i) 0 u (fail_if_some defs u)
        more u [] = adds_no_definition (sheet_at t) u
        more u (d ∷ defs) = adds_fail (sheet_at t) index_variable u

        same : (u : State) (defs : List Definition) → SameScope u.scope (fail_if_some defs u).scope
        same u [] = same_refl u.scope
        same u (d ∷ defs) = keeps_fail index_variable u

    steady_first : Steady t (bracket_vars e + 0) (use_or_fail i e)
    steady_first =
        steady_then t levels (bracket_vars e) 0 (guarded (gather_used_vars (sheet_at t) i [] e)) (guarded (fail_some i e)) (steady_gather t levels i [] e) steady_fail

  module _ (row : ℕ) (extras : Names) (clear : Empty extras.words) (i : ℕ) (p : Progress) (firsts work : List ℕ) (u : Using) (fs ws : List ℕ)
      (uses : UsesVars t extras i row false p firsts work u fs ws) where
    abbrev e : Tree
    e = expr_by t false row

    abbrev after : Progress → Progress
    after v = cond (is_sound v.fault && ltb p.count v.count) (failed v IndexVariable) v

    kept-count : (b : Bool) (v : Progress) → (cond b (failed v IndexVariable) v).count ≡ v.count
    kept-count true v = refl
    kept-count false v = refl

    kept-width : (b : Bool) (v : Progress) → (cond b (failed v IndexVariable) v).width ≡ v.width
    kept-width true v = refl
    kept-width false v = refl

    module _ (spans : List ℕ) (s : State) (a : Agree t spans p firsts work s) where
      used : State
      used = guarded (gather_used_vars (sheet_at t) i [] e) s

      abbrev v : Progress
      v = u.progress

      used-agrees : Agree t spans v fs ws used
      unfolding used
      used-agrees = (uses.runs [] (holds-none extras clear)).agrees spans s a

      -- What the brackets define is the same before and after.
      same-defined : index_definitions (sheet_at t) used.scope [] i e ≡ index_definitions (sheet_at t) s.scope [] i e
      unfolding used
      same-defined =
          same_index (keeps_guarded (gather_used_vars (sheet_at t) i [] e) (keeps_gather_used_vars (sheet_at t) i [] e) s) (sheet_at t) [] i e

      by_count : (fine : is_sound v.fault ≡ true) (defs : List Definition) → v.count ≡ p.count + length defs
          → Agree t spans (cond (true && ltb p.count v.count) (failed v IndexVariable) v) fs ws (fail_if_some defs used)
      by_count fine [] n = rw (le-ltb p.count v.count (omega arith)) used-agrees
      by_count fine (d ∷ defs) n =
          rw (lt-ltb p.count v.count (omega arith)) (failed-agrees t spans v fs ws used used-agrees IndexVariable)

      fails_agree : Agree t spans (after v) fs ws (guarded (fail_some i e) used)
      fails_agree = go (bool_cases (is_sound v.fault))
        where
          go : (is_sound v.fault ≡ true) ⊎ (is_sound v.fault ≡ false) → Agree t spans (after v) fs ws (guarded (fail_some i e) used)
          go (inl fine) =
              rw (fine, guarded-sound (fail_some i e) used (agree_sound t spans v fs ws used used-agrees fine), same-defined)
              (by_count fine (index_definitions (sheet_at t) s.scope [] i e) (uses.recorded [] (holds-none extras clear) spans s a fine))
          go (inr n) =
              rw (n, guarded-stays used (λ z. not_sound v.fault n (used-agrees.fault ∙ z)) (fail_some i e)) used-agrees

    pub use_or_fail_lem : (q : Progress) → q ≡ after u.progress → Runs t (use_or_fail i e) p firsts work q fs ws
    unfolding used
    use_or_fail_lem q is =
        let h = (uses.runs [] (holds-none extras clear)).grown in
        rw is (record {
          grown = record {
            long = h.long;
            up = omega (arith, h.up, kept-count (is_sound u.progress.fault && ltb p.count u.progress.count) u.progress);
            wide = kept-width (is_sound u.progress.fault && ltb p.count u.progress.count) u.progress ∙ h.wide;
            before = h.before;
          };
          agrees = λ spans s a. fails_agree spans s a;
        })

  -- ---- the comprehensions

  module _ (levels : ℕ) (parents : List Scope) where
    guarded-comprs : (cs : List Tree) (s : State) → guarded (process_comprs (sheet_at t) (way_by t levels parents) cs) s ≡ process_comprs (sheet_at t) (way_by t levels parents) cs s
    guarded-comprs cs s = go (fault_cases s.run.fault)
      where
        go : (s.run.fault ≡ sound) ⊎ (s.run.fault ≡ sound → ⊥)
            → guarded (process_comprs (sheet_at t) (way_by t levels parents) cs) s ≡ process_comprs (sheet_at t) (way_by t levels parents) cs s
        go (inl z) = guarded-sound (process_comprs (sheet_at t) (way_by t levels parents) cs) s z
        go (inr n) = guarded-stays s n (process_comprs (sheet_at t) (way_by t levels parents) cs) ∙ sym (comprs_stay (sheet_at t) (way_by t levels parents) s n cs)

    non_var_steps : (i : ℕ) (m : Mods) (e : Tree) (s : State)
        → process_comprs (sheet_at t) (way_by t levels parents) (comprs e ++ m.comprs) (use_or_fail i e s)
        ≡ process_non_var (sheet_at t) (way_by t levels parents) i m s e
    unfolding process_non_var
    non_var_steps i m e s = sym (guarded-comprs (comprs e ++ m.comprs) (use_or_fail i e s))

  -- ---- the function

  pub non_var_none : (inner : List ℕ) (row : ℕ) → row ≡ 0 → (x : Context) (p : Progress) (firsts work : List ℕ)
      → DoesOthers t inner (other_at t row) x p firsts work p firsts work
  non_var_none inner row z x p firsts work m stands = rw z (record {
    grown = record { long = refl; up = omega arith; wide = refl; before = λ j l. refl };
    agrees = λ parents spans s o a. a;
  })

  module _ (inner : List ℕ) (row : ℕ) (there : row ≡ 0 → ⊥) (x : Context) (p : Progress) (firsts work : List ℕ) where
    abbrev expr : Tree
    expr = expr_by t false row

    abbrev Given : Type 0
    Given = AsksExpr t inner row 0 x p firsts work (total bracket_vars (other_at t row))

    few : bracket_vars expr + 0 ≤ total bracket_vars (other_at t row)
    few = rw (other-is t row there) (omega arith)

    pub asks_use : Given → Ready t p firsts work (bracket_vars expr)
    asks_use h =
        ready_less t p firsts work (total bracket_vars (other_at t row)) (bracket_vars expr) (omega (arith, few))
        (at_ready t h.inside.spans p firsts work (total bracket_vars (other_at t row)) h.inside.at)

    module _ (extras : Names) (clear : Empty extras.words) (u : Using) (fs ws : List ℕ) (uses : UsesVars t extras x.statement row false p firsts work u fs ws)
        (q : Progress)
        (is : q ≡ cond (is_sound u.progress.fault && ltb p.count u.progress.count) (failed u.progress IndexVariable) u.progress) where
      first : RunsIn t inner (λ parents. use_or_fail x.statement expr) p firsts work q fs ws
      first = runs_in t inner (use_or_fail x.statement expr) p q firsts fs work ws (use_or_fail_lem row extras clear x.statement p firsts work u fs ws uses q is)

      inside-used : Given → Inside t inner q fs ws 0
      inside-used h = inside-next t inner p q firsts fs work ws (total bracket_vars (other_at t row)) (bracket_vars expr + 0) 0
          (λ parents. use_or_fail x.statement expr) (λ parents. steady_first x.levels x.statement expr) (omega (arith, few)) first h.inside

      -- The comprehensions, those of the modifiers with them.
      pub asks-comprs : Given → Accepted t → limits.per_name ≤ length inner → limits.per_name ≤ length fs → (rows : List ℕ) (end : ℕ)
          → ListsBoth t false u.comprs x.mods rows end → most_listed ≤ length rows → AsksComprs t inner rows 0 end q fs ws
      unfolding inside-used
      asks-comprs h ok inner_room firsts_room rows end l rows-room =
          both-asks t false u.comprs x.mods rows end l inner ok inner_room rows-room q fs ws firsts_room (inside-used h)
          (at_lies t false row u.comprs uses.comprs h.inside.at.query h.first-lies) h.mods_lie

      pub non_var_does : (z : Progress) (hs us : List ℕ) → DoesComprs t inner (both_at t false u.comprs x.mods) x.levels q fs ws z hs us
          → DoesOthers t inner (other_at t row) x p firsts work z hs us
      non_var_does z hs us did m stands =
          let all : both_at t false u.comprs x.mods ≡ comprs expr ++ m.comprs =
          ap₂ (λ (a b : List Tree). a ++ b) uses.comprs.same (sym stands.comprs) in
          rw (other-is t row there)
          (runs_in_as t inner _ _ p z firsts hs work us (λ parents s. non_var_steps x.levels parents x.statement m expr s)
          (runs_in_then t inner (bracket_vars expr + 0) (λ parents. use_or_fail x.statement expr)
          (λ parents. process_comprs (sheet_at t) (way_by t x.levels parents) (comprs expr ++ m.comprs)) p q z firsts fs hs work ws us
          (λ parents. steady_first x.levels x.statement expr) first
          (subst (λ (cs : List Tree). DoesComprs t inner cs x.levels q fs ws z hs us) all did)))

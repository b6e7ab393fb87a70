-- One direction of an assignment, as its parts: the first uses are looked at, then the names are recorded.
use mathlib.Core.Path.{◌≡◌, refl, sym, ap, ◌∙◌, subst}
use mathlib.Core.Bool.{Bool, true, false, cond, not}
use mathlib.Core.List.{List, [], ◌∷◌, foldl}
use mathlib.Core.Logic.{◌⊎◌, inl, inr}
use mathlib.Core.Option.{Option, none, some}
use Prim.Native.Nat.{ℕ, max}
use native.Mathlib.Omega.{arith}
use lib.Dec.{eqb}
use Rattle.base.specs.Lists.{filter}
use Rattle.names.specs.Inner.Names.{Names}
use Rattle.base.specs.Sets.{members}
use Rattle.names.specs.Inner.Sets.{Empty}
use Rattle.sheet.specs.declared.Row.{Row}
use Rattle.scope.specs.Trees.{Tree}
use Rattle.scope.specs.Traverse.{leaves, vars}
use Rattle.scope.specs.Scopes as spec
use Rattle.scope.specs.Scopes.{Span, span_in, is_local}
use Rattle.definition.specs.Uses.{assigned_vars, is_before}
use Rattle.definition.specs.States.{Fault, sound, undefined, used_before, lengths, index_variable, State, if_sound, fail, set_run, fail_or}
use Rattle.definition.specs.Using.{used_before_at, check_first_use, check_assigned, record_each}
use Rattle.definition_room.specs.Inner.Leaves.{pattern_vars}
use Rattle.definition_room.proofs.Laws.Adds.{adds_length, step_if}
use Rattle.definition_room.proofs.Laws.Using.{assigned_few, adds_check_assigned}
use Rattle.scope_walk.specs.Inner.Sheets.{sheet_at}
use Rattle.scope_state.specs.Inner.Agrees.{Sets}
use Rattle.scope_walk.specs.Inner.Exprs.{expr_by}
use Rattle.definition_walk.specs.Inner.Own.{Holds}
use Rattle.definition_walk.proofs.Laws.Adds.{adds_holds}
use Rattle.definition_expr.specs.declared.Using.{Using}
use Rattle.definition_state.specs.declared.Progress.{Progress}
use Rattle.definition_state.specs.Inner.Faults.{is_sound}
use Rattle.definition_state.specs.Inner.Frames.{guarded, Agree, Ready}
use Rattle.definition_state.proofs.Laws.Frames.{runs_none, grown_then}
use Rattle.definition_steps.proofs.Laws.Guards.{fault_cases, guarded-sound, guarded-stays}
use Rattle.definition_record.proofs.Laws.Guards.{if_same}
use Rattle.definition_record.specs.Inner.Checks.{AssignedChecked}
use Rattle.definition_walk.specs.Inner.Assigned.{AssignedWalk}
use Rattle.definition_record.specs.Inner.Each.{less_of}
use Rattle.definition_record.specs.Inner.Records.{NamesFit, EachRecorded}
use Rattle.definition_cycle.proofs.Laws.Witnesses.{is-sound, members-held, kept_scope, sets_of}
use Rattle.definition_cycle.specs.Inner.OneWay.{CheckedAssigned, Assigns}

-- ---- the question after first uses

-- Where it ends without a fault, nothing has changed.
module _ (s : State) (w : Row) where
  answer-same : (o : Option Span) → (fail_or (used_before_at o w) (λ u. u) s).run.fault ≡ sound → fail_or (used_before_at o w) (λ u. u) s ≡ s
  unfolding fail set_run
  answer-same none e = refl
  answer-same (some p) e = go (is_before (some p) w) e
    where
      go : (b : Bool) → (fail_or (cond b (some (used_before p.line p.col)) none) (λ u. u) s).run.fault ≡ sound
          → fail_or (cond b (some (used_before p.line p.col)) none) (λ u. u) s ≡ s
      go true e = let z : ◌≡◌ {A = ℕ} 0 1 = cc in absurd (omega arith)
      go false e = refl

-- So too for steps that are not done at a fault.
guarded-same : (f : State → State) (s : State) → ((f s).run.fault ≡ sound → f s ≡ s) → (guarded f s).run.fault ≡ sound → guarded f s ≡ s
guarded-same f s same e = go (fault_cases s.run.fault)
  where
    go : (s.run.fault ≡ sound) ⊎ (s.run.fault ≡ sound → ⊥) → guarded f s ≡ s
    go (inl z) =
        let does = guarded-sound f s z in
        does ∙ same (ap (λ (u : State). u.run.fault) (sym does) ∙ e)
    go (inr n) = guarded-stays s n f

check_same : (s : State) (w : Row) → (check_first_use s w).run.fault ≡ sound → check_first_use s w ≡ s
unfolding check_first_use
check_same s w e =
    guarded-same (fail_or (used_before_at (span_in s.first_uses w.name) w) (λ u. u)) s (answer-same s w (span_in s.first_uses w.name)) e

checks_same : (ws : List Row) (s : State) → (foldl check_first_use s ws).run.fault ≡ sound → foldl check_first_use s ws ≡ s
checks_same [] s e = refl
checks_same (w ∷ ws) s e =
    let h = checks_same ws (check_first_use s w) e in
    h ∙ check_same s w (ap (λ (u : State). u.run.fault) (sym h) ∙ e)

module _ (check : Bool) (e : Tree) where
  asked-same : (s : State) → (check_assigned check e s).run.fault ≡ sound → check_assigned check e s ≡ s
  unfolding check_assigned
  asked-same s = go check
    where
      asked : State
      asked = foldl check_first_use s (filter (λ w. is_local s.scope w.name) (vars (leaves e)))

      go : (b : Bool) → (cond b asked s).run.fault ≡ sound → cond b asked s ≡ s
      go true z = checks_same (filter (λ w. is_local s.scope w.name) (vars (leaves e))) s z
      go false z = refl

  pub checked_same : (s : State) → (guarded (check_assigned check e) s).run.fault ≡ sound → guarded (check_assigned check e) s ≡ s
  checked_same s = guarded-same (check_assigned check e) s (asked-same s)

-- ---- `checked`

module _ (t : List ℕ) (row : ℕ) (check : Bool) (p : Progress) (fs : List ℕ) where
  pub checked_asked : check ≡ true → (r : Progress) → AssignedChecked t row false p fs r → CheckedAssigned t row check p fs r
  checked_asked e r h = rw e h

  pub checked_passed : check ≡ false → CheckedAssigned t row check p fs p
  unfolding check_assigned
  checked_passed e work = rw e (runs_none t _ (λ s. go s.run.fault s) p fs work)
    where
      go : (q : Fault) (s : State) → if_sound q (check_assigned false (expr_by t false row)) s ≡ s
      go sound s = refl
      go (undefined l c) s = refl
      go (used_before l c) s = refl
      go (lengths l c) s = refl
      go index_variable s = refl

-- ---- `assign`

module _ (t : List ℕ) (row : ℕ) (check : Bool) (u : Using) (fs w : List ℕ) (q : Progress) (asked : CheckedAssigned t row check u.progress fs q)
    (none vars : Names) (clear : Empty none.words) (gathered : AssignedWalk t q.scope row false none vars) where
  abbrev target : Tree
  target = expr_by t false row

  -- The names are those that the target assigns, for every scope that the code's is.
  assigned_held : (sc : spec.Scope) → Sets q.scope sc → Holds vars (assigned_vars sc target)
  assigned_held sc h = adds_holds none vars (assigned_vars sc target) clear (gathered sc h)

  -- There is room for them.
  pub assign_fits : Ready t u.progress fs w (max 1 (pattern_vars target)) → NamesFit 1 vars q w
  assign_fits h =
      let sc = kept_scope q.scope in
      let a = (asked w).agrees h.spans h.state h.agrees in
      let same = adds_length (sheet_at t)
      (step_if (sheet_at t) {k = 0} (check_assigned check target) (adds_check_assigned (sheet_at t) check target) h.state.run.fault h.state) in
      record {
        list = assigned_vars sc target;
        holds = assigned_held sc (sets_of q.scope);
        low = rw (asked w).grown.wide (omega (arith, h.room, a.count, same.1, assigned_few sc target));
      }

  pub assigns : (i : ℕ) (r : Progress) (w' : List ℕ) → EachRecorded i vars u.names true q w r w' → Assigns t target check i u fs w r w'
  assigns i r w' recorded used holds = record {
    grown = grown_then t u.progress q r w w w' (asked w).grown
        (recorded t (members vars.words) (members u.names.words) fs (members-held vars) (members-held u.names)).grown;
    agrees = λ spans s a. go spans s a (fault_cases (after s).run.fault);
  }
    where
      after : State → State
      after s = guarded (check_assigned check target) s

      lastly : State → State
      lastly s = record_each i (assigned_vars s.scope target) (λ x. filter (λ y. not (eqb y x)) used) s

      go : (spans : List ℕ) (s : State) → Agree t spans u.progress fs w s → ((after s).run.fault ≡ sound) ⊎ ((after s).run.fault ≡ sound → ⊥)
          → Agree t spans r fs w' (guarded lastly (after s))
      go spans s a (inl e) =
          let b = (asked w).agrees spans s a in
          let fine : is_sound u.progress.fault ≡ true =
          is-sound u.progress.fault (a.fault ∙ ap (λ (v : State). v.run.fault) (sym (checked_same check target s e)) ∙ e) in
          let names = assigned_vars (after s).scope target in
          let c = (recorded t names used fs (assigned_held (after s).scope (b.whole e).scope.sets) (holds fine)).agrees spans (after s) b in
          subst (Agree t spans r fs w') (if_same (after s).run.fault (record_each i names (λ x. less_of true used x)) lastly (after s) refl) c
      go spans s a (inr n) =
          let b = (asked w).agrees spans s a in
          let xs = members vars.words in
          let us = members u.names.words in
          let c = (recorded t xs us fs (members-held vars) (members-held u.names)).agrees spans (after s) b in
          subst (Agree t spans r fs w')
          (guarded-stays (after s) n (record_each i xs (λ x. less_of true us x)) ∙ sym (guarded-stays (after s) n lastly)) c

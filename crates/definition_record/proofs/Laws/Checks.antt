-- Laws of `Checks`.
use mathlib.Core.Path.{◌≡◌, refl, sym, ap, ◌∙◌, subst}
use mathlib.Core.Bool.{Bool, true, false, cond}
use mathlib.Core.List.{List, [], ◌∷◌, ◌++◌, foldl}
use mathlib.Core.Logic.{◌⊎◌, inl, inr}
use mathlib.Core.Option.{Option, none, some}
use Prim.Native.Nat.{ℕ, ◌≤◌}
use borrow.Author.Tests.{eq-eqb}
use Rattle.base.proofs.Laws.Truth.{bool_cases}
use Rattle.base.specs.Lists.{filter}
use Rattle.base.specs.Sets.{member}
use Rattle.sheet.specs.declared.Row.{Row}
use Rattle.sheet.specs.Inner.Sheet.{row_at}
use Rattle.sheet.specs.Kinds.{is_var}
use Rattle.scope.specs.Trees.{Tree, row_of}
use Rattle.scope.specs.Traverse.{leaves, vars}
use Rattle.scope.specs.Scopes as spec
use Rattle.scope.specs.Scopes.{span_in, is_local}
use Rattle.definition.specs.States as state
use Rattle.definition.specs.States.{State, sound, if_sound, fail, set_run, fail_or}
use Rattle.definition.specs.Using.{used_before_at, check_first_use, check_assigned}
use Rattle.scope_walk.specs.Inner.Sheets.{Accepted, expr_count}
use Rattle.scope_walk.proofs.Laws.Exprs.{row_is}
use Rattle.scope_walk.specs.Inner.Exprs.{expr_by}
use Rattle.scope_vars.proofs.Laws.Inputs.{fold-vars}
use Rattle.scope_state.specs.Inner.Chains.{chain_at}
use Rattle.scope_state.proofs.Laws.Chains.{chain-none, chain-row}
use Rattle.scope_walk.proofs.Laws.Walking.{LeavesWalk, walked_none, walked-turn}
use Rattle.scope_walk.proofs.Laws.Patterns.{PatternTurn}
use Rattle.definition_state.specs.declared.Progress.{Progress}
use Rattle.definition_state.specs.Inner.Frames.{guarded, Agree}
use Rattle.definition_state.proofs.Laws.Frames.{runs_then, runs_none}
use Rattle.definition_record.proofs.Laws.Guards.{guard_cases, runs_as}
use Rattle.definition_record.specs.Inner.FirstUse.{UseChecked}
use Rattle.definition_record.specs.Inner.Checks.{VarChecked, VarsChecked, LeafChecked, leaf_check, Checks, AssignedChecked}

module _ (w : Row) (p : Progress) (fs : List ℕ) where
  pub var_checked : w.kind ≡ 6 → (r : Progress) → UseChecked w p fs r → VarChecked w p fs r
  var_checked e r h t work = rw (eq-eqb w.kind 6 e) (h t work)

  pub var-other : is_var w ≡ false → VarChecked w p fs p
  var-other e t work = runs_none t _ (λ s. rw e) p fs work

module _ (t : List ℕ) where
  module _ (ok : Accepted t) (row : ℕ) where
    pub vars-none : row ≡ 0 → (p : Progress) (fs : List ℕ) → VarsChecked t row p fs p
    vars-none z p fs work = runs_none t _ (λ s. rw (z, chain-none t ok)) p fs work

    module _ (some : row ≡ 0 → ⊥) (high : row ≤ expr_count t) where
      abbrev step : State → Tree → State
      step s e = cond (is_var (row_of e)) (check_first_use s (row_of e)) s

      in_turn_lem : (s : State)
          → foldl check_first_use (step s (expr_by t false row)) (vars (chain_at t (row_at t row).next)) ≡ foldl check_first_use s (vars (chain_at t row))
      in_turn_lem s =
          sym (ap (λ (es : List Tree). foldl check_first_use s (vars es)) (chain-row t ok row some high)
          ∙ fold-vars check_first_use s (expr_by t false row ∷ chain_at t (row_at t row).next)
          ∙ sym (fold-vars check_first_use (step s (expr_by t false row)) (chain_at t (row_at t row).next)))

      pub vars-row : (w : Row) → w ≡ row_at t row → (next : ℕ) → next ≡ cond true w.next 0 → (fs : List ℕ) (p q r : Progress)
          → VarChecked w p fs q → VarsChecked t next q fs r → VarsChecked t row p fs r
      vars-row w is next ns fs p q r h₀ h₁ work =
          let after : next ≡ (row_at t row).next = ns ∙ ap (λ (v : Row). v.next) is in
          let here : w ≡ row_of (expr_by t false row) = is ∙ sym (row_is t ok row some high false) in
          runs_as t _ _ p fs work r fs work (λ s. rw (after, here) (in_turn_lem s)) (runs_then t _ _ p q r fs fs fs work work work (h₀ t work) (h₁ work))

-- ---- faults and the scope

-- After a fault a question does nothing.
stops : (s : State) → ((f : State → State) (u : State) → if_sound s.run.fault f u ≡ u) → (w : Row) → check_first_use s w ≡ s
unfolding check_first_use
stops s stop w = stop _ s

fold-stops : (s : State) → ((w : Row) → check_first_use s w ≡ s) → (ws : List Row) → foldl check_first_use s ws ≡ s
fold-stops s stop [] = refl
fold-stops s stop (w ∷ ws) = ap (λ (u : State). foldl check_first_use u ws) (stop w) ∙ fold-stops s stop ws

-- The scope stays.
answer-scope : (q : state.Fault) (o : Option state.Fault) (s : State) → (if_sound q (fail_or o (λ t. t)) s).scope ≡ s.scope
unfolding fail set_run
answer-scope state.sound none s = refl
answer-scope state.sound (some e) s = refl
answer-scope (state.undefined l c) o s = refl
answer-scope (state.used_before l c) o s = refl
answer-scope (state.lengths l c) o s = refl
answer-scope state.index_variable o s = refl

check_scope : (s : State) (w : Row) → (check_first_use s w).scope ≡ s.scope
unfolding check_first_use
check_scope s w = answer-scope s.run.fault (used_before_at (span_in s.first_uses w.name) w) s

pub checked_still : (w : Row) (fs : List ℕ) → is_var w ≡ false → (p : Progress) → LeafChecked w p fs p
checked_still w fs e p t work = runs_none t _ (λ s. rw e) p fs work

module _ (w : Row) (p : Progress) (fs : List ℕ) where
  module _ (v : w.kind ≡ 6) (b : Bool) (is : b ≡ member p.scope.locals.words w.name) where
    leaf_is : (t spans work : List ℕ) (s : State) → Agree t spans p fs work s → leaf_check s w ≡ cond b (check_first_use s w) s
    leaf_is t spans work s h = rw (eq-eqb w.kind 6 v) (go (guard_cases s.run.fault))
      where
        same : (c d : Bool) → check_first_use s w ≡ s → cond c (check_first_use s w) s ≡ cond d (check_first_use s w) s
        same true true e = refl
        same true false e = e
        same false true e = sym e
        same false false e = refl

        go : (s.run.fault ≡ sound) ⊎ ((f : State → State) (u : State) → if_sound s.run.fault f u ≡ u)
            → cond (is_local s.scope w.name) (check_first_use s w) s ≡ cond b (check_first_use s w) s
        go (inl e) = ap (λ (c : Bool). cond c (check_first_use s w) s) ((h.whole e).scope.sets.locals w.name ∙ sym is)
        go (inr stop) = same (is_local s.scope w.name) b (stops s stop w)

    pub leaf_local : b ≡ true → (r : Progress) → UseChecked w p fs r → LeafChecked w p fs r
    leaf_local e r h t work = record {
      grown = (h t work).grown;
      agrees = λ spans s a. subst (Agree t spans r fs work) (sym (leaf_is t spans work s a ∙ rw e)) ((h t work).agrees spans s a);
    }

    pub checked_foreign : b ≡ false → LeafChecked w p fs p
    checked_foreign e t work = record {
      grown = (runs_none t (λ s. s) (λ s. refl) p fs work).grown;
      agrees = λ spans s a. subst (Agree t spans p fs work) (sym (leaf_is t spans work s a ∙ rw e)) a;
    }

-- ---- the pattern

-- The questions at the leaves are those that the definitions ask of the scope at the start.
abbrev SameAsked : spec.Scope → List Tree → State → Type 0
SameAsked sc ts s =
    foldl (λ (u : State) (e : Tree). leaf_check u (row_of e)) s ts ≡ foldl check_first_use s (filter (λ (w : Row). is_local sc w.name) (vars ts))

leaf_fold : (sc : spec.Scope) (s : State) (ts : List Tree) → s.scope ≡ sc → SameAsked sc ts s
leaf_fold sc s [] e = refl
leaf_fold sc s (x ∷ ts) e =
    go (is_var (row_of x)) (bool_cases (is_local sc (row_of x).name)) (leaf_fold sc s ts e)
    (leaf_fold sc (check_first_use s (row_of x)) ts (check_scope s (row_of x) ∙ e))
  where
    go : (v : Bool) → (is_local sc (row_of x).name ≡ true) ⊎ (is_local sc (row_of x).name ≡ false) → SameAsked sc ts s → SameAsked sc ts (check_first_use s (row_of x))
        → foldl (λ (u : State) (e : Tree). leaf_check u (row_of e)) (cond v (cond (is_local s.scope (row_of x).name) (check_first_use s (row_of x)) s) s) ts
        ≡ foldl check_first_use s (filter (λ (w : Row). is_local sc w.name) (cond v (row_of x ∷ []) [] ++ vars ts))
    go false h passed asked = passed
    go true (inl h) passed asked = rw (ap (λ (c : spec.Scope). is_local c (row_of x).name) e ∙ h, h) asked
    go true (inr h) passed asked = rw (ap (λ (c : spec.Scope). is_local c (row_of x).name) e ∙ h, h) passed

assigned_is : (x : Tree) (s : State) → foldl (λ (u : State) (e : Tree). leaf_check u (row_of e)) s (leaves x) ≡ guarded (check_assigned true x) s
unfolding check_assigned
assigned_is x s = leaf_fold s.scope s (leaves x) refl ∙ go (guard_cases s.run.fault)
  where
    go : (s.run.fault ≡ sound) ⊎ ((f : State → State) (u : State) → if_sound s.run.fault f u ≡ u)
        → foldl check_first_use s (filter (λ w. is_local s.scope w.name) (vars (leaves x))) ≡ guarded (check_assigned true x) s
    go (inl e) = rw e
    go (inr stop) = fold-stops s (stops s stop) (filter (λ w. is_local s.scope w.name) (vars (leaves x))) ∙ sym (stop (check_assigned true x) s)

module _ (t : List ℕ) where
  module _ (fs : List ℕ) where
    abbrev Does : (State → State) → Progress → Progress → Type 0
    Does f p r = Checks t f p fs r

    does_as : (f g : State → State) (p r : Progress) → ((s : State) → f s ≡ g s) → Does f p r → Does g p r
    does_as f g p r same h work = runs_as t f g p fs work r fs work same (h work)

    does_none : (p : Progress) → Does (λ s. s) p p
    does_none p work = runs_none t (λ s. s) (λ s. refl) p fs work

    does_then : (f g : State → State) (p q r : Progress) → Does f p q → Does g q r → Does (λ s. g (f s)) p r
    does_then f g p q r h k work = runs_then t f g p q r fs fs fs work work work (h work) (k work)

    others : (s : State) (w : Row) → is_var w ≡ false → leaf_check s w ≡ s
    others s w e = rw e

    abbrev Walks : ℕ → Bool → Progress → Progress → Type 0
    Walks = LeavesWalk t Does does_as does_none does_then leaf_check others

    to-walk : (row : ℕ) (rest : Bool) (p r : Progress) → AssignedChecked t row rest p fs r → Walks row rest p r
    to-walk row rest p r h = does_as _ _ p r (λ s. sym (assigned_is (expr_by t rest row) s)) h

    from-walk : (row : ℕ) (rest : Bool) (p r : Progress) → Walks row rest p r → AssignedChecked t row rest p fs r
    from-walk row rest p r h = does_as _ _ p r (λ s. assigned_is (expr_by t rest row) s) h

    abbrev pub CheckedTurn : Row → Progress → Progress → Type 0
    CheckedTurn w = PatternTurn (λ p q. LeafChecked w p fs q) (λ n p q. AssignedChecked t n true p fs q) w

    module _ (ok : Accepted t) where
      pub checked_none : (row : ℕ) → row ≡ 0 → (rest : Bool) (p : Progress) → AssignedChecked t row rest p fs p
      checked_none row z rest p = from-walk row rest p p (walked_none t Does does_as does_none does_then leaf_check others ok row z rest p)

      -- The match of a row, with the walk over the rest of its chain.
      pub checked_turn : (row : ℕ) → (row ≡ 0 → ⊥) → row ≤ expr_count t → (rest : Bool) (w : Row) → w ≡ row_at t row
          → (next : ℕ) → next ≡ cond rest w.next 0 → (p q r : Progress) → CheckedTurn w p q → AssignedChecked t next true q fs r → AssignedChecked t row rest p fs r
      checked_turn row ne high rest w is next n p q r turn on =
          from-walk row rest p r
          (walked-turn t Does does_as does_none does_then leaf_check others ok row ne high rest w is _ refl next n p turn.own q r
          (turn.step t) (to-walk _ true turn.own q turn.parts) (to-walk next true q r on))

-- Laws of `Assigned`.
use mathlib.Core.Path.{◌≡◌, sym, subst, refl, ◌∙◌}
use mathlib.Core.Bool.{Bool, true, false, cond}
use mathlib.Core.List.{List, foldl}
use Prim.Native.Nat.{ℕ, ◌≤◌, ◌<◌}
use lib.ListN.{length, set}
use borrow.Author.Tests.{eq-eqb}
use Rattle.sheet.specs.declared.Row.{Row}
use Rattle.sheet.specs.Inner.Sheet.{row_at}
use Rattle.sheet.specs.Sheet.{is_input, is_special}
use Rattle.sheet.specs.Kinds.{is_var}
use Rattle.scope.specs.Trees.{Tree, row_of}
use Rattle.scope.specs.Traverse.{leaves}
use Rattle.scope.specs.Scopes as spec
use Rattle.scope.specs.Gather.{assign_var, gather_assigned_vars}
use Rattle.scope_state.specs.declared.Scope.{Scope}
use Rattle.scope_walk.specs.Inner.Sheets.{sheet_at, Accepted, expr_count}
use Rattle.scope_state.specs.Inner.Agrees.{WithLocal, WithUnscoped, WithInput, WithFlag}
use Rattle.scope_state.specs.Inner.Spans.{span_word, Agrees, Steps}
use Rattle.scope_state.proofs.Laws.Spans.{Short, agrees_local, agrees-unscoped, agrees-input, agrees-flag}
use Rattle.scope_state.specs.Inner.Outers.{Exists}
use Rattle.scope_walk.specs.Inner.Exprs.{expr_by}
use Rattle.scope_vars.proofs.Laws.Inputs.{fold-vars}
use Rattle.scope_walk.proofs.Laws.Walking.{LeavesWalk, walked_none, walked-turn}
use Rattle.scope_walk.proofs.Laws.Patterns.{PatternTurn, Lengthwise}
use Rattle.scope_vars.specs.Inner.Assigned.{AssignVar, AssignWalk}

module _ (t outer : List ℕ) where
  -- ---- the ways out of `assign_var`

  module _ (w : Row) (k : Scope) (l : List ℕ) where
    pub var-special : is_special (sheet_at t) w.name ≡ true → (b : Bool) → b ≡ is_input (sheet_at t) w.name → (shadow : Bool) (r : Scope) → WithFlag k b r
        → AssignVar t outer w shadow k l r l
    unfolding assign_var
    var-special p b is shadow r put parents o s a = rw (p, sym is) (agrees-flag k l r s a b put)

    module _ (other : is_special (sheet_at t) w.name ≡ false) (shadow : Bool) where
      pub var_local : shadow ≡ true → Short w → w.name < length l → (r : Scope) → WithLocal k w.name r
          → (m : List ℕ) → m ≡ set l w.name (span_word w) → AssignVar t outer w shadow k l r m
      unfolding assign_var
      var_local p short low r put m is parents o s a = rw (other, p, is) (agrees_local k l r s a w short low put)

      module _ (plain : shadow ≡ false) (found : Bool) (exists : Exists outer w found) (r : Scope) where
        pub var-input : found ≡ true → WithInput k w.name r → AssignVar t outer w shadow k l r l
        unfolding assign_var
        var-input p put parents o s a = rw (other, plain, sym (exists parents o), p) (agrees-input k l r s a w.name put)

        pub var-unscoped : found ≡ false → WithUnscoped k w.name r → AssignVar t outer w shadow k l r l
        unfolding assign_var
        var-unscoped p put parents o s a = rw (other, plain, sym (exists parents o), p) (agrees-unscoped k l r s a w.name put)

  -- ---- a row's turn

  -- What is done at a row: something at a Var alone.
  abbrev AssignStep : Row → Bool → Scope → List ℕ → Scope → List ℕ → Type 0
  AssignStep w shadow = Steps outer (λ parents s. cond (is_var w) (assign_var (sheet_at t) parents shadow s w) s)

  abbrev pub AssignTurn : Row → Bool → Scope × List ℕ → Scope × List ℕ → Type 0
  AssignTurn w shadow = PatternTurn (Lengthwise (AssignStep w shadow)) (λ n. Lengthwise (AssignWalk t outer n true shadow)) w

  module _ (w : Row) (shadow : Bool) where
    pub assign_at_var : w.kind ≡ 6 → (k : Scope) (l : List ℕ) (r : Scope) (m : List ℕ) → AssignVar t outer w shadow k l r m → AssignStep w shadow k l r m
    assign_at_var e k l r m h parents o s a = rw (eq-eqb w.kind 6 e) (h parents o s a)

    pub assign_still : is_var w ≡ false → (k : Scope × List ℕ) → Lengthwise (AssignStep w shadow) k k
    assign_still e k = (λ parents o s a. rw e a, refl)

  -- ---- the walk, a row at a time

  -- A scope and the words of its locals stand for the definitions' scope, before and after.
  abbrev Does : (spec.Scope → spec.Scope) → Scope × List ℕ → Scope × List ℕ → Type 0
  Does f k r = (s : spec.Scope) → Agrees k.0 k.1 s → Agrees r.0 r.1 (f s)

  does_as : (f g : spec.Scope → spec.Scope) (k r : Scope × List ℕ) → ((s : spec.Scope) → f s ≡ g s) → Does f k r → Does g k r
  does_as f g k r same h s a = subst (Agrees r.0 r.1) (same s) (h s a)

  does_none : (k : Scope × List ℕ) → Does (λ s. s) k k
  does_none k s a = a

  does_then : (f g : spec.Scope → spec.Scope) (k m r : Scope × List ℕ) → Does f k m → Does g m r → Does (λ s. g (f s)) k r
  does_then f g k m r h i s a = i (f s) (h s a)

  module _ (shadow : Bool) (parents : List spec.Scope) where
    abbrev step : spec.Scope → Row → spec.Scope
    step s w = cond (is_var w) (assign_var (sheet_at t) parents shadow s w) s

    others : (s : spec.Scope) (w : Row) → is_var w ≡ false → step s w ≡ s
    others s w e = rw e

    abbrev Walks : ℕ → Bool → Scope × List ℕ → Scope × List ℕ → Type 0
    Walks = LeavesWalk t Does does_as does_none does_then step others

    as_walk : (rest : Bool) (row : ℕ) (s : spec.Scope)
        → gather_assigned_vars (sheet_at t) parents shadow (expr_by t rest row) s ≡ foldl (λ (u : spec.Scope) (e : Tree). step u (row_of e)) s (leaves (expr_by t rest row))
    unfolding gather_assigned_vars
    as_walk rest row s = fold-vars (assign_var (sheet_at t) parents shadow) s (leaves (expr_by t rest row))

  pub assign_walk_none : Accepted t → (rest shadow : Bool) (k : Scope) (l : List ℕ) → AssignWalk t outer 0 rest shadow k l k l
  assign_walk_none ok rest shadow k l parents o =
      does_as _ _ (k, l) (k, l) (λ s. sym (as_walk shadow parents rest 0 s))
      (walked_none t Does does_as does_none does_then (step shadow parents) (others shadow parents) ok 0 refl rest (k, l))

  -- With the walk over the rest of its chain, as the code has them.
  pub assign_walk_turn : Accepted t → (row : ℕ) → (row ≡ 0 → ⊥) → row ≤ expr_count t → (rest shadow : Bool) (w : Row) → w ≡ row_at t row
      → (next : ℕ) → next ≡ cond rest w.next 0 → (k a r : Scope × List ℕ) → AssignTurn w shadow k a
      → AssignWalk t outer next true shadow a.0 a.1 r.0 r.1 → AssignWalk t outer row rest shadow k.0 k.1 r.0 r.1
  assign_walk_turn ok row some high rest shadow w is next ns k a r turn on parents o =
      let part : (v : ℕ) (x y : Scope × List ℕ) → AssignWalk t outer v true shadow x.0 x.1 y.0 y.1 → Walks shadow parents v true x y =
      λ v x y h. does_as _ _ x y (λ s. as_walk shadow parents true v s) (h parents o) in
      does_as _ _ k r (λ s. sym (as_walk shadow parents rest row s))
      (walked-turn t Does does_as does_none does_then (step shadow parents) (others shadow parents) ok row some high rest w is _ refl next ns
      k turn.own a r (turn.step.0 parents o) (part _ turn.own a turn.parts.0) (part next a r on))

  pub assign_turn_kept : (shadow : Bool) (w : Row) (k a : Scope × List ℕ) → AssignTurn w shadow k a → length a.1 ≡ length k.1
  assign_turn_kept shadow w k a turn = turn.parts.1 ∙ turn.step.1

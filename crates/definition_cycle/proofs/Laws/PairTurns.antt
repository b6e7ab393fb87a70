-- A pair of an assignment: what one direction does, then the other.
use mathlib.Core.Path.{◌≡◌, refl, sym, ap, ◌∙◌, subst}
use mathlib.Core.Bool.{Bool, false, not}
use mathlib.Core.List.{List, [], ◌∷◌, foldl}
use mathlib.Core.Logic.{◌⊎◌, inl, inr}
use Prim.Native.Nat.{ℕ, zero, suc, ◌+◌, ◌≤◌, max}
use native.Mathlib.Omega.{arith}
use lib.Dec.{eqb}
use Rattle.base.specs.Lists.{filter}
use Rattle.names.specs.Inner.Names.{Names}
use Rattle.base.specs.Sets.{members}
use Rattle.names.specs.Inner.Sets.{Empty}
use Rattle.scope.specs.Trees.{Tree}
use Rattle.scope.specs.Scopes.{Scope}
use Rattle.definition.specs.Uses.{assigned_vars}
use Rattle.definition.specs.States.{sound, State}
use Rattle.definition.specs.Using.{check_assigned, record_each}
use Rattle.definition.specs.Comprs.{Mods, all_used, use_expr}
use Rattle.definition.specs.Exprs.{Pairing, pair, assign_one_way, assign_pairing}
use Rattle.definition_room.specs.Inner.Sizes.{total}
use Rattle.definition_room.specs.Inner.Leaves.{pattern_vars, bracket_vars}
use Rattle.definition_room.specs.Inner.Exprs.{side_cost, pair_cost}
use Rattle.definition_room.proofs.Laws.Exprs.{adds_assign_one_way}
use Rattle.scope_walk.specs.Inner.Sheets.{sheet_at}
use Rattle.scope_walk.specs.Inner.Exprs.{expr_by}
use Rattle.definition_expr.specs.declared.Using.{Using}
use Rattle.definition_expr.proofs.Laws.UsesMods.{holds-none}
use Rattle.definition_literal.specs.declared.context.Context.{Context}
use Rattle.definition_literal.specs.Inner.Contexts.{Stands}
use Rattle.definition_state.specs.declared.Progress.{Progress}
use Rattle.definition_state.specs.Inner.Frames.{guarded, Agree, Ready}
use Rattle.definition_state.proofs.Laws.Frames.{grown_then, runs_none}
use Rattle.definition_steps.proofs.Laws.Guards.{fault_cases, guarded-sound, guarded-stays, turn-stays}
use Rattle.definition_steps.proofs.Laws.KeepsNested.{keeps_assign_one_way}
use Rattle.definition_record.proofs.Laws.Guards.{if_same}
use Rattle.definition_cycle.specs.Inner.Sites.{nested_by, way_by, Inside, RunsIn}
use Rattle.definition_cycle.proofs.Laws.Moves.{Steady, at_ready, inside_less, inside-next, runs_in, runs_in_then, runs_in_as}
use Rattle.definition_cycle.proofs.Laws.Steadies.{steady_fits, steady_use}
use Rattle.definition_cycle.specs.Inner.Asks.{AsksExpr, pair_at}
use Rattle.definition_cycle.specs.Inner.Does.{DoesUse, DoesPairs}
use Rattle.definition_cycle.specs.Inner.OneWay.{assigning, Assigns}
use Rattle.definition_cycle.proofs.Laws.Witnesses.{members-held, some_mods, some_stand}
use Rattle.definition_cycle.proofs.Laws.Assigning.{checked_same}

-- A step that stays at a fault is the same when it is not done there.
guarded-is : (f : State → State) (s : State) → ((s.run.fault ≡ sound → ⊥) → f s ≡ s) → guarded f s ≡ f s
guarded-is f s stays = go (fault_cases s.run.fault)
  where
    go : (s.run.fault ≡ sound) ⊎ (s.run.fault ≡ sound → ⊥) → guarded f s ≡ f s
    go (inl e) = guarded-sound f s e
    go (inr n) = guarded-stays s n f ∙ sym (stays n)

module _ (t : List ℕ) (levels i : ℕ) (m : Mods) (parents : List Scope) where
  abbrev one_way : Bool → Tree → Tree → State → State
  one_way = assign_one_way (sheet_at t) (way_by t levels parents) i m

  module _ (check : Bool) (target source : Tree) where
    abbrev source_used : State → State
    source_used = use_expr (sheet_at t) (way_by t levels parents) i [] m source

    pub steady_one_way : Steady t (bracket_vars source + max 1 (pattern_vars target)) (one_way check target source)
    unfolding assign_one_way
    steady_one_way = record {
      below = suc i;
      adds = adds_assign_one_way (sheet_at t) (nested_by t levels) parents (steady_fits t levels) i m check target source;
      keeps = keeps_assign_one_way (sheet_at t) (nested_by t levels) parents i m check target source;
      stays = λ s n. turn-stays s n
          (source_used
          ∷ check_assigned check target
          ∷ (λ u. record_each i (assigned_vars u.scope target) (λ x. filter (λ y. not (eqb y x)) (all_used (sheet_at t) (way_by t levels parents) [] m source u)) u)
          ∷ []);
    }

    -- The names used are those after the source's use: the question changes no state that it finds no fault in.
    one_way-is : (s : State) → assigning check i target (all_used (sheet_at t) (way_by t levels parents) [] m source (source_used s)) (source_used s) ≡ one_way check target source s
    unfolding assign_one_way
    one_way-is s =
        recorded (source_used s) (fault_cases (asked (source_used s)).run.fault)
        ∙ ap (λ (u : State). guarded lastly (asked u)) (sym (guarded-is source_used s ((steady_use t levels parents i [] m source).stays s)))
      where
        asked : State → State
        asked u = guarded (check_assigned check target) u

        lastly : State → State
        lastly u = record_each i (assigned_vars u.scope target) (λ x. filter (λ y. not (eqb y x)) (all_used (sheet_at t) (way_by t levels parents) [] m source u)) u

        by : State → State → State
        by v u = record_each i (assigned_vars u.scope target) (λ x. filter (λ y. not (eqb y x)) (all_used (sheet_at t) (way_by t levels parents) [] m source v)) u

        recorded : (u : State) → ((asked u).run.fault ≡ sound) ⊎ ((asked u).run.fault ≡ sound → ⊥) → guarded (by u) (asked u) ≡ guarded lastly (asked u)
        recorded u (inl e) = ap (λ (v : State). guarded (by v) (asked u)) (sym (checked_same check target u e)) ∙ same (asked u)
          where
            same : (v : State) → guarded (by v) v ≡ guarded lastly v
            same v = if_same v.run.fault (by v) lastly v refl
        recorded u (inr n) = guarded-stays (asked u) n (by u) ∙ sym (guarded-stays (asked u) n lastly)

module _ (t inner : List ℕ) (none : Names) (clear : Empty none.words) (source : Tree) (x : Context)
    (p : Progress) (fs w : List ℕ) (u : Using) (gs v : List ℕ) (uses : DoesUse t inner none source x p fs w u gs v) where
  -- What a use leaves for the rest.
  pub used-inside : (more k : ℕ) → bracket_vars source + k ≤ more → Inside t inner p fs w more → Inside t inner u.progress gs v k
  used-inside more k l h =
      inside-next t inner p u.progress fs gs w v more (bracket_vars source) k _
      (λ parents. steady_use t x.levels parents x.statement [] (some_mods t x) source) l
      (uses.runs (some_mods t x) (some_stand t x) [] (holds-none none clear)) h

  module _ (check : Bool) (target : Tree) (r : Progress) (w' : List ℕ) (assigned : Assigns t target check x.statement u gs v r w') where
    -- Use and assignment together.
    pub one_way_lem : (m : Mods) → Stands t x m
        → RunsIn t inner (λ parents. assign_one_way (sheet_at t) (way_by t x.levels parents) x.statement m check target source) p fs w r gs w'
    one_way_lem m st = record {
      grown = grown_then t p u.progress r w v w' (uses.runs m st [] (holds-none none clear)).grown
          (assigned (members u.names.words) (λ fine. members-held u.names)).grown;
      agrees = λ parents spans s o a.
          let b = (uses.runs m st [] (holds-none none clear)).agrees parents spans s o a in
          let s₁ = use_expr (sheet_at t) (way_by t x.levels parents) x.statement [] m source s in
          subst (Agree t spans r gs w') (one_way-is t x.levels x.statement m parents check target source s)
          ((assigned (all_used (sheet_at t) (way_by t x.levels parents) [] m source s₁) (λ fine. uses.names m st [] (holds-none none clear) fine parents spans s o a)).agrees spans s₁ b);
    }

-- Nothing is done where there are no pairs.
pub no_pairs : (t inner : List ℕ) (check : Bool) (x : Context) (p : Progress) (fs w : List ℕ) (ps : List Pairing) → ps ≡ []
    → DoesPairs t inner ps check x p fs w p fs w
no_pairs t inner check x p fs w ps z m st = rw z (runs_in t inner (λ s. s) p p fs fs w w (runs_none t (λ s. s) (λ s. refl) p fs w))

-- The pair of two rows, where there is one.
pub pair-at : (t : List ℕ) (l r : ℕ) → (l ≡ 0 → ⊥) → pair_at t l r ≡ pair (expr_by t false l) (expr_by t false r) ∷ []
pair-at t zero r n = absurd (n refl)
pair-at t (suc l) r n = refl

-- ---- `assign_pair`

module _ (t inner : List ℕ) (left right : ℕ) (check : Bool) (x : Context) (p : Progress) (fs w : List ℕ) where
  -- There is none.
  pub pair-none : left ≡ 0 → DoesPairs t inner (pair_at t left right) check x p fs w p fs w
  pair-none z = no_pairs t inner check x p fs w (pair_at t left right) (ap (λ (l : ℕ). pair_at t l right) z)

  module _ (there : left ≡ 0 → ⊥) (asks : AsksExpr t inner left right x p fs w (total pair_cost (pair_at t left right))) where
    abbrev lhs : Tree
    lhs = expr_by t false left

    abbrev rhs : Tree
    rhs = expr_by t false right

    costs : total pair_cost (pair_at t left right) ≡ side_cost lhs + side_cost rhs
    costs = ap (total pair_cost) (pair-at t left right there) ∙ omega arith

    -- The right side is used.
    pub asks_right : AsksExpr t inner right 0 x p fs w (bracket_vars rhs)
    asks_right = record {
      inside = inside_less t inner p fs w _ (bracket_vars rhs) (omega (arith, costs)) asks.inside;
      first-lies = asks.second-lies;
      second-lies = inl refl;
      mods_lie = asks.mods_lie;
      mods-low = asks.mods-low;
    }

    module _ (none : Names) (clear : Empty none.words) (u : Using) (gs v : List ℕ) (uses : DoesUse t inner none rhs x p fs w u gs v) where
      -- The left side is assigned.
      pub ready-left : Ready t u.progress gs v (max 1 (pattern_vars lhs))
      ready-left =
          let h = used-inside t inner none clear rhs x p fs w u gs v uses _ (max 1 (pattern_vars lhs)) (omega (arith, costs)) asks.inside in
          at_ready t h.spans u.progress gs v _ h.at

      module _ (q : Progress) (v' : List ℕ) (assigned : Assigns t lhs check x.statement u gs v q v') where
        abbrev first_way : (m : Mods) → Stands t x m
            → RunsIn t inner (λ parents. assign_one_way (sheet_at t) (way_by t x.levels parents) x.statement m check lhs rhs) p fs w q gs v'
        first_way = one_way_lem t inner none clear rhs x p fs w u gs v uses check lhs q v' assigned

        abbrev inside_then : (k : ℕ) → (bracket_vars rhs + max 1 (pattern_vars lhs)) + k ≤ total pair_cost (pair_at t left right)
            → Inside t inner q gs v' k
        inside_then k l =
            inside-next t inner p q fs gs w v' _ _ k _ (λ parents. steady_one_way t x.levels x.statement (some_mods t x) parents check lhs rhs) l
            (first_way (some_mods t x) (some_stand t x)) asks.inside

        -- The left side is used.
        pub asks-left : AsksExpr t inner left 0 x q gs v' (bracket_vars lhs)
        asks-left = record {
          inside = inside_then (bracket_vars lhs) (omega (arith, costs));
          first-lies = asks.first-lies;
          second-lies = inl refl;
          mods_lie = asks.mods_lie;
          mods-low = asks.mods-low;
        }

        module _ (u' : Using) (hs v'' : List ℕ) (uses' : DoesUse t inner none lhs x q gs v' u' hs v'') where
          -- The right side is assigned.
          pub ready_right : Ready t u'.progress hs v'' (max 1 (pattern_vars rhs))
          ready_right =
              let h =
              used-inside t inner none clear lhs x q gs v' u' hs v'' uses' _ (max 1 (pattern_vars rhs)) (omega arith)
              (inside_then (bracket_vars lhs + max 1 (pattern_vars rhs)) (omega (arith, costs))) in
              at_ready t h.spans u'.progress hs v'' _ h.at

          pub pair_does : (r : Progress) (w' : List ℕ) → Assigns t rhs false x.statement u' hs v'' r w'
              → DoesPairs t inner (pair_at t left right) check x p fs w r hs w'
          unfolding assign_pairing
          pair_does r w' assigned' m st =
              runs_in_as t inner (λ parents s. other parents (way parents s)) _ p r fs hs w w'
              (λ parents s. both parents s ∙ ap (λ (l : List Pairing). foldl (step parents) s l) (sym (pair-at t left right there)))
              (runs_in_then t inner _ way other p q r fs gs hs w v' w' (λ parents. steady_one_way t x.levels x.statement m parents check lhs rhs)
              (first_way m st) (one_way_lem t inner none clear lhs x q gs v' u' hs v'' uses' false rhs r w' assigned' m st))
            where
              way : List Scope → State → State
              way parents = assign_one_way (sheet_at t) (way_by t x.levels parents) x.statement m check lhs rhs

              other : List Scope → State → State
              other parents = assign_one_way (sheet_at t) (way_by t x.levels parents) x.statement m false rhs lhs

              step : List Scope → State → Pairing → State
              step parents = assign_pairing (sheet_at t) (way_by t x.levels parents) x.statement m check

              both : (parents : List Scope) (s : State) → other parents (way parents s) ≡ step parents s (pair lhs rhs)
              both parents s =
                  let a = steady_one_way t x.levels x.statement m parents check lhs rhs in
                  let b = steady_one_way t x.levels x.statement m parents false rhs lhs in
                  sym (ap (λ (u : State). guarded (other parents) u) (guarded-is (way parents) s (a.stays s))
                  ∙ guarded-is (other parents) (way parents s) (b.stays (way parents s)))

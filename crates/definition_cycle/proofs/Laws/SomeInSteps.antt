-- `some .. in ..`: the collection, the names that are bound, and the rest of the pattern.
use mathlib.Core.Path.{◌≡◌, refl, sym, ap, ◌∙◌, subst}
use mathlib.Core.Bool.{true}
use mathlib.Core.List.{List, [], ◌++◌, map, map-map, map-append, foldl, foldl-append}
use mathlib.Core.Logic.{◌⊎◌, inl, inr}
use Prim.Native.Nat.{ℕ, suc, ◌+◌, ◌≤◌, max}
use native.Mathlib.Omega.{arith}
use lib.ListN.{length, length-map}
use Rattle.base.proofs.Laws.Lists.{filter-append}
use Rattle.base.specs.Sets.{members}
use Rattle.names.specs.Inner.Sets.{Empty}
use Rattle.names.specs.Inner.Names.{Names}
use Rattle.sheet.specs.declared.Statement.{Statement}
use Rattle.order.specs.Definitions.{Definition}
use Rattle.sheet.specs.declared.Row.{Row}
use Rattle.scope.specs.Trees.{Tree, tree_at}
use Rattle.scope.specs.Traverse.{vars}
use Rattle.scope.specs.Statements.{literal_of}
use Rattle.base.proofs.Laws.ListLaws.{concat_map-append}
use Rattle.scope.specs.Scopes.{Scope, span_of}
use Rattle.definition.specs.Uses.{name_of, define, add_first_use}
use Rattle.definition.specs.States.{sound, State, add_first_uses, add_definitions}
use Rattle.definition.specs.Using.{record_one}
use Rattle.definition.specs.Comprs.{Mods, all_used, use_expr}
use Rattle.definition.specs.SomeIn.{some_vars_in, non_vars, process_some_in}
use Rattle.definition_room.specs.Inner.Sizes.{total, literal_size}
use Rattle.definition_room.proofs.Laws.Lists.{length-filter}
use Rattle.definition_room.specs.Inner.Leaves.{pattern_vars, bracket_vars}
use Rattle.definition_room.proofs.Laws.Leaves.{vars-append, brackets_fit, leaves-fit}
use Rattle.definition_room.proofs.Laws.Adds.{adds_definitions_then, adds_at_most, step_if, adds_first_uses}
use Rattle.definition_room.proofs.Laws.Comprs.{adds_use_expr}
use Rattle.definition_room.proofs.Laws.SomeIn.{adds_some_vars}
use Rattle.definition_room.proofs.Laws.Lying.{statement-there}
use Rattle.definition_room.proofs.Laws.StatementHomes.{StatementInside, statement-lies}
use Rattle.scope_state.specs.Inner.Agrees.{Sets}
use Rattle.scope_walk.specs.Inner.Sheets.{counts_at, sheet_at, Accepted}
use Rattle.scope_walk.specs.Inner.Exprs.{expr_by}
use Rattle.scope_gather.specs.Inner.Statements.{NamedParts}
use Rattle.scope_gather.proofs.Laws.Queries.{named-at}
use Rattle.definition_walk.specs.Inner.Own.{Holds}
use Rattle.definition_walk.proofs.Laws.Adds as sets
use Rattle.definition_walk.specs.Inner.Firsts.{Firsts}
use Rattle.definition_expr.specs.declared.Using.{Using}
use Rattle.definition_expr.proofs.Laws.UsesMods.{holds-none}
use Rattle.definition_record.specs.Inner.Front.{FitsFront}
use Rattle.definition_record.proofs.Laws.Front.{ready-fits}
use Rattle.definition_record.proofs.Laws.Guards.{if_same}
use Rattle.definition_record.specs.Inner.Records.{NamesFit, OneRecorded, SomeRecorded}
use Rattle.definition_record.proofs.Laws.Records.{ready-names}
use Rattle.definition_record.specs.Inner.SomeVars.{SomeVars, SomeEntered}
use Rattle.definition_literal.specs.declared.context.Context.{Context}
use Rattle.definition_literal.specs.Inner.Contexts.{Stands}
use Rattle.definition_state.specs.declared.Progress.{Progress}
use Rattle.definition_state.specs.Inner.Frames.{guarded, Agree}
use Rattle.definition_state.proofs.Laws.Frames.{grown_then}
use Rattle.definition_state.proofs.Laws.Steps.{ready_less}
use Rattle.definition_steps.proofs.Laws.Guards.{fault_cases, was_sound, guarded-sound, guarded-stays}
use Rattle.definition_steps.proofs.Laws.Same.{SameScope, same_trans, same-non_vars}
use Rattle.definition_steps.proofs.Laws.Keeps.{keeps_guarded, keeps_definitions, keeps_first_uses}
use Rattle.definition_steps.proofs.Laws.KeepsNested.{keeps_use_expr}
use Rattle.definition_cycle.specs.Inner.Sites.{nested_by, way_by, Surrounds, Inside, RunsIn}
use Rattle.definition_steps.specs.Inner.Pairs.{leaves_at}
use Rattle.definition_cycle.specs.Inner.Asks.{AsksExpr, AsksLiteral}
use Rattle.definition_cycle.specs.Inner.Does.{DoesUse, DoesNonVars, DoesStep, some_in_step}
use Rattle.definition_cycle.proofs.Laws.Moves.{Steady, Enclosing, at_ready, inside_less, inside-next, runs_in_then, runs_in_as, under-inside, inside_under}
use Rattle.definition_cycle.proofs.Laws.Steadies.{steady_fits, steady_then, steady_use, steady_others}
use Rattle.definition_cycle.specs.Inner.AllUsed.{parts_use, others_use, OthersUsed}
use Rattle.definition_cycle.proofs.Laws.Witnesses.{is-sound, members-held, some_mods, some_stand, kept_scope, sets_of}
use Rattle.definition_cycle.proofs.Laws.Patterns.{non_vars-append}
use Rattle.definition_cycle.proofs.Laws.PatternSteps.{process_parts, process_others, steady_non_vars, others_append}

-- ---- laws

-- A step that stays at a fault is guarded by itself.
guarded_steady : (t : List ℕ) (n : ℕ) (f : State → State) → Steady t n f → (s : State) → guarded f s ≡ f s
guarded_steady t n f y s = go (fault_cases s.run.fault)
  where
    go : (s.run.fault ≡ sound) ⊎ (s.run.fault ≡ sound → ⊥) → guarded f s ≡ f s
    go (inl z) = guarded-sound f s z
    go (inr z) = guarded-stays s z f ∙ sym (y.stays s z)

module _ (t : List ℕ) where
  some_vars-append : (sc : Scope) (k l : List Tree) → some_vars_in (sheet_at t) sc (k ++ l) ≡ some_vars_in (sheet_at t) sc k ++ some_vars_in (sheet_at t) sc l
  unfolding some_vars_in
  some_vars-append sc k l = rw (concat_map-append _ k l) (filter-append _ (vars k) (vars l))

  names-few : (sc : Scope) (ls : List Tree) → length (some_vars_in (sheet_at t) sc ls) ≤ length (vars ls)
  unfolding some_vars_in
  names-few sc ls = length-filter _ (vars ls)

  -- ---- the steps

  module _ (levels : ℕ) (parents : List Scope) (i : ℕ) (m : Mods) (pattern : List Tree) (collection : Tree) where
    abbrev names : State → List Row
    names s = some_vars_in (sheet_at t) s.scope pattern

    abbrev gathered : State → State
    gathered = use_expr (sheet_at t) (way_by t levels parents) i [] m collection

    abbrev defining : List Row → State → State
    defining ws u = add_definitions (map (λ (w : Row). define i w.name (all_used (sheet_at t) (way_by t levels parents) [] m collection u)) ws) u

    abbrev recorded : State → State
    recorded s = guarded (defining (names s)) (gathered s)

    -- The first three.
    abbrev entered : State → State
    entered s = guarded (add_first_uses (map span_of (names s))) (recorded s)

    -- The last.
    abbrev lastly : State → State
    lastly = guarded (λ u. record_one i 0 (others_use t (way_by t levels parents) u m.comprs pattern) u)

    steady_gathered : Steady t (bracket_vars collection) gathered
    steady_gathered = steady_use t levels parents i [] m collection

    steady_entered : Steady t (bracket_vars collection + length (vars pattern)) entered
    steady_entered = record {
      below = suc i;
      adds = λ s.
          adds_at_most (sheet_at t) (bracket_vars collection + length (vars pattern))
          (adds_definitions_then (sheet_at t) (adds_use_expr (sheet_at t) (nested_by t levels) parents (steady_fits t levels) i [] m collection s)
          (adds_definitions_then (sheet_at t)
          (step_if (sheet_at t) (defining (names s)) (adds_some_vars (sheet_at t) (nested_by t levels) parents (steady_fits t levels) i m (names s) collection) (gathered s).run.fault (gathered s))
          (step_if (sheet_at t) (add_first_uses (map span_of (names s))) (adds_first_uses (sheet_at t) (map span_of (names s))) (recorded s).run.fault (recorded s))))
          (omega (arith, names-few s.scope pattern));
      keeps = λ s.
          same_trans (keeps_use_expr (sheet_at t) (nested_by t levels) parents i [] m collection s)
          (same_trans (keeps_guarded (defining (names s)) (λ u. keeps_definitions _ u) (gathered s))
          (keeps_guarded (add_first_uses (map span_of (names s))) (keeps_first_uses (map span_of (names s))) (recorded s)));
      stays = λ s h.
          ap (λ (u : State). guarded (add_first_uses (map span_of (names s))) (guarded (defining (names s)) u)) (steady_gathered.stays s h)
          ∙ ap (guarded (add_first_uses (map span_of (names s)))) (guarded-stays s h (defining (names s))) ∙ guarded-stays s h (add_first_uses (map span_of (names s)));
    }

    -- What is found in the pattern does not change on the way.
    some_in_steps : (k l : List Tree) → pattern ≡ k ++ l → (s : State)
        → lastly (process_others t levels parents i m l (process_others t levels parents i m k (entered s)))
        ≡ process_some_in (sheet_at t) (way_by t levels parents) i m pattern collection s
    unfolding process_some_in
    some_in_steps k l two s =
        let v = entered s in
        let found = non_vars (sheet_at t) s.scope pattern in
        let last : List Tree → State → State = λ es u. record_one i 0 (parts_use t (way_by t levels parents) u m.comprs es) u in
        let both : process_others t levels parents i m l (process_others t levels parents i m k v) ≡ process_parts t levels parents i m found v =
        others_append t levels parents i m k l v (non_vars-append t v.scope k l)
        ∙ ap (λ (es : List Tree). process_others t levels parents i m es v) (sym two)
        ∙ ap (λ (es : List Tree). process_parts t levels parents i m es v) (same-non_vars (steady_entered.keeps s) (sheet_at t) pattern) in
        let w = process_parts t levels parents i m found v in
        let kept : SameScope s.scope w.scope = same_trans (steady_entered.keeps s) ((steady_others t levels parents i m found).keeps v) in
        ap lastly both
        ∙ if_same w.run.fault (λ u. last (non_vars (sheet_at t) u.scope pattern) u) (last found) w (ap (λ (es : List Tree). last es w) (same-non_vars kept (sheet_at t) pattern))
        ∙ ap (guarded (last found))
        (sym (ap (guarded (process_parts t levels parents i m found))
        (ap (λ (u : State). guarded (add_first_uses (map span_of (names s))) (guarded (defining (names s)) u)) (guarded_steady t (bracket_vars collection) gathered steady_gathered s))
        ∙ guarded_steady t _ (process_parts t levels parents i m found) (steady_others t levels parents i m found) v))

  -- ---- what the code does in the first three

  module _ (inner : List ℕ) (key value third : ℕ) (x : Context) (p : Progress) (firsts work : List ℕ) (none a b : Names) (clear : Empty none.words)
      (some₁ : SomeVars t p.scope key none a) (some₂ : SomeVars t p.scope value a b) where
    abbrev pattern : List Tree
    pattern = leaves_at t key ++ leaves_at t value

    abbrev collection : Tree
    collection = expr_by t true third

    holds-vars : (sc : Scope) → Sets p.scope sc → Holds b (map name_of (some_vars_in (sheet_at t) sc pattern))
    holds-vars sc h =
        let some : ℕ → List Row = λ r. some_vars_in (sheet_at t) sc (leaves_at t r) in
        subst (Holds b) (sym (ap (map name_of) (some_vars-append sc (leaves_at t key) (leaves_at t value)) ∙ map-append name_of (some key) (some value)))
        (sets.adds_holds none b _ clear (sets.adds_then none a b (map name_of (some key)) (map name_of (some value)) (some₁ sc h) (some₂ sc h)))

    module _ (u : Using) (fs ws : List ℕ) (uses : DoesUse t inner none collection x p firsts work u fs ws) where
      module _ (q : Progress) (vs : List ℕ) (records : SomeRecorded x.statement b u.names u.progress ws q vs) (gs hs : List ℕ)
          (enters₁ : SomeEntered t p.scope key fs gs) (enters₂ : SomeEntered t p.scope value gs hs) where
        module _ (m : Mods) (stands : Stands t x m) (parents : List Scope) (spans : List ℕ) (s : State) (o : Surrounds t inner parents s)
            (h : Agree t spans p firsts work s) where
          abbrev ns : List Row
          ns = names x.levels parents x.statement m pattern collection s

          abbrev s₁ : State
          s₁ = gathered x.levels parents x.statement m pattern collection s

          abbrev s₂ : State
          s₂ = recorded x.levels parents x.statement m pattern collection s

          abbrev define-all : State → State
          define-all = defining x.levels parents x.statement m pattern collection ns

          h₁ : Agree t spans u.progress fs ws s₁
          h₁ = (uses.runs m stands [] (holds-none none clear)).agrees parents spans s o h

          before₁ : s₁.run.fault ≡ sound → s.run.fault ≡ sound
          before₁ = was_sound s s₁ ((steady_gathered x.levels parents x.statement m pattern collection).stays s)

          before₂ : s₂.run.fault ≡ sound → s₁.run.fault ≡ sound
          before₂ = was_sound s₁ s₂ (λ n. guarded-stays s₁ n define-all)

          h₂ : Agree t spans q fs vs s₂
          h₂ = go (fault_cases s₁.run.fault)
            where
              go : (s₁.run.fault ≡ sound) ⊎ (s₁.run.fault ≡ sound → ⊥) → Agree t spans q fs vs s₂
              go (inl z) =
                  let us = all_used (sheet_at t) (way_by t x.levels parents) [] m collection s₁ in
                  let fine = is-sound u.progress.fault (h₁.fault ∙ z) in
                  let done = (records t (map name_of ns) us fs (holds-vars s.scope (h.whole (before₁ z)).scope.sets)
                  (uses.names m stands [] (holds-none none clear) fine parents spans s o h)).agrees spans s₁ h₁ in
                  subst (Agree t spans q fs vs)
                  (if_same s₁.run.fault (add_definitions (map (λ y. define x.statement y us) (map name_of ns))) define-all s₁
                  (ap (λ (ds : List Definition). add_definitions ds s₁) (map-map (λ y. define x.statement y us) name_of ns))) done
              go (inr n) =
                  let us = members u.names.words in
                  let xs = members b.words in
                  subst (Agree t spans q fs vs)
                  (guarded-stays s₁ n (add_definitions (map (λ y. define x.statement y us) xs)) ∙ sym (guarded-stays s₁ n define-all))
                  ((records t xs us fs (members-held b) (members-held u.names)).agrees spans s₁ h₁)

          h₃ : Agree t spans q hs vs (guarded (add_first_uses (map span_of ns)) s₂)
          unfolding add_first_uses
          h₃ = go (fault_cases s₂.run.fault)
            where
              go : (s₂.run.fault ≡ sound) ⊎ (s₂.run.fault ≡ sound → ⊥) → Agree t spans q hs vs (guarded (add_first_uses (map span_of ns)) s₂)
              go (inl z) =
                  let whole = h₂.whole z in
                  let its = (h.whole (before₁ (before₂ z))).scope.sets in
                  let some : ℕ → List Row = λ r. some_vars_in (sheet_at t) s.scope (leaves_at t r) in
                  let all : foldl add_first_use (foldl add_first_use s₂.first_uses (map span_of (some key))) (map span_of (some value))
                  ≡ foldl add_first_use s₂.first_uses (map span_of ns) =
                  sym (foldl-append add_first_use s₂.first_uses (map span_of (some key)) (map span_of (some value)))
                  ∙ ap (foldl add_first_use s₂.first_uses)
                  (sym (ap (map span_of) (some_vars-append s.scope (leaves_at t key) (leaves_at t value)) ∙ map-append span_of (some key) (some value))) in
                  rw (guarded-sound (add_first_uses (map span_of ns)) s₂ z) (record {
                    fault = h₂.fault;
                    count = h₂.count;
                    whole = λ e. record {
                      scope = whole.scope;
                      used-first =
                          subst (Firsts hs) all
                          (enters₂ s.scope its (foldl add_first_use s₂.first_uses (map span_of (some key))) (enters₁ s.scope its s₂.first_uses whole.used-first));
                      rows = whole.rows;
                      table = whole.table;
                    };
                  })
              go (inr n) =
                  rw (guarded-stays s₂ n (add_first_uses (map span_of ns))) (record { fault = h₂.fault; count = h₂.count; whole = λ e. absurd (n e) })

        entered-runs : (m : Mods) → Stands t x m
            → RunsIn t inner (λ parents. entered x.levels parents x.statement m pattern collection) p firsts work q hs vs
        entered-runs m stands = record {
          grown = grown_then t p u.progress q work ws vs (uses.runs m stands [] (holds-none none clear)).grown
              (records t (members b.words) (members u.names.words) fs (members-held b) (members-held u.names)).grown;
          agrees = h₃ m stands;
        }

  -- ---- what the function asks of its callees

  module _ (ok : Accepted t) (outer spans inner : List ℕ) (st : Statement) (x : Context) (p : Progress) (firsts work : List ℕ) (form : st.form ≡ 2)
      (around : Enclosing t outer spans p inner) (asks : AsksLiteral t outer spans st x p firsts work) where
    abbrev bound : ℕ
    bound = length (vars (leaves_at t st.first ++ leaves_at t st.second))

    abbrev cost : ℕ → ℕ
    cost r = total bracket_vars (leaves_at t r)

    room : bracket_vars (expr_by t true st.third) + (bound + (cost st.first + (cost st.second + 1))) ≤ suc (literal_size (literal_of (sheet_at t) st))
    unfolding literal_of pattern_vars
    room =
        rw form (omega (
          arith,
          brackets_fit (tree_at (sheet_at t) st.third),
          vars-append (leaves_at t st.first) (leaves_at t st.second),
          leaves-fit (tree_at (sheet_at t) st.first),
          leaves-fit (tree_at (sheet_at t) st.second),
        ))

    abbrev query : ℕ
    query = asks.under.at.query

    parts_lie : StatementInside (counts_at t) t query st
    parts_lie =
        subst (StatementInside (counts_at t) t query) (sym asks.is)
        (statement-lies (counts_at t) t ok.within ok.fine query asks.row asks.there asks.low
        (statement-there (counts_at t) t query asks.row asks.there asks.lies))

    -- The rows are rows of the sheet.
    pub parts_low : NamedParts t st
    parts_low = subst (NamedParts t) (sym asks.is) (named-at t ok asks.row (λ z. omega (arith, asks.there)) asks.low)

    abbrev given : Inside t inner p firsts work (bracket_vars (expr_by t true st.third) + (bound + (cost st.first + (cost st.second + 1))))
    given =
        inside_less t inner p firsts work (suc (literal_size (literal_of (sheet_at t) st)))
        (bracket_vars (expr_by t true st.third) + (bound + (cost st.first + (cost st.second + 1)))) room
        (under-inside t outer spans inner p firsts work (suc (literal_size (literal_of (sheet_at t) st))) around asks.under)

    pub asks-collection : AsksExpr t inner st.third 0 x p firsts work (bracket_vars (expr_by t true st.third))
    asks-collection = record {
      inside = inside_less t inner p firsts work (bracket_vars (expr_by t true st.third) + (bound + (cost st.first + (cost st.second + 1))))
          (bracket_vars (expr_by t true st.third)) (omega arith) given;
      first-lies = parts_lie.third;
      second-lies = inl refl;
      mods_lie = asks.mods_lie;
      mods-low = asks.mods-low;
    }

    module _ (none a b : Names) (clear : Empty none.words) (some₁ : SomeVars t p.scope st.first none a)
        (some₂ : SomeVars t p.scope st.second a b) (u : Using) (fs ws : List ℕ)
        (uses : DoesUse t inner none (expr_by t true st.third) x p firsts work u fs ws) where
      pub asks_record : NamesFit 0 b u.progress ws
      asks_record =
          let sc = kept_scope p.scope in
          let found = some_vars_in (sheet_at t) sc (leaves_at t st.first ++ leaves_at t st.second) in
          let xs = map name_of found in
          let more = bound + (cost st.first + (cost st.second + 1)) in
          let now = inside-next t inner p u.progress firsts fs work ws (bracket_vars (expr_by t true st.third) + more) (bracket_vars (expr_by t true st.third)) more
          (λ parents. use_expr (sheet_at t) (way_by t x.levels parents) x.statement [] (some_mods t x) (expr_by t true st.third))
          (λ parents. steady_use t x.levels parents x.statement [] (some_mods t x) (expr_by t true st.third)) (omega arith)
          (uses.runs (some_mods t x) (some_stand t x) [] (holds-none none clear)) given in
          ready-names u.progress ws b t fs 0 xs
          (holds-vars inner st.first st.second st.third x p firsts work none a b clear some₁ some₂ sc (sets_of p.scope))
          (ready_less t u.progress fs ws more (max 0 (length xs))
          (omega (arith, length-map found name_of, names-few sc (leaves_at t st.first ++ leaves_at t st.second)))
          (at_ready t now.spans u.progress fs ws more now.at))

      module _ (q : Progress) (vs : List ℕ) (records : SomeRecorded x.statement b u.names u.progress ws q vs) (gs hs : List ℕ)
          (enters₁ : SomeEntered t p.scope st.first fs gs) (enters₂ : SomeEntered t p.scope st.second gs hs) where
        abbrev first_three : (m : Mods) → Stands t x m
            → RunsIn t inner
            (λ parents. entered x.levels parents x.statement m (leaves_at t st.first ++ leaves_at t st.second) (expr_by t true st.third)) p firsts work q hs vs
        first_three =
            entered-runs inner st.first st.second st.third x p firsts work none a b clear some₁ some₂ u fs ws uses q vs records gs hs enters₁ enters₂

        abbrev given-key : Inside t inner q hs vs (cost st.first + (cost st.second + 1))
        given-key =
            inside-next t inner p q firsts hs work vs (bracket_vars (expr_by t true st.third) + (bound + (cost st.first + (cost st.second + 1))))
            (bracket_vars (expr_by t true st.third) + bound) (cost st.first + (cost st.second + 1))
            (λ parents. entered x.levels parents x.statement (some_mods t x) (leaves_at t st.first ++ leaves_at t st.second) (expr_by t true st.third))
            (λ parents. steady_entered x.levels parents x.statement (some_mods t x) (leaves_at t st.first ++ leaves_at t st.second) (expr_by t true st.third))
            (omega arith) (first_three (some_mods t x) (some_stand t x)) given

        pub asks-key : AsksExpr t inner st.first 0 x q hs vs (cost st.first)
        asks-key = record {
          inside = inside_less t inner q hs vs (cost st.first + (cost st.second + 1)) (cost st.first) (omega arith) given-key;
          first-lies = parts_lie.first;
          second-lies = inl refl;
          mods_lie = asks.mods_lie;
          mods-low = asks.mods-low;
        }

        module _ (r : Progress) (is us : List ℕ) (does₁ : DoesNonVars t inner st.first x q hs vs r is us) where
          abbrev given-value : Inside t inner r is us (cost st.second + 1)
          given-value =
              inside-next t inner q r hs is vs us (cost st.first + (cost st.second + 1)) (cost st.first) (cost st.second + 1)
              (λ parents. process_others t x.levels parents x.statement (some_mods t x) (leaves_at t st.first))
              (λ parents. steady_non_vars t x.levels parents x.statement (some_mods t x) (leaves_at t st.first)) (omega arith)
              (does₁ (some_mods t x) (some_stand t x)) given-key

          pub asks-value : AsksExpr t inner st.second 0 x r is us (cost st.second)
          asks-value = record {
            inside = inside_less t inner r is us (cost st.second + 1) (cost st.second) (omega arith) given-value;
            first-lies = parts_lie.second;
            second-lies = inl refl;
            mods_lie = asks.mods_lie;
            mods-low = asks.mods-low;
          }

          module _ (z : Progress) (js ys : List ℕ) (does₂ : DoesNonVars t inner st.second x r is us z js ys) where
            pub asks-last : FitsFront z ys 1
            asks-last =
                let now = inside-next t inner r z is js us ys (cost st.second + 1) (cost st.second) 1
                (λ parents. process_others t x.levels parents x.statement (some_mods t x) (leaves_at t st.second))
                (λ parents. steady_non_vars t x.levels parents x.statement (some_mods t x) (leaves_at t st.second)) (omega arith)
                (does₂ (some_mods t x) (some_stand t x)) given-value in
                ready-fits t z js ys 1 (at_ready t now.spans z js ys 1 now.at)

            -- ---- what it does

            module _ (used : Names) (found : OthersUsed t z.width z.scope st.first st.second x ys used) (end : Progress) (zs : List ℕ)
                (one : OneRecorded x.statement used z ys end zs) where
              abbrev pattern_of : List Tree
              pattern_of = leaves_at t st.first ++ leaves_at t st.second

              last_runs : (m : Mods) → Stands t x m
                  → RunsIn t inner (λ parents. lastly x.levels parents x.statement m pattern_of (expr_by t true st.third)) z js ys end js zs
              last_runs m stands = record {
                grown = (one t (members used.words) js (members-held used)).grown;
                agrees = λ parents sps s o h. go parents sps s h (fault_cases s.run.fault);
              }
                where
                  go : (parents : List Scope) (sps : List ℕ) (s : State) → Agree t sps z js ys s → (s.run.fault ≡ sound) ⊎ (s.run.fault ≡ sound → ⊥)
                      → Agree t sps end js zs (guarded (λ u. record_one x.statement 0 (others_use t (way_by t x.levels parents) u m.comprs pattern_of) u) s)
                  go parents sps s h (inl clear) =
                      let whole = h.whole clear in
                      let us = others_use t (way_by t x.levels parents) s m.comprs pattern_of in
                      subst (Agree t sps end js zs)
                      (if_same s.run.fault (record_one x.statement 0 us) (λ u. record_one x.statement 0 (others_use t (way_by t x.levels parents) u m.comprs pattern_of) u) s refl)
                      ((one t us js (found m stands (nested_by t x.levels) parents s whole.scope.sets whole.table.stored)).agrees sps s h)
                  go parents sps s h (inr n) =
                      let us = members used.words in
                      subst (Agree t sps end js zs)
                      (guarded-stays s n (record_one x.statement 0 us)
                      ∙ sym (guarded-stays s n (λ u. record_one x.statement 0 (others_use t (way_by t x.levels parents) u m.comprs pattern_of) u))) ((one t us js (members-held used)).agrees sps s h)

              pub some_in_does : DoesStep t (some_in_step t st x) outer spans x p firsts work end js zs
              some_in_does m stands =
                  let n₁ = bracket_vars (expr_by t true st.third) + bound in
                  let n₂ = cost st.first in
                  let n₃ = cost st.second in
                  let f₁ : List Scope → State → State = λ parents. entered x.levels parents x.statement m pattern_of (expr_by t true st.third) in
                  let f₂ : List Scope → State → State = λ parents. process_others t x.levels parents x.statement m (leaves_at t st.first) in
                  let f₃ : List Scope → State → State = λ parents. process_others t x.levels parents x.statement m (leaves_at t st.second) in
                  let f₄ : List Scope → State → State = λ parents. lastly x.levels parents x.statement m pattern_of (expr_by t true st.third) in
                  let y₁ : (parents : List Scope) → Steady t n₁ (f₁ parents) =
                  λ parents. steady_entered x.levels parents x.statement m pattern_of (expr_by t true st.third) in
                  let y₂ : (parents : List Scope) → Steady t (n₁ + n₂) (λ s. f₂ parents (f₁ parents s)) =
                  λ parents. steady_then t x.levels n₁ n₂ (f₁ parents) (f₂ parents) (y₁ parents)
                  (steady_non_vars t x.levels parents x.statement m (leaves_at t st.first)) in
                  let y₃ : (parents : List Scope) → Steady t (n₁ + n₂ + n₃) (λ s. f₃ parents (f₂ parents (f₁ parents s))) =
                  λ parents. steady_then t x.levels (n₁ + n₂) n₃ (λ s. f₂ parents (f₁ parents s)) (f₃ parents) (y₂ parents)
                  (steady_non_vars t x.levels parents x.statement m (leaves_at t st.second)) in
                  let r₂ = runs_in_then t inner n₁ f₁ f₂ p q r firsts hs is work vs us y₁ (first_three m stands) (does₁ m stands) in
                  let r₃ = runs_in_then t inner (n₁ + n₂) (λ parents s. f₂ parents (f₁ parents s)) f₃ p r z firsts is js work us ys y₂ r₂ (does₂ m stands) in
                  let r₄ = runs_in_then t inner (n₁ + n₂ + n₃) (λ parents s. f₃ parents (f₂ parents (f₁ parents s))) f₄ p z end firsts js js work ys zs y₃ r₃ (last_runs m stands) in
                  inside_under t outer spans inner (λ parents. some_in_step t st x parents m) p end firsts js work zs around
                  (runs_in_as t inner (λ parents s. f₄ parents (f₃ parents (f₂ parents (f₁ parents s)))) (λ parents. some_in_step t st x parents m) p end firsts js work zs
                  (λ parents s. some_in_steps x.levels parents x.statement m pattern_of (expr_by t true st.third) (leaves_at t st.first) (leaves_at t st.second) refl s) r₄)

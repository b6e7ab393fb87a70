-- The analysis of one query, from its empty start to its schedule in the table.
use mathlib.Core.Path.{◌≡◌, refl, sym, ap, ◌∙◌, subst}
use mathlib.Core.Bool.{true, false≢true}
use mathlib.Core.List.{List, [], ◌∷◌, ◌++◌}
use mathlib.Core.Logic.{◌⊎◌, inl, inr}
use Prim.Native.Nat.{ℕ, suc, ◌+◌, ◌-◌, ◌*◌, ◌≤◌, ◌<◌}
use native.Mathlib.Omega.{arith}
use lib.Dec.{ltb}
use lib.ListN.{length, get_or}
use Rattle.std.specs.Prelude.{Option, None}
use Rattle.base.specs.Limits as limits
use Rattle.names_width.specs.declared.Width.{Width}
use Rattle.names_width.specs.declared.Width.TheVariants.{Two, Eight}
use Rattle.names_width.specs.Inner.Widths as Widths
use Rattle.answer_blocks.specs.Inner.Layout.{answers_size}
use Rattle.sheet.specs.Inner.Records.{first_at}
use Rattle.base.specs.Lists.{is_some, concat_map}
use Rattle.scope.specs.Trees.{Tree}
use Rattle.scope.specs.Traverse.{comprs}
use Rattle.scope.specs.Statements.{Stmt, stmts_of}
use Rattle.scope.specs.Scopes.{NameSet, contains, Span, span_in}
use Rattle.scope.specs.Scopes as spec
use Rattle.definition.specs.States.{sound, QuerySchedule, Run, State, set_scope}
use Rattle.definition.specs.Comprs.{process_comprs}
use Rattle.definition.specs.Queries.{process_stmts, output_scope}
use Rattle.definition_once.specs.Inner.OnceWay.{analyze_once}
use Rattle.definition_room.specs.Inner.Sizes.{total, weight}
use Rattle.definition_room.specs.Inner.Adds.{FitsSchedule}
use Rattle.definition_room.proofs.Laws.Adds.{adds_length}
use Rattle.definition_room.proofs.Laws.Statements.{adds_process_stmts}
use Rattle.definition_room.proofs.Laws.Queries.{start}
use Rattle.definition_room.specs.Inner.Lying.{StatementLies}
use Rattle.definition_room.proofs.Laws.StatementHomes.{first-lies}
use Rattle.scope_walk.proofs.Laws.Onwards.{left-most}
use Rattle.scope_state.specs.declared.Scope.{Scope}
use Rattle.scope_walk.specs.Inner.Sheets.{counts_at, special_at, sheet_at, Accepted, statement_count}
use Rattle.scope_state.specs.Inner.Chains.{chain_at}
use Rattle.scope_state.specs.Inner.Outers.{Outer}
use Rattle.scope_gather.specs.Inner.Queries.{stmts_left, Gathered, stmts_at_row}
use Rattle.scope_gather.proofs.Laws.Queries.{first_statement_is, first_statement_low}
use Rattle.scope_state.specs.Inner.Spans.{Agrees}
use Rattle.scope_state.proofs.Laws.Spans.{agrees_opened}
use Rattle.scope_state.specs.Inner.Agrees.{with_inputs_of}
use Rattle.scope_state.specs.Inner.Enclosing.{Encloses}
use Rattle.scope_state.proofs.Laws.Enclosing.{scopes_enclosed}
use Rattle.definition_walk.specs.Inner.Firsts.{Firsts}
use Rattle.definition_state.specs.declared.Fault.{Fault}
use Rattle.definition_state.specs.declared.Progress.{Progress}
use Rattle.definition_state.specs.Inner.Faults.{is_sound, meaning}
use Rattle.definition_state.specs.Inner.Held.{Held}
use Rattle.definition_state.proofs.Laws.Held.{held_none}
use Rattle.definition_state.specs.Inner.Table.{answers_of, Based, Low, Table}
use Rattle.definition_state.specs.Inner.Frames.{Agree}
use Rattle.definition_state.proofs.Laws.Steps.{sound-is}
use Rattle.answer_schedule.specs.Inner.Concluded.{Ending, Schedulable}
use Rattle.answer_schedule.proofs.Laws.Entering.{schedulable}
use Rattle.definition_steps.proofs.Laws.Guards.{fault_cases, outputs-sound}
use Rattle.definition_steps.proofs.Laws.Same.{same_local}
use Rattle.definition_steps.proofs.Laws.KeepsNested.{keeps_outputs}
use Rattle.definition_steps.proofs.Laws.Chained.{comprs-chains}
use Rattle.definition_steps.proofs.Laws.Outputs as outputs
use Rattle.definition_steps.proofs.Laws.Outputs.{opened_state, opened_outputs, opened_inputs, opened_flag}
use Rattle.definition_steps.proofs.Laws.Lows.{chains-low, in_bounds}
use Rattle.definition_steps.proofs.Laws.Fronts.{ended, front, analyze-sound, analyze-faulty, front_fits, front_low}
use Rattle.definition_comprs.specs.Inner.Lists.{most_listed, both_at, ListsBoth}
use Rattle.definition_cycle.proofs.Laws.Witnesses.{is-sound}
use Rattle.definition_cycle.specs.Inner.Budgets.{budget, budget_at}
use Rattle.definition_cycle.specs.Inner.Sites.{nested_by, way_by, Surrounds, Inside}
use Rattle.definition_cycle.proofs.Laws.Moves.{room-same, at_rows}
use Rattle.definition_cycle.proofs.Laws.Steadies.{steady_fits}
use Rattle.definition_cycle.proofs.Laws.ComprLists.{inside-after, both-asks}
use Rattle.definition_cycle.specs.Inner.Asks.{tree_of, AsksComprs, AsksStmts, Begun, AsksQuery}
use Rattle.definition_cycle.specs.Inner.Does.{DoesComprs, DoesStmts}
use Rattle.definition_cycle.specs.Inner.Queries.{DoesQuery}
use Rattle.definition_cycle.specs.Inner.Ends.{begin, OpenedFrom, Finished}

few_stmts : (t : List ℕ) → Accepted t → (row : ℕ) → stmts_left t row ≤ 129
few_stmts t ok row = omega (arith, left-most (statement_count t) row, ok.within.few-statements)

-- ---- the calls are a level below

module _ (t : List ℕ) (ok : Accepted t) (levels m : ℕ) (some : levels ≡ 0 → ⊥) (is : levels * 8192 ≡ m) (row : ℕ) where
  pub stmts_below : (levels - 1) * 8192 + (1110 + stmts_left t row) < m
  stmts_below = omega (arith, few_stmts t ok row)

-- So are those of the outputs' comprehensions.
pub comprs-below : (levels m : ℕ) → (levels ≡ 0 → ⊥) → levels * 8192 ≡ m → (end : ℕ) → end ≤ most_listed → (levels - 1) * 8192 + ((end - 0) + 1) < m
comprs-below levels m some is end few = omega arith

-- No name is used yet.
firsts_none : (ws : List ℕ) → ((x : ℕ) → get_or ws x 0 ≡ 0) → Firsts ws []
firsts_none ws zeros = record { has = λ x low. sym (zeros x); low = λ x p e. absurd (false≢true (ap is_some e)) }

-- What statements weigh is within their budget.
weights_fit : (l : List Stmt) → total weight l ≤ total budget l
weights_fit [] = omega arith
weights_fit (st ∷ l) = omega (arith, weights_fit l)

-- The width has room for a name.
some-names : (z : Width) → ltb 0 (64 * Widths.set_words z) ≡ true
some-names Two = refl
some-names Eight = refl

-- ---- no query, or no level left

pub does_none : (t : List ℕ) (z : Width) (outer : List ℕ) (query key value levels : ℕ) (work : List ℕ) → query ≡ 0 → DoesQuery t z outer query key value levels work None work
does_none t z outer query key value levels work e₀ = record { none = λ e. (refl, refl); one = λ ne. absurd (ne e₀) }

pub does_nothing : (t : List ℕ) (z : Width) (outer : List ℕ) (query key value levels : ℕ) (work : List ℕ) → levels ≡ 0 → DoesQuery t z outer query key value levels work None work
unfolding analyze_once
does_nothing t z outer query key value levels work e₀ =
    rw e₀ (record { none = λ e. (refl, refl); one = λ ne parents run o fine table. (sym fine, λ e. table) })

-- ---- the scope of outputs

module _ (t spans : List ℕ) (p r : Progress) (o : OpenedFrom p r) (fs w : List ℕ) (s : State) where
  opened_agrees : Agree t spans p fs w s → Agree t spans r fs w (opened_state s)
  unfolding opened_state set_scope output_scope
  opened_agrees a = record {
    fault = ap meaning o.fault ∙ a.fault;
    count = omega (arith, o.count, a.count);
    whole = λ e.
        let h = a.whole e in
        record {
          scope = agrees_opened p.scope spans r.scope s.scope h.scope o.scope;
          used-first = h.used-first;
          rows = rw (o.wide, o.count) h.rows;
          table = rw o.wide h.table;
        };
  }

opened_definitions : (s : State) → (opened_state s).definitions ≡ s.definitions
unfolding opened_state set_scope
opened_definitions s = refl

-- ---- a query that is to be analysed

pub begun_of : (t : List ℕ) (z : Width) (outer work : List ℕ) (query key value : ℕ) → (query ≡ 0 → ⊥) → AsksQuery t z outer work query key value
    → Begun t z outer work query key value
begun_of t z outer work query key value some (inl e) = absurd (some e)
begun_of t z outer work query key value some (inr b) = b

abbrev outputs_at : List ℕ → ℕ → ℕ → List Tree
outputs_at t key value = chain_at t key ++ chain_at t value

-- The table that there is, as a run's.
abbrev run_with : List QuerySchedule → Run
run_with schedules = record { schedules = schedules; fault = sound }

-- Its scope is gathered, and nothing is recorded yet.
pub record Started (t : List ℕ) (z : Width) (outer work : List ℕ) (query key value : ℕ) (spans firsts : List ℕ) (row : ℕ) (p : Progress) : Type 0 where
  pub ok : Accepted t
  pub begun : Begun t z outer work query key value
  pub scope : Scope
  pub gathered : Gathered t outer query key value scope spans
  pub zeros : (x : ℕ) → get_or firsts x 0 ≡ 0
  pub is : row ≡ first_at t query
  pub begins : p ≡ begin scope z

module _ (t : List ℕ) (z : Width) (outer work : List ℕ) (query key value : ℕ) (spans firsts : List ℕ) (row : ℕ) (p : Progress)
    (x : Started t z outer work query key value spans firsts row p) where
  -- The start, below these parents, with this table.
  start-agrees : (parents : List spec.Scope) (run : Run) → Outer outer parents → run.fault ≡ sound → Table z t work run.schedules
      → Agree t spans p firsts work (start (sheet_at t) parents query (outputs_at t key value) run)
  start-agrees parents run o fine table = rw x.begins (record {
    fault = sym fine;
    count = omega arith;
    whole = λ e. record {
      scope = x.gathered parents o;
      used-first = firsts_none firsts x.zeros;
      rows = held_none z work;
      table = table;
    };
  })

  pub same_width : p.width ≡ z
  same_width = ap (λ (q : Progress). q.width) x.begins

  stmts_are : stmts_at_row t row ≡ stmts_of (sheet_at t) query
  unfolding stmts_of
  stmts_are = rw (x.is, first_statement_is t outer query x.begun.from x.begun.to)

  pub row-high : row ≤ statement_count t
  row-high = omega (arith, x.is, first_statement_low t outer x.ok query x.begun.from x.begun.to)

  pub asks_stmts : AsksStmts t outer spans row 0 p firsts work
  asks_stmts =
      let b = x.begun in
      record {
        under = record {
          at = record {
            query = query;
            from = b.from;
            to = b.to;
            parents = b.parents;
            state = start (sheet_at t) b.parents query (outputs_at t key value) (run_with b.schedules);
            agrees = start-agrees b.parents (run_with b.schedules) b.beneath refl b.table;
            room = room-same same_width refl (omega (arith, ap (total budget) stmts_are, b.room));
          };
          beneath = b.beneath;
        };
        lies = subst (StatementLies (counts_at t) t query) (sym x.is)
            (first-lies (counts_at t) t x.ok.within x.ok.fine query b.from b.to);
        few = omega (arith, few_stmts t x.ok row);
        older = λ e. refl;
      }

-- Its statements are processed, and its scope is opened.
pub record Enclosed (t : List ℕ) (z : Width) (outer work : List ℕ) (query key value : ℕ) (spans : List ℕ) (n : ℕ) (s wide : Progress) (inner fs w : List ℕ) : Type 0 where
  pub firsts : List ℕ
  pub row : ℕ
  pub p : Progress
  pub started : Started t z outer work query key value spans firsts row p
  pub did : DoesStmts t outer spans row 0 n p firsts work s fs w
  pub opens : OpenedFrom s wide
  pub encloses : Encloses outer wide.scope spans inner

module _ (t : List ℕ) (z : Width) (outer work : List ℕ) (query key value : ℕ) (spans : List ℕ) (n : ℕ) (s wide : Progress) (inner fs w : List ℕ)
    (x : Enclosed t z outer work query key value spans n s wide inner fs w) where
  abbrev b : Begun t z outer work query key value
  b = x.started.begun

  abbrev ok : Accepted t
  ok = x.started.ok

  abbrev outs : List Tree
  outs = outputs_at t key value

  abbrev begin-at : List spec.Scope → Run → State
  begin-at parents run = start (sheet_at t) parents query outs run

  abbrev body : List spec.Scope → Run → State
  body parents run = process_stmts (sheet_at t) (way_by t n parents) 0 (stmts_of (sheet_at t) query) (begin-at parents run)

  wide-width : wide.width ≡ z
  wide-width = x.opens.wide ∙ x.did.grown.wide ∙ same_width t z outer work query key value spans x.firsts x.row x.p x.started

  few-rows : (parents : List spec.Scope) (run : Run) → length (body parents run).definitions ≤ budget_at t query
  few-rows parents run =
      omega (
        arith,
        (adds_length (sheet_at t)
            (adds_process_stmts (sheet_at t) (nested_by t n) parents (steady_fits t n) (stmts_of (sheet_at t) query) 0 (begin-at parents run))).1,
        weights_fit (stmts_of (sheet_at t) query),
      )

  module _ (parents : List spec.Scope) (run : Run) (o : Outer outer parents) (fine : run.fault ≡ sound) (table : Table z t work run.schedules) where
    body-agrees : Agree t spans s fs w (body parents run)
    body-agrees =
        let y = x.started in
        subst (λ (l : List Stmt). Agree t spans s fs w (process_stmts (sheet_at t) (way_by t n parents) 0 l (begin-at parents run)))
        (stmts_are t z outer work query key value spans x.firsts x.row x.p y)
        (x.did.agrees parents (begin-at parents run) o
        (start-agrees t z outer work query key value spans x.firsts x.row x.p y parents run o fine table))

    wide-agrees : Agree t spans wide fs w (opened_state (body parents run))
    wide-agrees = opened_agrees t spans s wide x.opens fs w (body parents run) body-agrees

    wide-around : Surrounds t inner parents (opened_state (body parents run))
    wide-around e = scopes_enclosed outer wide.scope spans inner x.encloses parents o (opened_state (body parents run)).scope (wide-agrees.whole e).scope

  -- ---- the comprehensions of its outputs

  abbrev outputs-step : List spec.Scope → State → State
  outputs-step parents = process_comprs (sheet_at t) (way_by t n parents) (both_at t true key value)

  abbrev inside-wide : Inside t inner wide fs w 0
  inside-wide = record {
    spans = spans;
    at = record {
      query = query;
      from = b.from;
      to = b.to;
      parents = b.parents;
      state = opened_state (body b.parents (run_with b.schedules));
      agrees = wide-agrees b.parents (run_with b.schedules) b.beneath refl b.table;
      room = room-same wide-width x.did.grown.long (omega (
        arith,
        b.room,
        few-rows b.parents (run_with b.schedules),
        ap length (opened_definitions (body b.parents (run_with b.schedules))),
      ));
    };
    around = wide-around b.parents (run_with b.schedules) b.beneath refl b.table;
  }

  pub asks-outputs : limits.per_name ≤ length inner → limits.per_name ≤ length fs → (rows : List ℕ) (end : ℕ) → ListsBoth t true key value rows end → most_listed ≤ length rows
      → AsksComprs t inner rows 0 end wide fs w
  asks-outputs inner_room firsts_room rows end l rows-room =
      both-asks t true key value rows end l inner ok inner_room rows-room wide fs w firsts_room inside-wide b.key-lies b.value-lies

  module _ (v : Progress) (fs₂ w₂ : List ℕ) (did-outputs : DoesComprs t inner (both_at t true key value) n wide fs w v fs₂ w₂) where
    inside-last : Inside t inner v fs₂ w₂ 0
    inside-last = inside-after t inner n (both_at t true key value) wide v fs fs₂ w w₂ did-outputs inside-wide

    last-width : v.width ≡ z
    last-width = did-outputs.grown.wide ∙ wide-width

    pub room-last : Widths.row_words v.width * v.count + answers_size v.width ≤ length w₂
    room-last = at_rows t inside-last.spans v fs₂ w₂ 0 inside-last.at

    pub based-last : is_sound v.fault ≡ true → Based v.width t (answers_of v.width w₂)
    based-last fine =
        let a = inside-last.at.agrees in
        (a.whole (sym a.fault ∙ sound-is v.fault fine)).table.based

    module _ (parents : List spec.Scope) (run : Run) (o : Outer outer parents) (fine : run.fault ≡ sound) (table : Table z t work run.schedules) where
      abbrev before : State
      before = opened_state (body parents run)

      abbrev last : State
      last = outputs-step parents before

      last-agrees : Agree t spans v fs₂ w₂ last
      last-agrees = did-outputs.agrees parents spans before (wide-around parents run o fine table) (wide-agrees parents run o fine table)

      -- They are those of the two chains.
      last-is : process_comprs (sheet_at t) (way_by t n parents) (concat_map comprs outs) before ≡ last
      last-is = ap (λ (l : List Tree). process_comprs (sheet_at t) (way_by t n parents) l before) (comprs-chains (tree_of t key) (tree_of t value))

      abbrev end : State
      end = ended n (sheet_at t) parents query outs run

      beside : outputs.OpenedState end last
      beside = subst (outputs.OpenedState end) last-is (opened_outputs (sheet_at t) (nested_by t n) parents outs (body parents run))

      -- ---- its schedule

      module _ (well : end.run.fault ≡ sound) where
        abbrev this : QuerySchedule
        this = front n (sheet_at t) parents query outs run

        well_last : last.run.fault ≡ sound
        well_last = ap (λ (r : Run). r.fault) beside.run ∙ well

        -- Its own names are those from before the outputs; inputs rose since.
        scope-agrees : Agrees (with_inputs_of s.scope v.scope) spans end.scope
        scope-agrees =
            let same = keeps_outputs (sheet_at t) (nested_by t n) parents outs (body parents run) in
            let clear = outputs-sound (sheet_at t) (way_by t n parents) (body parents run) outs well in
            let own = ((body-agrees parents run o fine table).whole clear).scope in
            let rose = (last-agrees.whole well_last).scope.sets in
            record {
              sets = record {
                locals = λ i. same_local same i ∙ own.sets.locals i;
                unscoped = λ i. ap (λ (names : NameSet). contains names i) same.unscoped ∙ own.sets.unscoped i;
                inputs = λ i. ap (λ (names : NameSet). contains names i) (sym (opened_inputs beside)) ∙ rose.inputs i;
                flag = sym (opened_flag beside) ∙ rose.flag;
              };
              placed = λ i p e. own.placed i p (ap (λ (l : List Span). span_in l i) (sym same.locals) ∙ e);
            }

        this-low : Low (64 * Widths.set_words z) this.scope this.definitions
        this-low =
            front_low n (sheet_at t) parents query outs run well (64 * Widths.set_words z) (some-names z) table.narrow
            (chains-low (64 * Widths.set_words z) (some-names z) (sheet_at t) table.narrow key value) table.low

        this-fits : FitsSchedule (sheet_at t) this
        this-fits = front_fits n (sheet_at t) parents query outs run well table.fits

        ending : Ending v.width t w₂ query (with_inputs_of s.scope v.scope) spans v.count this
        unfolding sheet_at
        ending = record {
          query = refl;
          whole = refl;
          scope = scope-agrees;
          rows = subst (Held v.width w₂ v.count) beside.definitions (last-agrees.whole well_last).rows;
          few = omega (arith, last-agrees.count, ap length beside.definitions);
          bounds = rw last-width (in_bounds (counts_at t) (special_at t) t ok.within ok.fine z this this-fits this-low);
          fits = this-fits;
          low = rw last-width this-low;
        }

      -- ---- the end

      module _ (r : Option Fault) (w₃ : List ℕ) (done : Finished t w₂ query s.scope v spans r w₃) where
        abbrev Ends : Run → Type 0
        Ends e = (meaning r ≡ e.fault) × (e.fault ≡ sound → Table z t w₃ e.schedules)

        same-fault : meaning r ≡ end.run.fault
        same-fault = ap meaning done.fault ∙ last-agrees.fault ∙ ap (λ (u : Run). u.fault) beside.run

        ends : Ends (analyze_once (suc n) (sheet_at t) parents query outs run)
        ends = go (fault_cases end.run.fault)
          where
            go : (end.run.fault ≡ sound) ⊎ (end.run.fault ≡ sound → ⊥) → Ends (analyze_once (suc n) (sheet_at t) parents query outs run)
            go (inl well) =
                let held : Table v.width t w₂ end.run.schedules =
                subst (λ (u : Run). Table v.width t w₂ u.schedules) beside.run (last-agrees.whole (well_last well)).table in
                let there = done.enters (is-sound v.fault (last-agrees.fault ∙ well_last well)) (this well) end.run.schedules (ending well) held in
                subst Ends (sym (analyze-sound n (sheet_at t) parents query outs run well)) (same-fault ∙ well, λ e. rw last-width at there)
            go (inr faulty) =
                subst Ends (sym (analyze-faulty n (sheet_at t) parents query outs run faulty)) (same-fault, λ e. absurd (faulty e))

    -- Without a fault, its rows are a list that the scheduler takes.
    pub takes_last : is_sound v.fault ≡ true → Schedulable v.width t w₂ query v.count
    takes_last fine =
        let run = run_with b.schedules in
        let well = sym (ap (λ (r : Run). r.fault) (beside b.parents run b.beneath refl b.table).run)
        ∙ sym (last-agrees b.parents run b.beneath refl b.table).fault ∙ sound-is v.fault fine in
        schedulable v.width t w₂ query _ spans v.count _ (omega (arith, room-last)) (ending b.parents run b.beneath refl b.table well)

    pub does_query : (levels : ℕ) → levels ≡ suc n → (r : Option Fault) (w₃ : List ℕ) → Finished t w₂ query s.scope v spans r w₃
        → DoesQuery t z outer query key value levels work r w₃
    does_query levels e r w₃ done = rw e (record {
      none = λ e₀. absurd (omega (arith, b.from, e₀));
      one = λ ne parents run o fine table. ends parents run o fine table r w₃ done;
    })

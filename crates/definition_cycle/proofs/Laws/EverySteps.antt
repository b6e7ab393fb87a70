-- An `every`: its domain records its uses, and its body is analysed in the part of work behind the rows.
use mathlib.Core.Path.{◌≡◌, refl, sym, ap, ◌∙◌, subst}
use mathlib.Core.Bool.{Bool, true, false, cond}
use mathlib.Core.List.{List, [], ◌∷◌, ◌++◌, foldl}
use mathlib.Core.Logic.{◌⊎◌, inl, inr}
use Prim.Native.Nat.{ℕ, suc, ◌+◌, ◌-◌, ◌*◌, ◌≤◌, ◌<◌}
use native.Mathlib.Omega.{arith}
use lib.ListN.{length, get_or, take}
use borrow.Rule.Slice.PartMut.{post_of, put_same}
use Rattle.std.specs.Prelude.{Option}
use Rattle.base.proofs.Laws.Truth.{bool_cases}
use Rattle.base.specs.Sets.{members}
use Rattle.names.specs.Inner.Sets.{Empty}
use Rattle.names.specs.Inner.Names.{Names}
use Rattle.names_width.specs.Inner.Widths as Widths
use Rattle.answer_blocks.specs.Inner.Layout.{answers_size}
use Rattle.sheet.specs.declared.Statement.{Statement}
use Rattle.sheet.specs.Naming.{statement_row}
use Rattle.sheet.specs.Inner.Enclosing.{enclosing_query}
use Rattle.sheet_facts.specs.Inner.FineFields.{Nests}
use Rattle.scope.specs.Trees.{Tree}
use Rattle.scope.specs.Traverse.{vars}
use Rattle.scope.specs.Statements.{every, literal_of}
use Rattle.scope.specs.Scopes.{Scope, no_scope, add_local}
use Rattle.definition.specs.States.{sound, State, set_run, Way}
use Rattle.definition.specs.Using.{record_one}
use Rattle.definition.specs.Comprs.{Mods, all_used, use_expr}
use Rattle.definition.specs.Exprs.{process_plain_expr}
use Rattle.definition.specs.Queries.{process_every}
use Rattle.definition_once.specs.Inner.OnceWay.{Nested}
use Rattle.definition_room.specs.Inner.Sizes.{literal_size}
use Rattle.definition_room.specs.Inner.Leaves.{bracket_vars}
use Rattle.definition_room.proofs.Laws.Leaves.{brackets_fit}
use Rattle.definition_room.proofs.Laws.Adds.{Step, step_at-most, step_if, end, ◌⨾◌, adds_turn}
use Rattle.definition_room.proofs.Laws.Using.{adds_record_one}
use Rattle.definition_room.proofs.Laws.Comprs.{adds_use_expr}
use Rattle.definition_room.proofs.Laws.Lying.{statement-there}
use Rattle.definition_room.proofs.Laws.StatementHomes.{StatementInside, statement-lies, every_opens}
use Rattle.scope_walk.specs.Inner.Sheets.{counts_at, sheet_at, Accepted, query_count}
use Rattle.scope_gather.specs.Inner.Statements.{NamedParts}
use Rattle.scope_gather.proofs.Laws.Queries.{named-at}
use Rattle.scope_state.specs.Inner.Chains.{chain_at}
use Rattle.scope_state.proofs.Laws.Chains.{chain-none}
use Rattle.scope_state.specs.Inner.Outers.{Outer}
use Rattle.scope_state.specs.Inner.Enclosing.{Encloses}
use Rattle.scope_state.proofs.Laws.Enclosing.{scopes_enclosed}
use Rattle.scope_gather.specs.Inner.Bodies.{EveryBody}
use Rattle.definition_expr.specs.declared.Using.{Using}
use Rattle.definition_expr.proofs.Laws.UsesMods.{holds-none}
use Rattle.definition_literal.specs.declared.context.Context.{Context}
use Rattle.definition_literal.specs.Inner.Contexts.{Stands}
use Rattle.definition_record.proofs.Laws.Guards.{if_same}
use Rattle.definition_record.specs.Inner.Front.{FitsFront}
use Rattle.definition_record.proofs.Laws.Front.{ready-fits}
use Rattle.definition_record.specs.Inner.Records.{OneRecorded}
use Rattle.definition_state.specs.declared.Fault.{Fault}
use Rattle.definition_state.specs.declared.Progress.{Progress}
use Rattle.definition_state.specs.Inner.Faults.{is_sound}
use Rattle.definition_state.proofs.Laws.Held.{held_same}
use Rattle.definition_state.specs.Inner.Table.{Table}
use Rattle.definition_state.proofs.Laws.Tails.{tail, tail-length, tail-answers, tail-whole, whole_length, whole-answers, whole-front, table_of}
use Rattle.definition_state.specs.Inner.Frames.{with_fault, guarded, Agree, Grown}
use Rattle.definition_state.proofs.Laws.Frames.{grown_then}
use Rattle.definition_state.proofs.Laws.Steps.{agree_sound, not_sound}
use Rattle.definition_steps.proofs.Laws.Guards.{guarded-sound, guarded-stays, fault_cases, was_sound}
use Rattle.definition_steps.proofs.Laws.Same.{same_scope_outer}
use Rattle.definition_steps.proofs.Laws.Keeps.{keeps_guarded}
use Rattle.definition_steps.proofs.Laws.KeepsNested.{keeps_process_plain_expr}
use Rattle.definition_cycle.proofs.Laws.Budgets.{above_later_at}
use Rattle.definition_cycle.specs.Inner.Sites.{nested_by, way_by, Surrounds, Inside, Under}
use Rattle.definition_cycle.proofs.Laws.Moves.{Enclosing, at_ready, at_rows, inside-next, under_less, under_next, under-inside, room-behind}
use Rattle.definition_cycle.proofs.Laws.Steadies.{steady_fits, steady_use}
use Rattle.definition_cycle.specs.Inner.Queries.{DoesQuery}
use Rattle.definition_cycle.specs.Inner.Asks.{tree_of, AsksExpr, AsksLiteral, Begun, AsksQuery}
use Rattle.definition_cycle.specs.Inner.Does.{DoesUse, DoesStep, every_step}
use Rattle.definition_cycle.proofs.Laws.Witnesses.{members-held, some_mods, some_stand}
use Rattle.sheet.specs.Inner.Rows.{in_tables}

module _ (t : List ℕ) (ok : Accepted t) (outer spans : List ℕ) (st : Statement) (x : Context) (p : Progress) (firsts work : List ℕ)
    (five : st.form ≡ 5) (asks : AsksLiteral t outer spans st x p firsts work) where
  abbrev nested : Nested
  nested = nested_by t x.levels

  abbrev way : List Scope → Way
  way = way_by t x.levels

  abbrev domain : Tree
  domain = tree_of t st.third

  abbrev most : ℕ
  most = suc (literal_size (literal_of (sheet_at t) st))

  literal-is : literal_of (sheet_at t) st ≡ every (tree_of t st.first) (tree_of t st.second) domain st.query
  unfolding literal_of
  literal-is = rw five

  enough : bracket_vars domain + 1 ≤ most
  enough = rw literal-is (omega (arith, brackets_fit domain))

  -- ---- what the statement names

  pub every-named : NamedParts t st
  every-named = subst (NamedParts t) (sym asks.is) (named-at t ok asks.row (λ z. omega (arith, asks.there)) asks.low)

  here : enclosing_query (counts_at t) (in_tables t) (statement_row asks.row) ≡ asks.under.at.query
  here = statement-there (counts_at t) t asks.under.at.query asks.row asks.there asks.lies

  lie : StatementInside (counts_at t) t asks.under.at.query st
  lie =
      subst (StatementInside (counts_at t) t asks.under.at.query) (sym asks.is)
      (statement-lies (counts_at t) t ok.within ok.fine asks.under.at.query asks.row asks.there asks.low here)

  opens : Nests (counts_at t) (in_tables t) asks.under.at.query st.query × (st.query ≤ query_count t)
  opens =
      subst (λ (v : Statement). Nests (counts_at t) (in_tables t) asks.under.at.query v.query × (v.query ≤ query_count t)) (sym asks.is)
      (every_opens (counts_at t) t ok.within ok.fine asks.under.at.query asks.row asks.there asks.low here
      (ap (λ (v : Statement). v.form) (sym asks.is) ∙ five))

  module _ (inner : List ℕ) (closed : Encloses outer p.scope spans inner) (none : Names) (clear : Empty none.words) where
    -- ---- the domain

    closing : Enclosing t outer spans p inner
    closing parents o sc a = scopes_enclosed outer p.scope spans inner closed parents o sc a

    abbrev within : (n : ℕ) → n ≤ most → Inside t inner p firsts work n
    within n l = under-inside t outer spans inner p firsts work n closing (under_less t outer spans p firsts work most n l asks.under)

    pub use_asks : AsksExpr t inner st.third 0 x p firsts work (bracket_vars domain)
    use_asks = record {
      inside = within (bracket_vars domain) (omega (arith, enough));
      first-lies = lie.third;
      second-lies = inl refl;
      mods_lie = asks.mods_lie;
      mods-low = asks.mods-low;
    }

    module _ (u : Using) (firsts' work' : List ℕ) (uses : DoesUse t inner none domain x p firsts work u firsts' work') where
      pub one-fits : FitsFront u.progress work' 1
      one-fits =
          let m = some_mods t x in
          let cost = bracket_vars domain in
          let next = inside-next t inner p u.progress firsts firsts' work work' (cost + 1) cost 1
          (λ parents. use_expr (sheet_at t) (way parents) x.statement [] m domain)
          (λ parents. steady_use t x.levels parents x.statement [] m domain) (omega arith)
          (uses.runs m (some_stand t x) [] (holds-none none clear)) (within (cost + 1) enough) in
          ready-fits t u.progress firsts' work' 1 (at_ready t next.spans u.progress firsts' work' 1 next.at)

      module _ (s : Progress) (work'' : List ℕ) (one : OneRecorded x.statement u.names u.progress work' s work'') where
        abbrev plain : List Scope → Mods → State → State
        plain parents m = process_plain_expr (sheet_at t) (way parents) x.statement m domain

        abbrev record_used : List Scope → Mods → State → State
        record_used parents m v = record_one x.statement 0 (all_used (sheet_at t) (way parents) [] m domain v) v

        abbrev used : List Scope → Mods → State → State
        used parents m v = use_expr (sheet_at t) (way parents) x.statement [] m domain v

        plain-is : (parents : List Scope) (m : Mods) (v : State) → guarded (record_used parents m) (used parents m v) ≡ guarded (plain parents m) v
        unfolding process_plain_expr
        plain-is parents m v = go (fault_cases v.run.fault)
          where
            go : (v.run.fault ≡ sound) ⊎ (v.run.fault ≡ sound → ⊥) → guarded (record_used parents m) (used parents m v) ≡ guarded (plain parents m) v
            go (inl e) =
                ap (λ (z : State). guarded (record_used parents m) z) (sym (guarded-sound (used parents m) v e)) ∙ sym (guarded-sound (plain parents m) v e)
            go (inr n) =
                ap (λ (z : State). guarded (record_used parents m) z) ((steady_use t x.levels parents x.statement [] m domain).stays v n)
                ∙ guarded-stays v n (record_used parents m) ∙ sym (guarded-stays v n (plain parents m))

        module _ (m : Mods) (stands : Stands t x m) (parents : List Scope) (v : State) (o : Outer outer parents) (a : Agree t spans p firsts work v) where
          around_it : Surrounds t inner parents v
          around_it e = closing parents o v.scope (a.whole e).scope

          after_use : Agree t spans u.progress firsts' work' (used parents m v)
          after_use = (uses.runs m stands [] (holds-none none clear)).agrees parents spans v around_it a

          after_one : Agree t spans s firsts' work'' (guarded (plain parents m) v)
          after_one = subst (Agree t spans s firsts' work'') (plain-is parents m v) (go (bool_cases (is_sound u.progress.fault)))
            where
              go : (is_sound u.progress.fault ≡ true) ⊎ (is_sound u.progress.fault ≡ false)
                  → Agree t spans s firsts' work'' (guarded (record_used parents m) (used parents m v))
              go (inl b) =
                  let z = used parents m v in
                  let all = all_used (sheet_at t) (way parents) [] m domain z in
                  let h = uses.names m stands [] (holds-none none clear) b parents spans v around_it a in
                  subst (Agree t spans s firsts' work'') (if_same z.run.fault (record_one x.statement 0 all) (record_used parents m) z refl)
                  ((one t all firsts' h).agrees spans z after_use)
              go (inr b) =
                  let z = used parents m v in
                  let faulty : z.run.fault ≡ sound → ⊥ = λ e. not_sound u.progress.fault b (after_use.fault ∙ e) in
                  let f = record_one x.statement 0 (members u.names.words) in
                  subst (Agree t spans s firsts' work'') (guarded-stays z faulty f ∙ sym (guarded-stays z faulty (record_used parents m)))
                  ((one t (members u.names.words) firsts' (members-held u.names)).agrees spans z after_use)

        grows : (m : Mods) → Stands t x m → Grown t p work s work''
        grows m stands =
            grown_then t p u.progress s work work' work'' (uses.runs m stands [] (holds-none none clear)).grown
            (one t (members u.names.words) firsts' (members-held u.names)).grown

        plain_steps : (m : Mods) (parents : List Scope) → Step (sheet_at t) (suc x.statement) (bracket_vars domain + 1) (guarded (plain parents m))
        unfolding process_plain_expr
        plain_steps m parents v =
            step_if (sheet_at t) (plain parents m)
            (step_at-most (sheet_at t) (bracket_vars domain + 1)
            (adds_turn (sheet_at t) (adds_use_expr (sheet_at t) nested parents (steady_fits t x.levels) x.statement [] m domain
            ⨾ (λ z. adds_record_one (sheet_at t) x.statement 0 (all_used (sheet_at t) (way parents) [] m domain z) z)
            ⨾ end)) (omega arith)) v.run.fault v

        abbrev after : Under t outer spans s firsts' work'' 0
        after =
            let m = some_mods t x in
            under_next t outer spans p s firsts firsts' work work'' most (bracket_vars domain + 1) 0 (suc x.statement) (λ parents. guarded (plain parents m))
            (plain_steps m) (omega (arith, enough))
            (record { grown = grows m (some_stand t x); agrees = after_one m (some_stand t x) }) asks.under

        -- The rows have n words, as the code counts them.
        pub room_at : (n : ℕ) → n ≡ Widths.row_words s.width * s.count → n + answers_size s.width ≤ length work''
        room_at n is = omega (arith, is, at_rows t spans s firsts' work'' 0 after.at)

        -- The scopes around nested queries are as they were.
        outer_then : (m : Mods) (parents : List Scope) (v : State) → Outer outer parents → Agree t spans p firsts work v
            → (guarded (plain parents m) v).run.fault ≡ sound → Outer inner ((guarded (plain parents m) v).scope ∷ parents)
        outer_then m parents v o a e =
            let before = was_sound v (guarded (plain parents m) v) (λ n. guarded-stays v n (plain parents m)) e in
            same_scope_outer (keeps_guarded (plain parents m) (keeps_process_plain_expr (sheet_at t) nested parents x.statement m domain) v) inner parents
            (closing parents o v.scope (a.whole before).scope)

        -- ---- the body

        abbrev lent : (n : ℕ) → n ≡ Widths.row_words s.width * s.count → List ℕ
        lent n n-is = tail s.width work'' n (room_at n n-is)

        lent-table : (n : ℕ) (n-is : n ≡ Widths.row_words s.width * s.count) (z : State) → Agree t spans s firsts' work'' z → z.run.fault ≡ sound → Table s.width t (lent n n-is) z.run.schedules
        lent-table n n-is z a e =
            table_of s.width t work'' (lent n n-is) z.run.schedules (omega (arith, room_at n n-is, tail-length s.width work'' n (room_at n n-is)))
            (tail-answers s.width work'' n (room_at n n-is)) (a.whole e).table

        abbrev key_value : Scope
        key_value = foldl add_local no_scope (vars (chain_at t st.first ++ chain_at t st.second))

        module _ (n : ℕ) (n-is : n ≡ Widths.row_words s.width * s.count) (body : List ℕ) (bodied : EveryBody t inner st.first st.second body) (query : ℕ)
            (which : query ≡ cond (is_sound s.fault) st.query 0) where
          begun : is_sound s.fault ≡ true → Begun t s.width body (lent n n-is) query 0 0
          begun b =
              let q : query ≡ st.query = which ∙ rw b in
              let at = after.at in
              let fine = agree_sound t spans s firsts' work'' at.state at.agrees b in
              let o = outer_then (some_mods t x) asks.under.at.parents asks.under.at.state asks.under.beneath asks.under.at.agrees fine in
              record {
                from = omega (arith, q, opens.0.not_first);
                to = omega (arith, q, opens.1);
                key-low = omega arith;
                value_low = omega arith;
                key-lies = inl refl;
                value-lies = inl refl;
                room = rw q (room-behind s.width (length work'') _ s.count n n-is _ at.room (room_at n n-is)
                    (omega (arith, at.agrees.count, above_later_at t asks.under.at.query st.query opens.0.larger opens.1))
                    (length (lent n n-is)) (tail-length s.width work'' n (room_at n n-is)));
                parents = key_value ∷ (at.state.scope ∷ at.parents);
                beneath = bodied (at.state.scope ∷ at.parents) o;
                schedules = at.state.run.schedules;
                table = lent-table n n-is at.state at.agrees fine;
              }

          pub query-asks : AsksQuery t s.width body (lent n n-is) query 0 0
          query-asks = go (bool_cases (is_sound s.fault))
            where
              go : (is_sound s.fault ≡ true) ⊎ (is_sound s.fault ≡ false) → AsksQuery t s.width body (lent n n-is) query 0 0
              go (inl b) = inr (begun b)
              go (inr b) = inl (which ∙ rw b)

          module _ (fault : Option Fault) (part : List ℕ) (long : length part ≡ length (lent n n-is))
              (does : DoesQuery t s.width body query 0 0 x.levels (lent n n-is) fault part)
              (r : Progress) (ends : r ≡ cond (is_sound s.fault) (with_fault s fault) s) where
            abbrev now_work : List ℕ
            now_work = tail-whole s.width work'' n (room_at n n-is) part long

            -- Where no query is asked for, work is as it was.
            same-work : query ≡ 0 → now_work ≡ work''
            same-work z =
                ap (λ (l : List ℕ). take n work'' ++ (l ++ post_of n (length work'' - n) work'')) (does.none z).1
                ∙ put_same n (length work'' - n) work''

            same_count : r.count ≡ s.count
            same_count = ap (λ (z : Progress). z.count) ends ∙ go (is_sound s.fault)
              where
                go : (b : Bool) → (cond b (with_fault s fault) s).count ≡ s.count
                go true = refl
                go false = refl

            same_width : r.width ≡ s.width
            same_width = ap (λ (z : Progress). z.width) ends ∙ go (is_sound s.fault)
              where
                go : (b : Bool) → (cond b (with_fault s fault) s).width ≡ s.width
                go true = refl
                go false = refl

            -- The rows are as they were.
            rows_stay : (j : ℕ) → j < Widths.row_words s.width * s.count → get_or now_work j 0 ≡ get_or work'' j 0
            rows_stay j l = whole-front s.width work'' n (room_at n n-is) part long j (omega (arith, n-is))

            abbrev analysed : List Scope → State → State
            analysed parents z = set_run (nested (key_value ∷ (z.scope ∷ parents)) st.query [] z.run) z

            module _ (parents : List Scope) (z : State) (a : Agree t spans s firsts' work'' z)
                (o : z.run.fault ≡ sound → Outer inner (z.scope ∷ parents)) where
              sound-turn : is_sound s.fault ≡ true → Agree t spans (with_fault s fault) firsts' now_work (analysed parents z)
              unfolding set_run
              sound-turn b =
                  let fine = agree_sound t spans s firsts' work'' z a b in
                  let held = a.whole fine in
                  let q : query ≡ st.query = which ∙ rw b in
                  let ne : query ≡ 0 → ⊥ = λ e. omega (arith, q, opens.0.not_first) in
                  let run = nested (key_value ∷ (z.scope ∷ parents)) query (chain_at t 0 ++ chain_at t 0) z.run in
                  let is : run ≡ nested (key_value ∷ (z.scope ∷ parents)) st.query [] z.run = rw (chain-none t ok, q) in
                  let end = does.one ne (key_value ∷ (z.scope ∷ parents)) z.run (bodied (z.scope ∷ parents) (o fine)) fine (lent-table n n-is z a fine) in
                  rw (sym is) (record {
                    fault = end.0;
                    count = a.count;
                    whole = λ e. record {
                      scope = held.scope;
                      used-first = held.used-first;
                      rows = held_same s.width work'' now_work s.count z.definitions held.rows rows_stay;
                      table = table_of s.width t part now_work run.schedules
                          (omega (arith, room_at n n-is, whole_length s.width work'' n (room_at n n-is) part long)) (whole-answers s.width work'' n (room_at n n-is) part long) (end.1 e);
                    };
                  })

              turned : Agree t spans r firsts' now_work (guarded (analysed parents) z)
              turned = go (bool_cases (is_sound s.fault))
                where
                  go : (is_sound s.fault ≡ true) ⊎ (is_sound s.fault ≡ false) → Agree t spans r firsts' now_work (guarded (analysed parents) z)
                  go (inl b) =
                      let is : r ≡ with_fault s fault = ends ∙ rw b in
                      rw (is, guarded-sound (analysed parents) z (agree_sound t spans s firsts' work'' z a b)) (sound-turn b)
                  go (inr b) =
                      let is : r ≡ s = ends ∙ rw b in
                      let faulty : z.run.fault ≡ sound → ⊥ = λ e. not_sound s.fault b (a.fault ∙ e) in
                      rw (is, guarded-stays z faulty (analysed parents), same-work (which ∙ rw b)) a

            pub every_does : DoesStep t (every_step t st x) outer spans x p firsts work r firsts' now_work
            unfolding process_every
            every_does m stands = record {
              grown = grown_then t p s r work work'' now_work (grows m stands) (record {
                long = whole_length s.width work'' n (room_at n n-is) part long;
                up = omega (arith, same_count);
                wide = same_width;
                before = rows_stay;
              });
              agrees = λ parents v o a. turned parents (guarded (plain parents m) v) (after_one m stands parents v o a) (outer_then m parents v o a);
            }

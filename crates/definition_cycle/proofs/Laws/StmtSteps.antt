-- A statement's own turn in `process_stmts`: its modifiers, its literal, and a definition where it has none; then the statements after it.
use mathlib.Core.Path.{◌≡◌, refl, sym, ap, ◌∙◌, subst}
use mathlib.Core.Bool.{true, false}
use mathlib.Core.List.{List, [], ◌∷◌}
use mathlib.Core.Logic.{◌⊎◌, inl, inr}
use Prim.Native.Nat.{ℕ, suc, ◌+◌, ◌*◌, ◌≤◌, ◌<◌}
use native.Mathlib.Omega.{arith}
use lib.ListN.{get_or}
use borrow.Author.Tests.{lt-ltb, ltb-true}
use Rattle.base.proofs.Laws.Truth.{bool_cases}
use Rattle.base.specs.Lists.{all, concat_map}
use Rattle.base.proofs.Laws.Members.{all_mem}
use Rattle.base.specs.Sets.{members}
use Rattle.names.specs.Inner.Sets.{Empty}
use Rattle.names.proofs.Laws.Laws.{elem-members}
use Rattle.names.specs.Inner.Names.{Names}
use Rattle.names_width.specs.declared.Width.{Width}
use Rattle.names_width.specs.declared.Width.TheVariants.{Two, Eight}
use Rattle.names_width.specs.Inner.Widths as Widths
use Rattle.sheet.specs.declared.Statement.{Statement}
use Rattle.sheet.specs.Inner.Records.{statement_row_at}
use Rattle.order.specs.Definitions.{Definition}
use Rattle.order.specs.Call.{definition_at}
use Rattle.order_rows.specs.Inner.Rows.{held_row}
use Rattle.base.proofs.Laws.ListLaws.{all_append, all_weaken}
use Rattle.scope.specs.Trees.{Tree, tree_at}
use Rattle.scope.specs.Traverse.{comprs}
use Rattle.scope.specs.Statements.{Stmt, literal_of}
use Rattle.scope.specs.Scopes.{Scope}
use Rattle.definition.specs.States.{sound, State, in_turn}
use Rattle.definition.specs.Using.{gather_used_vars, at_least_one}
use Rattle.definition.specs.Comprs.{Mods}
use Rattle.definition.specs.Queries.{mods_of, process_literal, process_stmt, process_stmts}
use Rattle.definition_room.specs.Inner.Sizes.{total, size, literal_size, weight}
use Rattle.definition_room.proofs.Laws.Lists.{total_mono}
use Rattle.definition_room.specs.Inner.Leaves.{bracket_vars}
use Rattle.definition_room.proofs.Laws.Leaves.{brackets_fit}
use Rattle.definition_room.specs.Inner.Adds.{below}
use Rattle.definition_room.proofs.Laws.Adds.{AddsDefinitions, Step, adds_definitions_then, adds_at_most, step_if}
use Rattle.definition_room.proofs.Laws.Recording.{AddsFor, for_if}
use Rattle.definition_room.proofs.Laws.Statements.{adds_process_literal, adds_with_mods, adds_process_stmt}
use Rattle.definition_room.proofs.Laws.Lying.{statement-there}
use Rattle.definition_room.proofs.Laws.StatementHomes.{StatementInside, statement-lies}
use Rattle.scope_walk.specs.Inner.Sheets.{counts_at, sheet_at, Accepted, expr_count, statement_count}
use Rattle.scope_state.specs.Inner.Chains.{chain_at}
use Rattle.scope_state.specs.Inner.Outers.{Outer}
use Rattle.scope_gather.specs.Inner.Queries.{stmts_left, stmts_at_row}
use Rattle.scope_gather.proofs.Laws.Queries.{stmts_at-none, stmts_at-row, next_stmt}
use Rattle.definition_walk.specs.Inner.Own.{Holds}
use Rattle.definition_walk.proofs.Laws.Adds.{adds_holds}
use Rattle.definition_expr.specs.declared.Using.{Using}
use Rattle.definition_expr.specs.Inner.Gathers.{use_each}
use Rattle.definition_expr.proofs.Laws.Gathers.{used_after_each}
use Rattle.definition_expr.specs.Inner.UsesMods.{UsesMods}
use Rattle.definition_state.specs.declared.Progress.{Progress}
use Rattle.definition_state.specs.Inner.Faults.{is_sound, meaning}
use Rattle.definition_state.specs.Inner.Frames.{guarded, Agree, Ready}
use Rattle.definition_state.proofs.Laws.Frames.{grown_then}
use Rattle.definition_state.proofs.Laws.Steps as frame
use Rattle.definition_record.proofs.Laws.Guards.{if_same}
use Rattle.definition_record.specs.Inner.Front.{FitsFront}
use Rattle.definition_record.specs.Inner.Least.{LeastOne}
use Rattle.definition_literal.specs.declared.context.Context.{Context}
use Rattle.definition_literal.specs.Inner.Contexts.{Stands}
use Rattle.definition_steps.proofs.Laws.Guards.{fault_cases, guarded-sound, guarded-stays, turn-stays, fold_stays, was_sound}
use Rattle.definition_steps.proofs.Laws.Chained.{mods-comprs}
use Rattle.definition_cycle.specs.Inner.Budgets.{budget}
use Rattle.definition_cycle.specs.Inner.Sites.{nested_by, way_by, Under, RunsUnder}
use Rattle.definition_cycle.proofs.Laws.Moves.{at_less, at_ready, under_next, runs-under, runs_under_then, runs_under_as}
use Rattle.definition_cycle.proofs.Laws.Steadies.{steady_fits}
use Rattle.definition_cycle.specs.Inner.Asks.{AsksLiteral, AsksStmts}
use Rattle.definition_cycle.specs.Inner.Does.{DoesStep, literal_step, DoesStmts}
use Rattle.definition_cycle.proofs.Laws.ComprRows.{at_low, at_lies}

-- A row that is there begins in front of the end of the rows.
row_below : (v : Width) (j c : ℕ) → j < c → Widths.row_words v * j < Widths.row_words v * c
row_below Two j c l = omega arith
row_below Eight j c l = omega arith

-- It says the statement of its definition.
row-statement : (v : ℕ) (w : List ℕ) (j : ℕ) (d : Definition) → definition_at v w j ≡ held_row v d → get_or w (v * j) 0 ≡ d.statement
unfolding held_row
row-statement v w j d = ap (λ (x : Definition). x.statement)

module _ (t : List ℕ) (ok : Accepted t) (outer spans : List ℕ) (row i levels : ℕ) where
  -- No statement is left.
  pub stmts_end : row ≡ 0 → (p : Progress) (firsts work : List ℕ) → DoesStmts t outer spans row i levels p firsts work p firsts work
  unfolding process_stmts
  stmts_end z p firsts work = rw (z, stmts_at-none t ok) (record {
    grown = record { long = refl; up = omega arith; wide = refl; before = λ j l. refl };
    agrees = λ parents s o a. a;
  })

  module _ (there : row ≡ 0 → ⊥) (high : row ≤ statement_count t) (st : Statement) (is : st ≡ statement_row_at t row) (p : Progress)
      (firsts work : List ℕ) (asks : AsksStmts t outer spans row i p firsts work) where
    abbrev chained : List Tree
    chained = chain_at t st.with

    abbrev own : Stmt
    own = record { literal = literal_of (sheet_at t) st; with_mods = chained }

    stmts_are : stmts_at_row t row ≡ own ∷ stmts_at_row t st.next
    stmts_are =
        subst (λ (v : Statement). stmts_at_row t row ≡ record { literal = literal_of (sheet_at t) v; with_mods = chain_at t v.with } ∷ stmts_at_row t v.next)
        (sym is) (stmts_at-row t ok row there high)

    room : total budget (stmts_at_row t row) ≡ suc (suc (literal_size own.literal + total size chained)) + total budget (stmts_at_row t st.next)
    unfolding weight
    room = ap (total budget) stmts_are

    named : StatementInside (counts_at t) t asks.under.at.query st
    named =
        subst (StatementInside (counts_at t) t asks.under.at.query) (sym is)
        (statement-lies (counts_at t) t ok.within ok.fine asks.under.at.query row (omega arith) high
        (statement-there (counts_at t) t asks.under.at.query row (omega arith) asks.lies))

    -- ---- the modifiers

    pub with-low : st.with ≤ expr_count t
    with-low = rw is (ok.facts.statement row (omega arith) high).in_with

    pub mods-ready : Ready t p firsts work (total bracket_vars chained)
    mods-ready =
        at_ready t spans p firsts work (total bracket_vars chained)
        (at_less t spans p firsts work (total budget (stmts_at_row t row)) (total bracket_vars chained)
        (omega (arith, room, total_mono bracket_vars size brackets_fit chained)) asks.under.at)

    module _ (none : Names) (clear : Empty none.words) (u : Using) (firsts₁ work₁ : List ℕ)
        (used : UsesMods t i st.with p none firsts work u firsts₁ work₁) where
      abbrev context : Context
      context = record { statement = i; mods = u.comprs; names = u.names; levels = levels }

      abbrev mods : State → State
      mods = use_each (sheet_at t) i chained

      mods-add : Step (sheet_at t) (suc i) (total size chained) mods
      mods-add = adds_with_mods (sheet_at t) (nested_by t levels) [] (steady_fits t levels) i chained

      pub asks-literal : AsksLiteral t outer spans st context u.progress firsts₁ work₁
      asks-literal = record {
        under = under_next t outer spans p u.progress firsts firsts₁ work work₁ (total budget (stmts_at_row t row)) (total size chained)
            (suc (literal_size own.literal)) (suc i) (λ parents. mods) (λ parents. mods-add) (omega (arith, room))
            (runs-under t outer spans mods p u.progress firsts firsts₁ work work₁ used.each.runs) asks.under;
        row = row;
        there = omega arith;
        low = high;
        is = is;
        lies = asks.lies;
        mods_lie = at_lies t true st.with u.comprs used.comprs asks.under.at.query named.with;
        mods-low = at_low t true st.with u.comprs used.comprs with-low;
      }

      -- ---- the literal

      module _ (q : Progress) (firsts₂ work₂ : List ℕ)
          (does : DoesStep t (literal_step t st context) outer spans context u.progress firsts₁ work₁ q firsts₂ work₂) where
        -- After a fault the names stand for what they hold.
        some : Mods
        some = record { used_vars = members u.names.words; comprs = comprs (tree_at (sheet_at t) u.comprs) }

        some_stands : Stands t context some
        unfolding some
        some_stands = record { comprs = refl; names = record { has = λ x. elem-members u.names.words x } }

        stands : (s : State) → Agree t spans p firsts work s → is_sound u.progress.fault ≡ true
            → Stands t context (mods_of (sheet_at t) (mods s).scope chained)
        unfolding mods_of
        stands s a fine = record {
          comprs = mods-comprs (sheet_at t) (mods s).scope (tree_at (sheet_at t) st.with) ∙ sym used.comprs.same;
          names = subst (λ (f : Tree → List ℕ). Holds u.names (concat_map f chained)) (sym (used_after_each (sheet_at t) i chained s []))
              (adds_holds none u.names _ clear (used.each.names spans s a fine));
        }

        abbrev literal : List Scope → State → State
        literal parents =
            guarded (λ v. process_literal (sheet_at t) (way_by t levels parents) i (mods_of (sheet_at t) v.scope chained) own.literal v)

        literal-agrees : (parents : List Scope) (s : State) → Outer outer parents → Agree t spans p firsts work s
            → Agree t spans q firsts₂ work₂ (literal parents (mods s))
        literal-agrees parents s o a = go (bool_cases (is_sound u.progress.fault))
          where
            now : Agree t spans u.progress firsts₁ work₁ (mods s)
            now = used.each.runs.agrees spans s a

            by : Mods → State → State
            by m = process_literal (sheet_at t) (way_by t levels parents) i m own.literal

            go : (is_sound u.progress.fault ≡ true) ⊎ (is_sound u.progress.fault ≡ false)
                → Agree t spans q firsts₂ work₂ (literal parents (mods s))
            go (inl fine) =
                let m = mods_of (sheet_at t) (mods s).scope chained in
                subst (Agree t spans q firsts₂ work₂) (if_same (mods s).run.fault (by m) (λ v. by (mods_of (sheet_at t) v.scope chained) v) (mods s) refl)
                ((does m (stands s a fine)).agrees parents (mods s) o now)
            go (inr bad) =
                subst (Agree t spans q firsts₂ work₂)
                (frame.guarded_when_faulty (by some) (mods s) u.progress.fault now.fault bad
                ∙ sym (frame.guarded_when_faulty (λ v. by (mods_of (sheet_at t) v.scope chained) v) (mods s) u.progress.fault now.fault bad))
                ((does some some_stands).agrees parents (mods s) o now)

        literal-runs : RunsUnder t outer spans (λ parents s. literal parents (mods s)) p firsts work q firsts₂ work₂
        literal-runs = record {
          grown = grown_then t p u.progress q work work₁ work₂ used.each.runs.grown (does some some_stands).grown;
          agrees = literal-agrees;
        }

        for_more : (n : ℕ) (s v : State) → AddsFor (sheet_at t) i n s v → AddsDefinitions (sheet_at t) (suc i) (suc n) s v
        for_more n s v (inl a) = adds_at_most (sheet_at t) (suc n) a (omega arith)
        for_more n s v (inr a) = a.0

        literal_adds : (parents : List Scope)
            → Step (sheet_at t) (suc i) (total size chained + suc (literal_size own.literal)) (λ s. literal parents (mods s))
        literal_adds parents s =
            adds_definitions_then (sheet_at t) (mods-add s)
            (for_more (literal_size own.literal) (mods s) (literal parents (mods s))
            (for_if (sheet_at t) i (λ v. process_literal (sheet_at t) (way_by t levels parents) i (mods_of (sheet_at t) v.scope chained) own.literal v)
            (mods s)
            (adds_process_literal (sheet_at t) (nested_by t levels) parents (steady_fits t levels) i (mods_of (sheet_at t) (mods s).scope chained) own.literal (mods s))
            (mods s).run.fault))

        after-literal : Under t outer spans q firsts₂ work₂ 1
        after-literal =
            under_next t outer spans p q firsts firsts₂ work work₂ (total budget (stmts_at_row t row))
            (total size chained + suc (literal_size own.literal)) 1 (suc i) (λ parents s. literal parents (mods s)) literal_adds (omega (arith, room))
            literal-runs asks.under

        pub least_fits : FitsFront q work₂ 1
        least_fits = omega (arith, after-literal.at.room, after-literal.at.agrees.count)

        -- ---- a definition where there is none

        both_stay : (parents : List Scope) (s : State) → (s.run.fault ≡ sound → ⊥) → literal parents (mods s) ≡ s
        both_stay parents s faulty =
            let none_done : mods s ≡ s =
            fold_stays s (λ v e. in_turn (gather_used_vars (sheet_at t) i [] e ∷ []) v)
            (λ e. turn-stays s faulty (gather_used_vars (sheet_at t) i [] e ∷ [])) chained in
            ap (literal parents) none_done
            ∙ guarded-stays s faulty (λ v. process_literal (sheet_at t) (way_by t levels parents) i (mods_of (sheet_at t) v.scope chained) own.literal v)

        -- The rows in front are of earlier statements.
        front : meaning q.fault ≡ sound → (j : ℕ) → j < p.count → get_or work₂ (Widths.row_words q.width * j) 0 ≡ i → ⊥
        front fine j l e =
            let w = asks.under.at in
            let after = literal-agrees w.parents w.state asks.under.beneath w.agrees in
            let before : w.state.run.fault ≡ sound =
            was_sound w.state (literal w.parents (mods w.state)) (both_stay w.parents w.state) (sym after.fault ∙ fine) in
            let f = (w.agrees.whole before).rows.each j l in
            let low = ltb-true f.0.statement i (all_mem (below i) w.state.definitions (asks.older before) f.1) in
            let v = Widths.row_words p.width in
            let same = literal-runs.grown.before (v * j) (row_below p.width j p.count l) in
            omega (arith, low, same, row-statement v work j f.0 f.2, ap (λ (x : Width). get_or work₂ (Widths.row_words x * j) 0) literal-runs.grown.wide, e)

        module _ (r : Progress) (work₃ : List ℕ) (least : LeastOne i p.count q work₂ r work₃) where
          abbrev turn : List Scope → State → State
          turn parents = in_turn (process_stmt (sheet_at t) (way_by t levels parents) i own ∷ [])

          turn_is : (parents : List Scope) (s : State) → guarded (at_least_one i) (literal parents (mods s)) ≡ turn parents s
          unfolding process_stmt
          turn_is parents s = go (fault_cases s.run.fault)
            where
              go : (s.run.fault ≡ sound) ⊎ (s.run.fault ≡ sound → ⊥) → guarded (at_least_one i) (literal parents (mods s)) ≡ turn parents s
              go (inl e) =
                  sym (guarded-sound (process_stmt (sheet_at t) (way_by t levels parents) i own) s e
                  ∙ ap (λ (v : State). guarded (at_least_one i) (literal parents v)) (guarded-sound mods s e))
              go (inr n) =
                  ap (guarded (at_least_one i)) (both_stay parents s n) ∙ guarded-stays s n (at_least_one i)
                  ∙ sym (turn-stays s n (process_stmt (sheet_at t) (way_by t levels parents) i own ∷ []))

          turn-runs : RunsUnder t outer spans turn p firsts work r firsts₂ work₃
          turn-runs =
              runs_under_as t outer spans (λ parents s. guarded (at_least_one i) (literal parents (mods s))) turn p r firsts firsts₂ work work₃ turn_is
              (runs_under_then t outer spans (λ parents s. literal parents (mods s)) (λ parents. guarded (at_least_one i)) p q r firsts firsts₂ firsts₂
              work work₂ work₃ literal-runs
              (runs-under t outer spans (guarded (at_least_one i)) q r firsts₂ firsts₂ work₂ work₃ (least front t firsts₂)))

          turn_adds : (parents : List Scope) → Step (sheet_at t) (suc i) (suc (literal_size own.literal + total size chained)) (turn parents)
          unfolding weight
          turn_adds parents s =
              step_if (sheet_at t) (process_stmt (sheet_at t) (way_by t levels parents) i own)
              (adds_process_stmt (sheet_at t) (nested_by t levels) parents (steady_fits t levels) i own) s.run.fault s

          -- ---- the statements after it

          next-older : (s : State) (parents : List Scope) → (s.run.fault ≡ sound → all (below i) s.definitions ≡ true)
              → (turn parents s).run.fault ≡ sound → all (below (suc i)) (turn parents s).definitions ≡ true
          next-older s parents older e =
              let before = was_sound s (turn parents s) (λ n. turn-stays s n (process_stmt (sheet_at t) (way_by t levels parents) i own ∷ [])) e in
              let adds = turn_adds parents s in
              subst (λ (ds : List Definition). all (below (suc i)) ds ≡ true) (sym adds.appended)
              (all_append (below (suc i)) s.definitions adds.more
              (all_weaken (below i) (below (suc i)) (λ d h. lt-ltb d.statement (suc i) (omega (arith, ltb-true d.statement i h))) s.definitions (older before))
              adds.low)

          -- The number that the code counts to.
          counted : suc i ≡ i + 1
          counted = omega arith

          pub asks-next : AsksStmts t outer spans st.next (i + 1) r firsts₂ work₃
          asks-next = subst (λ (n : ℕ). AsksStmts t outer spans st.next n r firsts₂ work₃) counted (record {
            under = under_next t outer spans p r firsts firsts₂ work work₃ (total budget (stmts_at_row t row))
                (suc (literal_size own.literal + total size chained)) (total budget (stmts_at_row t st.next)) (suc i) turn turn_adds (omega (arith, room))
                turn-runs asks.under;
            lies = named.next;
            few = omega (arith, asks.few, (next_stmt t ok row (stmts_left t row) there high refl st is).0);
            older = next-older asks.under.at.state asks.under.at.parents asks.older;
          })

          pub stmts_turn : (v : Progress) (firsts₃ work₄ : List ℕ) → DoesStmts t outer spans st.next (i + 1) levels r firsts₂ work₃ v firsts₃ work₄
              → DoesStmts t outer spans row i levels p firsts work v firsts₃ work₄
          unfolding process_stmts
          stmts_turn v firsts₃ work₄ rest =
              let others : List Scope → State → State = λ parents. process_stmts (sheet_at t) (way_by t levels parents) (suc i) (stmts_at_row t st.next) in
              runs_under_as t outer spans (λ parents s. others parents (turn parents s))
              (λ parents. process_stmts (sheet_at t) (way_by t levels parents) i (stmts_at_row t row)) p v firsts firsts₃ work work₄
              (λ parents s. ap (λ (l : List Stmt). process_stmts (sheet_at t) (way_by t levels parents) i l s) (sym stmts_are))
              (runs_under_then t outer spans turn others p r v firsts firsts₂ firsts₃ work work₃ work₄ turn-runs
              (subst (λ (n : ℕ). DoesStmts t outer spans st.next n levels r firsts₂ work₃ v firsts₃ work₄) (sym counted) rest))

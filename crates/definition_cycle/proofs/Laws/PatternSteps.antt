-- The parts of a some-in pattern that are no variables, one after the other.
use mathlib.Core.Path.{◌≡◌, refl, sym, ap, ◌∙◌, subst}
use mathlib.Core.Bool.{Bool, true, false, cond}
use mathlib.Core.List.{List, [], ◌∷◌, ◌++◌, foldl, foldl-append}
use mathlib.Core.Logic.{◌⊎◌, inl, inr}
use Prim.Native.Nat.{ℕ, suc, ◌+◌, ◌≤◌}
use native.Mathlib.Omega.{arith}
use Rattle.base.proofs.Laws.Truth.{bool_cases}
use Rattle.sheet.specs.declared.Row.{Row}
use Rattle.sheet.specs.Inner.Sheet.{row_at}
use Rattle.sheet.specs.Kinds.{is_pattern}
use Rattle.scope.specs.Trees.{Tree}
use Rattle.scope.specs.Scopes.{Scope}
use Rattle.definition.specs.States.{sound, State}
use Rattle.definition.specs.Comprs.{Mods}
use Rattle.definition.specs.SomeIn.{non_vars, process_non_var}
use Rattle.definition_room.specs.Inner.Sizes.{total}
use Rattle.definition_room.proofs.Laws.Lists.{total-append, total-filter}
use Rattle.definition_room.specs.Inner.Leaves.{bracket_vars}
use Rattle.definition_room.proofs.Laws.Adds.{adds_at_most, turn-fold}
use Rattle.definition_room.proofs.Laws.SomeIn.{adds_process_non_var}
use Rattle.sheet.specs.Naming.{expr_row}
use Rattle.sheet.specs.Inner.Enclosing.{enclosing_query}
use Rattle.definition_room.proofs.Laws.Lying.{lies-there}
use Rattle.definition_room.proofs.Laws.Homes.{pattern_no_compr, next-lies, fields_lie}
use Rattle.scope_walk.specs.Inner.Sheets.{counts_at, sheet_at, Accepted, expr_count}
use Rattle.scope_walk.specs.Inner.Exprs.{expr_by}
use Rattle.definition_steps.proofs.Laws.Guards.{fault_cases, non_vars_stay}
use Rattle.definition_steps.proofs.Laws.Same.{same-non_vars}
use Rattle.definition_steps.proofs.Laws.Pairs.{leaves_at-none, leaves_at-row}
use Rattle.definition_steps.proofs.Laws.KeepsNested.{keeps_process_non_vars}
use Rattle.definition_literal.specs.declared.context.Context.{Context}
use Rattle.definition_literal.specs.Inner.Contexts.{Stands}
use Rattle.definition_literal.specs.Inner.SomeIn.{NonVar}
use Rattle.definition_state.specs.declared.Progress.{Progress}
use Rattle.definition_state.specs.Inner.Frames.{Agree}
use Rattle.definition_state.proofs.Laws.Frames.{grown_then}
use Rattle.definition_cycle.specs.Inner.Sites.{nested_by, way_by, LiesIn, Surrounds, Inside}
use Rattle.definition_cycle.specs.Inner.Asks.{other_at, AsksExpr}
use Rattle.definition_steps.specs.Inner.Pairs.{leaves_at}
use Rattle.definition_cycle.specs.Inner.Does.{DoesOthers, DoesNonVars}
use Rattle.definition_cycle.proofs.Laws.Moves.{Steady, inside_less, inside-next, around-next}
use Rattle.definition_cycle.proofs.Laws.Steadies.{steady_fits, steady_others}
use Rattle.definition_cycle.proofs.Laws.Witnesses.{some_mods, some_stand}
use Rattle.definition_cycle.proofs.Laws.Patterns.{other-is, non_vars-none, non_vars-row, non_var_either, non_var_pattern}
use Rattle.sheet.specs.Inner.Rows.{in_tables}

module _ (t : List ℕ) where
  -- ---- the steps

  module _ (levels : ℕ) (parents : List Scope) (i : ℕ) (m : Mods) where
    abbrev pub process_parts : List Tree → State → State
    process_parts es s = foldl (process_non_var (sheet_at t) (way_by t levels parents) i m) s es

    -- The parts that are no variables in the scope as it is.
    abbrev pub process_others : List Tree → State → State
    process_others ls s = process_parts (non_vars (sheet_at t) s.scope ls) s

    few : (sc : Scope) (ls : List Tree) → total bracket_vars (non_vars (sheet_at t) sc ls) ≤ total bracket_vars ls
    unfolding non_vars
    few sc ls = total-filter bracket_vars _ ls

    pub steady_non_vars : (ls : List Tree) → Steady t (total bracket_vars ls) (process_others ls)
    steady_non_vars ls = record {
      below = suc i;
      adds = λ s.
          adds_at_most (sheet_at t) (total bracket_vars ls)
          (turn-fold (sheet_at t) bracket_vars (process_non_var (sheet_at t) (way_by t levels parents) i m)
          (adds_process_non_var (sheet_at t) (nested_by t levels) parents (steady_fits t levels) i m) (non_vars (sheet_at t) s.scope ls) s) (few s.scope ls);
      keeps = λ s. (steady_others t levels parents i m (non_vars (sheet_at t) s.scope ls)).keeps s;
      stays = λ s h. (steady_others t levels parents i m (non_vars (sheet_at t) s.scope ls)).stays s h;
    }

    -- Own names stay, so the same parts are found later.
    later : (es ls : List Tree) (s : State) → process_others ls (process_parts es s) ≡ process_parts (non_vars (sheet_at t) s.scope ls) (process_parts es s)
    later es ls s =
        ap (λ (k : List Tree). process_parts k (process_parts es s))
        (same-non_vars (keeps_process_non_vars (sheet_at t) (nested_by t levels) parents i m es s) (sheet_at t) ls)

    -- Two patterns.
    pub others_append : (k l : List Tree) (s : State) → non_vars (sheet_at t) s.scope (k ++ l) ≡ non_vars (sheet_at t) s.scope k ++ non_vars (sheet_at t) s.scope l
        → process_others l (process_others k s) ≡ process_others (k ++ l) s
    others_append k l s e =
        later (non_vars (sheet_at t) s.scope k) l s
        ∙ sym (ap (λ (es : List Tree). process_parts es s) e
        ∙ foldl-append (process_non_var (sheet_at t) (way_by t levels parents) i m) s (non_vars (sheet_at t) s.scope k) (non_vars (sheet_at t) s.scope l))

    -- A row, the parts of a pattern, and the rest of the chain.
    three : (es k l : List Tree) (whole : List Tree) (s : State)
        → (non_vars (sheet_at t) s.scope whole ≡ es ++ (non_vars (sheet_at t) s.scope k ++ non_vars (sheet_at t) s.scope l))
        → process_others l (process_others k (process_parts es s)) ≡ process_others whole s
    three es k l whole s e =
        let found : List Tree → List Tree = λ ls. non_vars (sheet_at t) s.scope ls in
        let g = process_non_var (sheet_at t) (way_by t levels parents) i m in
        ap (process_others l) (later es k s ∙ sym (foldl-append g s es (found k)))
        ∙ later (es ++ found k) l s
        ∙ ap (λ (u : State). foldl g u (found l)) (foldl-append g s es (found k))
        ∙ sym (ap (λ (k : List Tree). process_parts k s) e ∙ foldl-append g s es (found k ++ found l) ∙ foldl-append g (foldl g s es) (found k) (found l))

  -- ---- the function

  module _ (ok : Accepted t) (inner : List ℕ) where
    pub non_vars_do_none : (row : ℕ) → row ≡ 0 → (x : Context) (p : Progress) (firsts work : List ℕ) → DoesNonVars t inner row x p firsts work p firsts work
    non_vars_do_none row z x p firsts work m stands = record {
      grown = record { long = refl; up = omega arith; wide = refl; before = λ j l. refl };
      agrees = λ parents spans s o a. subst (Agree t spans p firsts work)
          (sym (ap (λ (es : List Tree). process_parts x.levels parents x.statement m es s) (non_vars-none t s.scope ok row z))) a;
    }

    module _ (row : ℕ) (there : row ≡ 0 → ⊥) (high : row ≤ expr_count t) (w : Row) (is : w ≡ row_at t row) (items : ℕ)
        (ps : items ≡ cond (is_pattern w) w.first 0) (x : Context) (p : Progress) (other : ℕ) (os : NonVar t p.scope row w other)
        (firsts work : List ℕ) where
      abbrev Given : Type 0
      Given = AsksExpr t inner row 0 x p firsts work (total bracket_vars (leaves_at t row))

      abbrev cost : ℕ → ℕ
      cost r = total bracket_vars (leaves_at t r)

      no_cost : cost 0 ≡ 0
      no_cost = ap (total bracket_vars) (leaves_at-none t ok 0 refl)

      abbrev own : Bool → List Tree
      own b = cond b (leaves_at t (row_at t row).first) (expr_by t false row ∷ [])

      own-cost : total bracket_vars (other_at t other) + cost items ≤ total bracket_vars (own (is_pattern (row_at t row)))
      own-cost = go (bool_cases (is_pattern (row_at t row))) (non_var_either t p.scope row w other os)
        where
          go : (is_pattern (row_at t row) ≡ true) ⊎ (is_pattern (row_at t row) ≡ false) → (other ≡ 0) ⊎ (other ≡ row)
              → total bracket_vars (other_at t other) + cost items ≤ total bracket_vars (own (is_pattern (row_at t row)))
          go (inl h) c =
              let none : other ≡ 0 = non_var_pattern t p.scope row w other os (ap is_pattern is ∙ h) in
              let first : items ≡ (row_at t row).first = ps ∙ rw (is, h) in
              rw (none, first, h) (omega arith)
          go (inr h) (inl z) =
              let none : items ≡ 0 = ps ∙ rw (is, h) in
              rw (z, none, h) (omega (arith, no_cost))
          go (inr h) (inr z) =
              let none : items ≡ 0 = ps ∙ rw (is, h) in
              rw (z, none, h, other-is t row there) (omega (arith, no_cost))

      costs : total bracket_vars (other_at t other) + (cost items + cost w.next) ≤ cost row
      costs =
          let next : cost w.next ≡ cost (row_at t row).next = ap (λ (v : Row). cost v.next) is in
          omega (
            arith,
            next,
            own-cost,
            ap (total bracket_vars) (leaves_at-row t ok row there high),
            total-append bracket_vars (own (is_pattern (row_at t row))) (leaves_at t (row_at t row).next),
          )

      -- ---- what it asks

      other-lies : (q : ℕ) → LiesIn t q row → LiesIn t q other
      other-lies q l = go (non_var_either t p.scope row w other os)
        where
          go : (other ≡ 0) ⊎ (other ≡ row) → LiesIn t q other
          go (inl z) = inl z
          go (inr z) = rw z l

      module _ (q : ℕ) (l : LiesIn t q row) where
        lies : enclosing_query (counts_at t) (in_tables t) (expr_row row) ≡ q
        lies = lies-there (counts_at t) t q row (omega arith) l

        items_lie : LiesIn t q items
        items_lie = go (bool_cases (is_pattern (row_at t row)))
          where
            go : (is_pattern (row_at t row) ≡ true) ⊎ (is_pattern (row_at t row) ≡ false) → LiesIn t q items
            go (inl h) =
                let first : items ≡ (row_at t row).first = ps ∙ rw (is, h) in
                rw first (fields_lie (counts_at t) t ok.within ok.fine q row (omega arith) high lies (pattern_no_compr (row_at t row) h)).first
            go (inr h) = inl (ps ∙ rw (is, h))

        rest-lies : LiesIn t q w.next
        rest-lies = rw is (next-lies (counts_at t) t ok.within ok.fine q row (omega arith) high lies)

      pub asks-other : Given → AsksExpr t inner other 0 x p firsts work (total bracket_vars (other_at t other))
      asks-other h = record {
        inside = inside_less t inner p firsts work (cost row) (total bracket_vars (other_at t other)) (omega (arith, costs)) h.inside;
        first-lies = other-lies h.inside.at.query h.first-lies;
        second-lies = inl refl;
        mods_lie = h.mods_lie;
        mods-low = h.mods-low;
      }

      module _ (q : Progress) (fs ws : List ℕ) (one : DoesOthers t inner (other_at t other) x p firsts work q fs ws) where
        abbrev inside-items : Given → Inside t inner q fs ws (cost items + cost w.next)
        inside-items h =
            inside-next t inner p q firsts fs work ws (cost row) (total bracket_vars (other_at t other)) (cost items + cost w.next)
            (λ parents. process_parts x.levels parents x.statement (some_mods t x) (other_at t other))
            (λ parents. steady_others t x.levels parents x.statement (some_mods t x) (other_at t other)) costs (one (some_mods t x) (some_stand t x)) h.inside

        pub asks-parts : Given → AsksExpr t inner items 0 x q fs ws (cost items)
        asks-parts h = record {
          inside = inside_less t inner q fs ws (cost items + cost w.next) (cost items) (omega arith) (inside-items h);
          first-lies = items_lie h.inside.at.query h.first-lies;
          second-lies = inl refl;
          mods_lie = h.mods_lie;
          mods-low = h.mods-low;
        }

        module _ (r : Progress) (gs vs : List ℕ) (two : DoesNonVars t inner items x q fs ws r gs vs) where
          pub asks_rest : Given → AsksExpr t inner w.next 0 x r gs vs (cost w.next)
          asks_rest h = record {
            inside = inside-next t inner q r fs gs ws vs (cost items + cost w.next) (cost items) (cost w.next)
                (λ parents. process_others x.levels parents x.statement (some_mods t x) (leaves_at t items))
                (λ parents. steady_non_vars x.levels parents x.statement (some_mods t x) (leaves_at t items)) (omega arith) (two (some_mods t x) (some_stand t x)) (inside-items h);
            first-lies = rest-lies h.inside.at.query h.first-lies;
            second-lies = inl refl;
            mods_lie = h.mods_lie;
            mods-low = h.mods-low;
          }

          -- ---- what it does

          module _ (z : Progress) (hs us : List ℕ) (last : DoesNonVars t inner w.next x r gs vs z hs us) where
            module _ (m : Mods) (stands : Stands t x m) (parents : List Scope) (spans : List ℕ) (s : State) (o : Surrounds t inner parents s)
                (a : Agree t spans p firsts work s) where
              abbrev by : List Tree → State → State
              by = process_parts x.levels parents x.statement m

              abbrev through : List Tree → State → State
              through = process_others x.levels parents x.statement m

              same_end : through (leaves_at t w.next) (through (leaves_at t items) (by (other_at t other) s)) ≡ through (leaves_at t row) s
              same_end = go (fault_cases s.run.fault)
                where
                  stay : (s.run.fault ≡ sound → ⊥) → (es : List Tree) → by es s ≡ s
                  stay n es = non_vars_stay (sheet_at t) (way_by t x.levels parents) s n x.statement m es

                  go : (s.run.fault ≡ sound) ⊎ (s.run.fault ≡ sound → ⊥)
                      → through (leaves_at t w.next) (through (leaves_at t items) (by (other_at t other) s)) ≡ through (leaves_at t row) s
                  go (inl clear) =
                      three x.levels parents x.statement m (other_at t other) (leaves_at t items) (leaves_at t w.next) (leaves_at t row) s
                      (non_vars-row t s.scope ok row there high w is items ps other (os s.scope (a.whole clear).scope.sets))
                  go (inr n) =
                      ap (λ (u : State). through (leaves_at t w.next) (through (leaves_at t items) u)) (stay n (other_at t other))
                      ∙ ap (through (leaves_at t w.next)) (stay n (non_vars (sheet_at t) s.scope (leaves_at t items)))
                      ∙ stay n (non_vars (sheet_at t) s.scope (leaves_at t w.next))
                      ∙ sym (stay n (non_vars (sheet_at t) s.scope (leaves_at t row)))

              agree_end : Agree t spans z hs us (through (leaves_at t row) s)
              agree_end =
                  let s₁ = by (other_at t other) s in
                  let o₁ = around-next t inner parents _ (by (other_at t other)) (steady_others t x.levels parents x.statement m (other_at t other)) s o in
                  let a₁ = (one m stands).agrees parents spans s o a in
                  let s₂ = through (leaves_at t items) s₁ in
                  let o₂ = around-next t inner parents _ (through (leaves_at t items)) (steady_non_vars x.levels parents x.statement m (leaves_at t items)) s₁ o₁ in
                  let a₂ = (two m stands).agrees parents spans s₁ o₁ a₁ in
                  subst (Agree t spans z hs us) same_end ((last m stands).agrees parents spans s₂ o₂ a₂)

            pub non_vars_do : DoesNonVars t inner row x p firsts work z hs us
            non_vars_do m stands = record {
              grown = grown_then t p q z work ws us (one m stands).grown (grown_then t q r z ws vs us (two m stands).grown (last m stands).grown);
              agrees = agree_end m stands;
            }

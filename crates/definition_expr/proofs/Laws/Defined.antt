-- Laws of `Defined`.
use mathlib.Core.Path.{◌≡◌, sym, ap, ◌∙◌, subst}
use mathlib.Core.Bool.{Bool, true}
use mathlib.Core.List.{List, ◌++◌}
use Prim.Native.Nat.{ℕ, ◌+◌, ◌-◌, ◌*◌, ◌/◌, ◌≤◌}
use native.Mathlib.Nat.{mul-le-mul_left, div-mul-le_self}
use native.Mathlib.Omega.{arith}
use lib.ListN.{length, take, drop}
use lib.Seq.{length-take-le}
use Rattle.names.specs.Inner.Names.{Names}
use Rattle.names_width.specs.declared.Width.{Width}
use Rattle.names_width.specs.Inner.Widths as Widths
use Rattle.answer_blocks.specs.Inner.Layout.{answers_size}
use Rattle.definition.specs.Uses.{reads_input, used_vars, index_definitions}
use Rattle.definition.specs.States.{State, set_scope, add_first_uses, add_definitions}
use Rattle.definition_room.specs.Inner.Leaves.{bracket_vars}
use Rattle.definition_room.proofs.Laws.Using.{index-few}
use Rattle.scope_walk.specs.Inner.Sheets.{sheet_at}
use Rattle.scope_state.specs.Inner.Agrees.{WithFlag}
use Rattle.scope_state.proofs.Laws.Spans.{agrees-flag}
use Rattle.scope_walk.specs.Inner.Exprs.{expr_by}
use Rattle.definition_walk.specs.declared.found.Used.{Used}
use Rattle.definition_walk.specs.Inner.Own.{Holds}
use Rattle.definition_walk.specs.Inner.Defining.{RoomFor, GatheredUses}
use Rattle.definition_state.specs.declared.Progress.{Progress}
use Rattle.definition_state.specs.Inner.Faults.{is_sound}
use Rattle.definition_state.specs.Inner.Held.{Held}
use Rattle.definition_state.proofs.Laws.Held.{held-append}
use Rattle.definition_state.specs.Inner.Table.{Table}
use Rattle.definition_state.proofs.Laws.Lent.{back-length, back-appended, back-table}
use Rattle.definition_state.specs.Inner.Frames.{WholeState, Grown, Ready}
use Rattle.definition_state.proofs.Laws.Steps.{agree_whole}
use Rattle.definition_expr.specs.declared.Using.{Using}
use Rattle.definition_expr.proofs.Laws.Gathers.{use_all}
use Rattle.definition_expr.specs.Inner.Defined.{ListedExtras, Taken}

module _ (t : List ℕ) (extras : Names) (statement row : ℕ) (rest : Bool) (p : Progress) (firsts work : List ℕ) where
  -- What comes of it, for every list of names that `extras` holds and every state that the code's is.
  pub record UsesDefined (r : Using) (firsts' work' : List ℕ) : Type 0 where
    pub grown : Grown t p work r.progress work'
    pub fault : r.progress.fault ≡ p.fault
    pub whole : (l : List ℕ) → Holds extras l → (spans : List ℕ) (s : State) → WholeState t spans p firsts work s
        → WholeState t spans r.progress firsts' work' (use_all (sheet_at t) statement l (expr_by t rest row) s)
    pub names : (l : List ℕ) → Holds extras l → (spans : List ℕ) (s : State) → WholeState t spans p firsts work s
        → Holds r.names (used_vars (sheet_at t) s.scope l (expr_by t rest row))
    pub recorded : (l : List ℕ) → Holds extras l → (spans : List ℕ) (s : State) → WholeState t spans p firsts work s
        → r.progress.count ≡ p.count + length (index_definitions (sheet_at t) s.scope l statement (expr_by t rest row))

  -- What the call asks: room for the definitions, and no fault.
  module _ (ready : Ready t p firsts work (bracket_vars (expr_by t rest row))) (fine : is_sound p.fault ≡ true) (listed : ListedExtras extras) where
    now_whole : WholeState t ready.spans p firsts work ready.state
    now_whole = agree_whole t ready.spans p firsts work ready.state ready.agrees fine

    -- In front of the table there are e words.
    module _ (e : ℕ) (last : e + answers_size p.width ≡ length work) where
      few : e ≤ length work
      few = omega arith

      fits : p.count + length (index_definitions (sheet_at t) ready.state.scope listed.list statement (expr_by t rest row)) ≤ e / Widths.row_words p.width
      fits =
          let is : length work - answers_size p.width ≡ e = omega (arith, last) in
          omega (
            arith,
            ready.room.rows,
            ap (λ (m : ℕ). m / Widths.row_words p.width) is,
            ready.agrees.count,
            index-few (sheet_at t) ready.state.scope listed.list statement (expr_by t rest row),
          )

      pub defined-room : (n : ℕ) → n ≡ length (take e work) → RoomFor t p.width p.scope extras statement row rest p.count n
      defined-room n is = record {
        scope = ready.state.scope;
        sets = now_whole.scope.sets;
        list = listed.list;
        holds = listed.holds;
        low = omega (arith, fits, ap (λ (m : ℕ). m / Widths.row_words p.width) (is ∙ length-take-le e work few));
      }

      module _ (firsts' ys : List ℕ) (long : length ys ≡ length (take e work)) (u : Used)
          (g : GatheredUses t p.width p.scope extras statement row rest p.count firsts (take e work) u firsts' ys) where
        same : length ys ≡ e
        same = long ∙ length-take-le e work few

        count_fits : Widths.row_words p.width * u.count ≤ e
        count_fits =
            let low : u.count ≤ e / Widths.row_words p.width = omega (arith, fits, g.total ready.state.scope now_whole.scope.sets listed.list listed.holds) in
            omega (arith, mul-le-mul_left (Widths.row_words p.width) low, div-mul-le_self e (Widths.row_words p.width))

        -- The rows that were there stay, whatever the count is said to be.
        pub rows_stay : (r : Progress) → p.count ≤ r.count → r.width ≡ p.width → Grown t p work r (ys ++ drop e work)
        rows_stay r up wide =
            let rows =
            back-appended p.width work ys e few same p.count u.count _ count_fits
            (g.rows ready.state.scope now_whole.scope.sets listed.list listed.holds) in
            record { long = back-length p.width work ys e few same; up = up; wide = wide; before = rows.before }

        module _ (r : Using) (taken : Taken row p u r) where
          defined-whole : (l : List ℕ) → Holds extras l → (spans : List ℕ) (s : State) → WholeState t spans p firsts work s
              → WholeState t spans r.progress firsts' (ys ++ drop e work) (use_all (sheet_at t) statement l (expr_by t rest row) s)
          unfolding use_all add_definitions add_first_uses set_scope
          defined-whole l h spans s w = record {
            scope =
                agrees-flag p.scope spans r.progress.scope s.scope w.scope (reads_input (sheet_at t) (expr_by t rest row))
                (subst (λ (c : Bool). WithFlag p.scope c r.progress.scope) g.reads taken.flag);
            used-first = g.first s.scope w.scope.sets l h s.first_uses w.used-first;
            rows =
                subst (λ (n : ℕ). Held r.progress.width (ys ++ drop e work) n (s.definitions ++ index_definitions (sheet_at t) s.scope l statement (expr_by t rest row)))
                (sym taken.count)
                (subst (λ (v : Width). Held v (ys ++ drop e work) u.count (s.definitions ++ index_definitions (sheet_at t) s.scope l statement (expr_by t rest row)))
                (sym taken.wide)
                (held-append p.width work (ys ++ drop e work) p.count s.definitions w.rows u.count _
                (back-appended p.width work ys e few same p.count u.count _ count_fits (g.rows s.scope w.scope.sets l h))));
            table =
                subst (λ (v : Width). Table v t (ys ++ drop e work) s.run.schedules) (sym taken.wide)
                (back-table p.width work ys e few same t s.run.schedules last w.table);
          }

          pub uses-all : UsesDefined r firsts' (ys ++ drop e work)
          uses-all =
              let total = g.total ready.state.scope now_whole.scope.sets listed.list listed.holds in
              record {
                grown = rows_stay r.progress (omega (arith, total, taken.count)) taken.wide;
                fault = taken.fault;
                whole = defined-whole;
                names = λ l h spans s w. rw taken.names (record { has = λ x. sym (g.names s.scope w.scope.sets l h x) });
                recorded = λ l h spans s w. taken.count ∙ g.total s.scope w.scope.sets l h;
              }

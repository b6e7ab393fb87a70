-- A row's own turn in `process_comprs`: where it is a comprehension, its query is analysed in the part of work behind the rows, and what it
-- takes rises.
use mathlib.Core.Path.{◌≡◌, refl, sym, ap, ◌∙◌, subst}
use mathlib.Core.Bool.{Bool, true, false, cond, ◌&&◌}
use mathlib.Core.List.{List, [], ◌∷◌, ◌++◌, foldl}
use mathlib.Core.Logic.{◌⊎◌, inl, inr}
use Prim.Native.Nat.{ℕ, ◌+◌, ◌-◌, ◌*◌, ◌≤◌, ◌<◌}
use native.Mathlib.Omega.{arith}
use lib.ListN.{length, get_or, take}
use borrow.Rule.Slice.PartMut.{post_of, put_same}
use Rattle.std.specs.Prelude.{Option, None}
use Rattle.base.specs.Limits as limits
use Rattle.base.proofs.Laws.Truth.{bool_cases, eq_cases}
use Rattle.names_width.specs.Inner.Widths as Widths
use Rattle.answer_blocks.specs.Inner.Layout.{answers_size}
use Rattle.sheet.specs.declared.Row.{Row}
use Rattle.sheet.specs.Inner.Sheet.{row_at}
use Rattle.sheet.specs.Kinds.{is_compr}
use Rattle.scope.specs.Trees.{Tree, row_of, outputs_of}
use Rattle.scope.specs.Scopes.{Scope}
use Rattle.definition.specs.States.{sound, Run, State, set_run}
use Rattle.definition.specs.Comprs.{process_compr}
use Rattle.definition_once.specs.Inner.OnceWay.{analyze_compr}
use Rattle.scope_walk.specs.Inner.Sheets.{sheet_at, Accepted, expr_count}
use Rattle.scope_walk.specs.Inner.Exprs.{expr_by}
use Rattle.scope_walk.proofs.Laws.Exprs.{tree_is, row_is}
use Rattle.scope_state.specs.Inner.Chains.{chain_at}
use Rattle.definition_state.specs.declared.Fault.{Fault}
use Rattle.definition_state.specs.declared.Progress.{Progress}
use Rattle.definition_state.specs.Inner.Faults.{is_sound}
use Rattle.definition_state.proofs.Laws.Steps.{sound-is, not_sound}
use Rattle.definition_state.proofs.Laws.Held.{held_same}
use Rattle.definition_state.proofs.Laws.Tails.{tail, tail-length, tail-answers, tail-whole, whole_length, whole-answers, whole-front, table_of}
use Rattle.definition_state.specs.Inner.Frames.{with_fault, WholeState, Agree}
use Rattle.definition_steps.proofs.Laws.Guards.{guarded-sound, compr-stays}
use Rattle.definition_comprs.specs.Inner.Pending.{unscheduled_at, pending_at}
use Rattle.definition_comprs.proofs.Laws.Pending.{pending_scheduled, pending}
use Rattle.definition_comprs.specs.Inner.Rising.{rising}
use Rattle.definition_comprs.specs.Inner.After.{AfterCompr}
use Rattle.definition_cycle.specs.Inner.Sites.{nested_by, way_by, Surrounds, RunsIn}
use Rattle.definition_cycle.specs.Inner.Queries.{DoesQuery}

module _ (t : List ℕ) (ok : Accepted t) (inner : List ℕ) (levels row : ℕ) (there : row ≡ 0 → ⊥) (high : row ≤ expr_count t) (w : Row)
    (is : w ≡ row_at t row) (third : is_compr w ≡ true → (1 ≤ w.third) × (w.third ≤ limits.most_queries)) (p : Progress) (firsts work : List ℕ)
    (a : ℕ) (a-is : a ≡ Widths.row_words p.width * p.count) (low : a + answers_size p.width ≤ length work)
    (query : ℕ) (asks : query ≡ pending_at p w work) (fault : Option Fault) (part : List ℕ)
    (long : length part ≡ length (tail p.width work a low))
    (does : DoesQuery t p.width inner query w.first w.second levels (tail p.width work a low) fault part)
    (r : Progress) (firsts' : List ℕ) (after : AfterCompr w (tail-whole p.width work a low part long) p fault firsts r firsts') where
  abbrev before : List ℕ
  before = tail p.width work a low

  abbrev now_work : List ℕ
  now_work = tail-whole p.width work a low part long

  abbrev expr : Tree
  expr = expr_by t false row

  row_of_lem : row_of expr ≡ w
  row_of_lem = row_is t ok row there high false ∙ sym is

  outputs : outputs_of expr ≡ chain_at t w.first ++ chain_at t w.second
  outputs = rw (tree_is t ok row there high, is)

  -- The rows are as they were.
  front : (j : ℕ) → j < Widths.row_words p.width * p.count → get_or now_work j 0 ≡ get_or work j 0
  front j l = whole-front p.width work a low part long j (omega (arith, a-is))

  -- Where no query is asked for, work is as it was.
  same-work : query ≡ 0 → now_work ≡ work
  same-work z = ap (λ (l : List ℕ). whole_of l) (does.none z).1 ∙ put_same a (length work - a) work
    where
      whole_of : List ℕ → List ℕ
      whole_of l = take a work ++ (l ++ post_of a (length work - a) work)

  idle : (is_compr w ≡ false) ⊎ (is_sound p.fault ≡ false) → query ≡ 0
  idle (inl n) = asks ∙ rw n
  idle (inr n) = asks ∙ go (is_compr w)
    where
      go : (b : Bool) → cond (b && is_sound p.fault) (unscheduled_at p.width work w.third) 0 ≡ 0
      go true = rw n
      go false = refl

  module _ (parents : List Scope) (spans : List ℕ) (s : State) (o : Surrounds t inner parents s) (h : Agree t spans p firsts work s) where
    stays : (is_compr w ≡ false) ⊎ (is_sound p.fault ≡ false) → Agree t spans r firsts' now_work s
    stays n = rw ((after.idle n).0, (after.idle n).1, same-work (idle n)) h

    module _ (c : is_compr w ≡ true) (b : is_sound p.fault ≡ true) where
      clear : s.run.fault ≡ sound
      clear = sym h.fault ∙ sound-is p.fault b

      held : WholeState t spans p firsts work s
      held = h.whole clear

      analysed : State
      analysed = analyze_compr (nested_by t levels) (s.scope ∷ parents) expr s

      -- Its query has a schedule already.
      old : query ≡ 0 → Agree t spans (with_fault p fault) firsts now_work analysed
      unfolding analysed analyze_compr
      old z =
          let had = pending_scheduled p w work s.run.schedules held.table.stored (third c).0 (third c).1 c b (sym asks ∙ z) in
          let same : analysed ≡ s = rw (row_of_lem, had.1) in
          let f : fault ≡ None = (does.none z).0 in
          rw (same, f, same-work z) (record { fault = sym clear; count = h.count; whole = λ e. record { scope = held.scope; used-first = held.used-first; rows = held.rows; table = held.table } })

      -- It is analysed now.
      new : (query ≡ 0 → ⊥) → Agree t spans (with_fault p fault) firsts now_work analysed
      unfolding analysed analyze_compr set_run
      new ne =
          let due = pending p w work s.run.schedules held.table.stored (third c).0 (third c).1 c b (λ z. ne (asks ∙ z)) in
          let q : query ≡ w.third = asks ∙ due.0 in
          let run : Run = nested_by t levels (s.scope ∷ parents) query (chain_at t w.first ++ chain_at t w.second) s.run in
          let lent = table_of p.width t work before s.run.schedules (omega (arith, tail-length p.width work a low)) (tail-answers p.width work a low) held.table in
          let end = does.one ne (s.scope ∷ parents) s.run (o clear) clear lent in
          let becomes : analysed ≡ set_run run s = rw (row_of_lem, due.1, outputs, sym q) in
          rw becomes (record {
            fault = end.0;
            count = h.count;
            whole = λ e. record {
              scope = held.scope;
              used-first = held.used-first;
              rows = held_same p.width work now_work p.count s.definitions held.rows front;
              table = table_of p.width t part now_work run.schedules
                  (omega (arith, low, whole_length p.width work a low part long)) (whole-answers p.width work a low part long) (end.1 e);
            };
          })

      rises : Agree t spans r firsts' now_work (process_compr (sheet_at t) (way_by t levels parents) s expr)
      unfolding process_compr analysed
      rises =
          let one : Agree t spans (with_fault p fault) firsts now_work analysed = go (eq_cases query 0) in
          subst (λ (u : State). Agree t spans r firsts' now_work (rising (sheet_at t) (way_by t levels parents) expr u))
          (sym (guarded-sound (analyze_compr (nested_by t levels) (s.scope ∷ parents) expr) s clear))
          (after.rises c b (sheet_at t) (nested_by t levels) parents t spans analysed expr row_of_lem one)
        where
          go : (query ≡ 0) ⊎ (query ≡ 0 → ⊥) → Agree t spans (with_fault p fault) firsts now_work analysed
          go (inl z) = old z
          go (inr ne) = new ne

    abbrev own : List Tree
    own = cond (is_compr w) (expr ∷ []) []

    turn : Agree t spans r firsts' now_work (foldl (process_compr (sheet_at t) (way_by t levels parents)) s own)
    turn = go (bool_cases (is_compr w)) (bool_cases (is_sound p.fault))
      where
        go : (is_compr w ≡ true) ⊎ (is_compr w ≡ false) → (is_sound p.fault ≡ true) ⊎ (is_sound p.fault ≡ false)
            → Agree t spans r firsts' now_work (foldl (process_compr (sheet_at t) (way_by t levels parents)) s own)
        go (inr n) b = rw n (stays (inl n))
        go (inl c) (inr n) =
            let faulty : s.run.fault ≡ sound → ⊥ = λ z. not_sound p.fault n (h.fault ∙ z) in
            rw (c, compr-stays (sheet_at t) (way_by t levels parents) s faulty expr) (stays (inr n))
        go (inl c) (inl b) = rw c (rises c b)

  pub compr-turn : RunsIn t inner (λ parents s. foldl (process_compr (sheet_at t) (way_by t levels parents)) s (cond (is_compr w) (expr_by t false row ∷ []) []))
      p firsts work r firsts' now_work
  compr-turn = record {
    grown = record {
      long = whole_length p.width work a low part long;
      up = omega (arith, after.count);
      wide = after.wide;
      before = front;
    };
    agrees = turn;
  }

-- Laws of `Schedules`.
use mathlib.Core.Path.{◌≡◌, refl, sym, subst}
use mathlib.Core.Bool.{Bool, true, false}
use mathlib.Core.List.Memᴰ
use mathlib.Core.List.{List, [], ◌∷◌, foldl, Memᴰ}
use mathlib.Core.Logic.{◌⊎◌, inl, inr, ⊎_elim}
use Prim.Native.Nat.{ℕ, zero, suc}
use lib.Dec.{eqb}
use lib.ListN.{length}
use Rattle.base.proofs.Laws.Truth.{bool_cases, not-both}
use Rattle.base.specs.Lists.{all, range}
use Rattle.order.specs.Definitions.{Definition}
use Rattle.base.specs.Limits.{nesting}
use Rattle.sheet.specs.Sheet.{Sheet, name_bound}
use Rattle.base.proofs.Laws.ListLaws.{all_weaken, all-kept}
use Rattle.scope.specs.Trees.{Tree}
use Rattle.scope.specs.Statements.{stmts_of}
use Rattle.scope.proofs.Laws.TreeRows.{rows_pass}
use Rattle.scope.proofs.Laws.StatementRows.{stmts_rows}
use Rattle.scope.specs.Scopes.{empty, contains, elements, Scope}
use Rattle.scope.specs.Gather.{gather_local_vars}
use Rattle.definition.specs.States.{scope_in, schedule_of, Fault, sound, undefined, used_before, lengths, index_variable, QuerySchedule, Run, State, if_sound}
use Rattle.definition.specs.Queries.{process_stmts, scheduled, analyze_output_expr, analyze_query}
use Rattle.definition_once.specs.Inner.OnceWay.{Nested, once_way, analyze_once, analyze_query_snippet_once}
use Rattle.definition_once.proofs.Laws.Steps.{KeptByChanges, Rises, HoldsBoth}
use Rattle.definition_once.proofs.Laws.ExprSteps.{row_passes}
use Rattle.definition_once.proofs.Laws.StatementSteps.{good_stmts, good-outputs}
use Rattle.definition_once.specs.Inner.Schedules.{EachSchedule}

module _ (S : Scope → List Definition → Type 0) where
  each-cons : (a : QuerySchedule) (l : List QuerySchedule) → S a.scope a.definitions → EachSchedule S l → EachSchedule S (a ∷ l)
  each-cons a l h e b m =
      ⊎_elim (λ (q : b ≡ a). subst (λ (c : QuerySchedule). S c.scope c.definitions) (sym q) h) (λ (t : Memᴰ b l). e b t)
      (Memᴰ.cases_cons m)

  -- A query that is finished enters the table; after a fault it does not.
  finished : (q n : ℕ) (s : State) → HoldsBoth S (EachSchedule S) s → (f : Fault) → EachSchedule S (if_sound f (scheduled q n s) s.run).schedules
  unfolding scheduled
  finished q n s o sound = each-cons _ s.run.schedules o.here o.table
  finished q n s o (undefined a b) = o.table
  finished q n s o (used_before a b) = o.table
  finished q n s o (lengths a b) = o.table
  finished q n s o index_variable = o.table

module _ (sheet : Sheet) (Q : ℕ → Bool) (rows : all (row_passes Q) sheet.exprs ≡ true) (none : Q 0 ≡ true)
    (S : Scope → List Definition → Type 0) (k : KeptByChanges Q S)
    (low : (sc : Scope) (defs : List Definition) → S sc defs → all Q (elements sc.inputs) ≡ true)
    (start : (parents : List Scope) (q : ℕ) (outputs : List Tree) → all (rows_pass (row_passes Q)) outputs ≡ true → S (gather_local_vars sheet parents (stmts_of sheet q) outputs) [])
  where
    rises : Rises Q (EachSchedule S)
    unfolding elements contains empty
    rises [] e q = all_weaken (contains empty) Q (λ x g. absurd (not-both g refl)) (elements empty) (all-kept (contains empty) (range 0 name_bound))
    rises (a ∷ l) e q = go (bool_cases (eqb a.query q)) (rises l (λ b m. e b (Memᴰ.tail m)) q)
      where
        go : (eqb a.query q ≡ true) ⊎ (eqb a.query q ≡ false) → all Q (elements (scope_in (schedule_of l q)).inputs) ≡ true
            → all Q (elements (scope_in (schedule_of (a ∷ l) q)).inputs) ≡ true
        go (inl h) r = rw h (low a.scope a.definitions (e a (Memᴰ.head refl)))
        go (inr h) r = rw h r

    query_keeps : (nested : Nested)
        → ((ps : List Scope) (q : ℕ) (outs : List Tree) (r : Run) → all (rows_pass (row_passes Q)) outs ≡ true → EachSchedule S r.schedules → EachSchedule S (nested ps q outs r).schedules)
        → (parents : List Scope) (q : ℕ) (outputs : List Tree) (r : Run) → all (rows_pass (row_passes Q)) outputs ≡ true → EachSchedule S r.schedules
        → EachSchedule S (analyze_query sheet (once_way sheet nested parents) q outputs r).schedules
    unfolding analyze_query
    query_keeps nested keeps parents q outputs r h e =
        let stmts = stmts_of sheet q in
        let first : State = record { scope = gather_local_vars sheet parents stmts outputs; first_uses = []; definitions = []; run = r } in
        let a = good_stmts sheet nested parents Q S (EachSchedule S) k rises none keeps first.scope stmts (stmts_rows (row_passes Q) sheet rows none q) 0 first
        (record { here = start parents q outputs h; table = e }) (λ x g. g) in
        let t = process_stmts sheet (once_way sheet nested parents) 0 stmts first in
        let b = good-outputs sheet nested parents Q S (EachSchedule S) k rises none keeps t.scope outputs h t a.holds (λ x g. g) in
        let s = foldl (analyze_output_expr sheet (once_way sheet nested parents)) t outputs in
        finished S q (length stmts) s b.holds s.run.fault

    -- At every level.
    pub analyze_keeps : (n : ℕ) (parents : List Scope) (q : ℕ) (outputs : List Tree) (r : Run) → all (rows_pass (row_passes Q)) outputs ≡ true → EachSchedule S r.schedules
        → EachSchedule S (analyze_once n sheet parents q outputs r).schedules
    unfolding analyze_once
    analyze_keeps zero parents q outputs r h e = e
    analyze_keeps (suc n) parents q outputs r h e =
        query_keeps (λ ps q outs r. analyze_once n sheet ps q outs r) (λ ps q outs r g d. analyze_keeps n ps q outs r g d) parents q outputs r h e

    pub every_schedule : EachSchedule S (analyze_query_snippet_once sheet).schedules
    unfolding analyze_query_snippet_once
    every_schedule = analyze_keeps nesting [] 1 [] (record { schedules = []; fault = sound }) refl (λ a m. absurd (Memᴰ.not-nil m))

-- What a query records: at least one definition for each of its statements, at most 640, and always a list that the scheduler takes.
use mathlib.Core.Path.{◌≡◌, refl, sym, ap, ◌∙◌, subst}
use mathlib.Core.List.{List, Memᴰ}
use mathlib.Core.Option.{Option, none, some}
use Prim.Native.Nat.{ℕ, ◌+◌, ◌≤◌, ◌<◌}
use native.Mathlib.Omega.{arith}
use lib.Dec.{eqb}
use lib.ListN.{length}
use borrow.Author.Tests.{eqb-true, ltb-true, lt-ltb}
use Rattle.base.specs.Limits as limits
use Rattle.base.specs.Limits.{Limits}
use Rattle.base.proofs.Laws.Members.{all_mem}
use Rattle.order.specs.Definitions.{Definition}
use Rattle.sheet.specs.declared.Counts.{Counts}
use Rattle.sheet.specs.Inner.Records.{Within}
use Rattle.sheet.specs.declared.Special.{Special}
use Rattle.sheet.specs.Faults.{first_line}
use Rattle.sheet_facts.proofs.Laws.Accepted.{fine-rows}
use Rattle.sheet_facts.proofs.Laws.Facts.{sheet-facts}
use Rattle.sheet.specs.Sheet.{Sheet}
use Rattle.sheet.specs.Inner.Sheet.{sheet_of}
use Rattle.scope.specs.Statements.{stmts_of}
use Rattle.definition.specs.States.{QuerySchedule}
use Rattle.definition.specs.Inner.Queries.{definitions_in}
use Rattle.definition_once.specs.Inner.OnceWay.{analyze_query_snippet_once, schedule_once, recorded_once}
use Rattle.definition_once.proofs.Laws.Named.{recorded-named}
use Rattle.definition_room.specs.Inner.Sizes.{total, weight}
use Rattle.definition_room.specs.Inner.Adds.{Recorded, below, FitsSchedule}
use Rattle.definition_room.proofs.Laws.Queries.{snippet_fits}
use Rattle.definition_room.specs.Inner.Sums.{sum_to}
use Rattle.definition_room.proofs.Laws.Sums.{sum_mono}
use Rattle.definition_room.proofs.Laws.Bound.{weights_fit, weight_in_bounds}
use Rattle.definition_room.specs.Inner.Bound.{most_recorded}
use Rattle.definition_room.proofs.Laws.Counted.{query_statements_few}
use Rattle.definition_room.proofs.Laws.LowNames.{names-under}
use Rattle.definition_room.specs.Inner.InBounds.{InBounds}
use Rattle.sheet.specs.Inner.Rows.{in_tables}
use Rattle.base.proofs.Laws.ListLaws.{find-some}
use Rattle.scope_walk.proofs.Laws.RowTrees.{statements-length}

-- ---- any sheet

module _ (sheet : Sheet) (q : ℕ) where
  -- The schedule of a query is in the table, and fits.
  schedule_fits : (a : QuerySchedule) → schedule_once sheet q ≡ some a → FitsSchedule sheet a × (a.query ≡ q)
  unfolding schedule_once
  schedule_fits a e =
      let r = find-some (λ (b : QuerySchedule). eqb b.query q) (analyze_query_snippet_once sheet).schedules e in
      (snippet_fits sheet a r.0, eqb-true a.query q r.1)

  -- A query records at most as many definitions as it weighs.
  pub recorded-at_most : length (recorded_once sheet q) ≤ total weight (stmts_of sheet q)
  unfolding recorded_once
  recorded-at_most = go (schedule_once sheet q) refl
    where
      go : (x : Option QuerySchedule) → schedule_once sheet q ≡ x → length (definitions_in x) ≤ total weight (stmts_of sheet q)
      go none e = omega arith
      go (some a) e =
          let r = schedule_fits a e in
          subst (λ (p : ℕ). length a.definitions ≤ total weight (stmts_of sheet p)) r.1 r.0.at_most

  -- A query that is analysed has a definition for each of its statements.
  pub recorded-at_least : (a : QuerySchedule) → schedule_once sheet q ≡ some a → (j : ℕ) → j < length (stmts_of sheet q)
      → Recorded j (recorded_once sheet q)
  unfolding recorded_once
  recorded-at_least a e j l =
      let r = schedule_fits a e in
      let n : a.count ≡ length (stmts_of sheet q) = r.0.whole ∙ ap (λ (p : ℕ). length (stmts_of sheet p)) r.1 in
      rw e (r.0.at_least j (omega arith))

  -- The schedule counts the query's statements, of which there are no more than the sheet has.
  pub count_at-most : (a : QuerySchedule) → schedule_once sheet q ≡ some a → a.count ≤ length sheet.statements
  count_at-most a e =
      let r = schedule_fits a e in
      omega (arith, r.0.whole, query_statements_few sheet a.query)

  -- Every definition that a query records is of one of its statements.
  pub recorded-stated : (a : QuerySchedule) → schedule_once sheet q ≡ some a → (d : Definition) → Memᴰ d a.definitions
      → d.statement < a.count
  recorded-stated a e d m =
      ltb-true d.statement a.count (all_mem (below a.count) a.definitions (schedule_fits a e).0.stated m)

-- ---- an accepted sheet

-- The bound that the theorems below name.
pub most-definitions : most_recorded ≡ limits.most_definitions
most-definitions = refl

module _ (c : Counts) (x : Special) (t : List ℕ) (few : Within c) (fine : first_line c (in_tables t) ≡ 0) where
  -- A query records at most 640 definitions.
  pub recorded_in_bounds : (q : ℕ) → length (recorded_once (sheet_of c x t) q) ≤ most_recorded
  recorded_in_bounds q = omega (arith, recorded-at_most (sheet_of c x t) q, weight_in_bounds c x t few fine q)

  -- All queries of the sheet together record no more.
  pub all_in_bounds : sum_to (λ q. length (recorded_once (sheet_of c x t) q)) c.queries ≤ most_recorded
  all_in_bounds =
      omega (
        arith,
        weights_fit c x t (fine-rows c (in_tables t) fine),
        few.few-exprs,
        few.few-statements,
        sum_mono (λ q. length (recorded_once (sheet_of c x t) q)) (λ q. total weight (stmts_of (sheet_of c x t) q)) c.queries
            (λ q a b. recorded-at_most (sheet_of c x t) q),
      )

  -- Every query that is analysed records what the scheduler takes with the same limits: `question_met` says so of the question that its call asks.
  pub schedule_in-bounds : (lim : Limits) → c.names ≤ lim.names → (q : ℕ) (a : QuerySchedule) → schedule_once (sheet_of c x t) q ≡ some a
      → InBounds lim a
  unfolding recorded_once
  schedule_in-bounds lim low q a e =
      let these : recorded_once (sheet_of c x t) q ≡ a.definitions = ap definitions_in e in
      record {
        few-statements = omega (arith, count_at-most (sheet_of c x t) q a e, statements-length c x t, few.few-statements);
        few-definitions = omega (arith, recorded_in_bounds q, ap length these);
        stated = recorded-stated (sheet_of c x t) q a e;
        named = λ d m.
            let n = lim.names + 1 in
            let under = names-under n c x t few (sheet-facts c (in_tables t) few fine) (omega arith) in
            let l = recorded-named n (lt-ltb 0 n (omega arith)) (sheet_of c x t) under q d (subst (Memᴰ d) (sym these) m) in
            omega (arith, l);
      }

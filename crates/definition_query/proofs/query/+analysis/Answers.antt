-- The cycle of query analysis, member after member; the measures are in Invariants.antt.
use Rattle.definition_query.proofs.query.+analysis.Goals.{analyze_query-After-process_comprs-t, analyze_query-After-first_at-row, analyze_query-Else-levels-eq0, analyze_query-After-enclose, process_comprs-After-after_compr-s, process_comprs-After-listed_at-w, process_comprs-After-row, process_every-After-record_one-s, process_every-After-row, process_expr-After-row_at-w, process_non_vars-After-pattern_of-items, process_non_vars-Joined-items-ne0, process_non_vars-Joined-other-ne0, process_non_vars-After-row_at-w, process_pairs-After-pair_of, process_pairs-Joined-pair_of, process_pairs-After-row_at-a, process_pairs-After-row_at-b, process_some_in-After-enclose}
use mathlib.Core.Path.{sym, ◌∙◌, ◌≡◌, refl, ap, subst}
use mathlib.Core.Bool.{true, false}
use Prim.Native.Nat.{ℕ, ◌-◌, ◌+◌, ◌*◌, ◌≤◌}
use native.Mathlib.Omega.{arith}
use mathlib.Core.Logic.{inl, inr}
use Rattle.definition_query.proofs.query.+analysis.Goals.{process_non_vars-then-other-ne0, process_non_vars-else-other-ne0, process_non_vars-then-items-ne0, process_non_vars-else-items-ne0, process_pairs-in-Sides, process_pairs-in-Chains, process_pairs-in-Differ}
use lib.ListN.{replicate, length, get_or}
use borrow.Author.Rules.{rules}
use Rattle.order_rows.proofs.Laws.Zeros.{zero-at}
use Rattle.definition_comprs.specs.Inner.Lists.{both_at, listed_at}
use Rattle.definition_cycle.specs.Inner.Asks.{Begun, other_at, pairs_at}
use Rattle.definition_cycle.specs.Inner.Does.{DoesComprs, DoesOthers, DoesNonVars, DoesPairs}
use Rattle.definition_cycle.proofs.Laws.ComprLists.{both_do, does_none as compr_lists_does_none, query_in, room_at as compr_lists_room_at, query-asks as compr_lists_query-asks, own_does, next-asks, turn_does, both_used}
use Rattle.definition_cycle.proofs.Laws.OneQuery.{stmts_below, comprs-below, does_none as one_query_does_none, does_nothing, begun_of, Started, row-high, asks_stmts, Enclosed, asks-outputs, room-last, based-last, takes_last, does_query}
use Rattle.definition_expr.proofs.Laws.UsesMods.{listed-none}
use Rattle.definition_cycle.proofs.Laws.PairTurns.{pair-none, asks_right, ready-left, asks-left, ready_right, pair_does, no_pairs}
use mathlib.Core.List.{List, [], ◌∷◌}
use Rattle.answer_blocks.specs.Inner.Layout.{answers_size}
use Rattle.scope.specs.Trees.{Tree}
use Rattle.scope_walk.specs.Inner.Exprs.{expr_by}
use Rattle.definition_state.proofs.Laws.Tails.{tail-whole, whole_length}
use Rattle.definition_comprs.proofs.Laws.Lists.{listed-end}
use Rattle.definition_cycle.proofs.Laws.EverySteps.{every-named, use_asks as every_steps_use_asks, one-fits, room_at as every_steps_room_at, query-asks as every_steps_query-asks, every_does}
use Rattle.sheet.specs.Inner.Sheet.{row_at}
use Rattle.sheet.proofs.Laws.Sheet.{row-fields}
use Rattle.sheet.specs.Kinds.{is_assign}
use Rattle.scope_walk.proofs.Laws.Walking.{few_remain, row_low, first-low, second-low, Falls, low-name, pattern_calls}
use Rattle.definition_cycle.proofs.Laws.ExprSteps.{arg_low, pairs_asks, assign_does, extras_listed, use_asks as expr_steps_use_asks, each_fits, use_does}
use Rattle.definition_cycle.proofs.Laws.LiteralSteps.{plain_form, literal_first_low, literal-vars, literal-some_in, literal-every, asks-expr, literal-expr}
use Rattle.definition_cycle.proofs.Laws.ComprRows.{at_low}
use Rattle.definition_cycle.proofs.Laws.NonVarSteps.{non_var_none, asks_use, asks-comprs, non_var_does}
use Rattle.scope_walk.specs.Inner.Walking.{remains}
use Rattle.definition_state.specs.declared.Progress.{Progress}
use Rattle.definition_cycle.proofs.Laws.Guards.{KeepsLengths, guarded_lists}
use Rattle.definition_cycle.proofs.Laws.Patterns.{non_var_low}
use Rattle.definition_cycle.proofs.Laws.PatternSteps.{non_vars_do_none, asks-other, asks-parts as pattern_steps_asks-parts, asks_rest as pattern_steps_asks_rest, non_vars_do}
use Rattle.definition_steps.proofs.Laws.Pairs.{pairings-left, pairings_right}
use Rattle.definition_cycle.proofs.Laws.PairRows.{Split, split, pairings_of, differs, asks_sides, asks_chains, asks_rest as pair_rows_asks_rest, pairs_does}
use Rattle.definition_literal.specs.declared.pairs.Pair.{Pair}
use Rattle.scope_state.proofs.Laws.Enclosing.{scopes_enclosed}
use Rattle.scope_gather.specs.Inner.Statements.{NamedParts}
use Rattle.definition_cycle.proofs.Laws.Moves.{Enclosing}
use Rattle.definition_cycle.proofs.Laws.SomeInSteps.{parts_low, asks-collection, asks_record, asks-key, asks-value, asks-last, some_in_does}
use Rattle.scope_gather.proofs.Laws.Queries.{next_stmt}
use Rattle.definition_cycle.proofs.Laws.StmtSteps.{stmts_end, with-low, mods-ready, asks-literal, least_fits, asks-next, stmts_turn}
use lib.Dec.{eqb}
use borrow.Author.Tests.{eqb-true, eq-eqb}
use Rattle.base.proofs.Laws.Truth.{and_left, and_right}
use Rattle.definition_cycle.proofs.Laws.UseExprs.{use_ready, comprs-asks, use_room, does_listed, does_without}
use Rattle.names_width.specs.Inner.Widths as Widths
use Rattle.definition_query.proofs.query.+analysis.Goals as goal

-- ---- `analyze_query`: what is known at each place (`begins`, `starts`, `encloses`) is all that the calls and the end ask for (OneQuery.antt).

-- A query that is asked for is to be analysed.
analyze_query_begins : (m : ℕ) (c : analyze_query-Else-levels-eq0 m) →
    let a = c.args in
    Begun a.tables.now a.width a.outer.now a.work.now a.query a.key a.value
analyze_query_begins m c =
    let a = c.args in
    begun_of a.tables.now a.width a.outer.now a.work.now a.query a.key a.value c.if-query-eq0.false c.requires.2

-- Its scope is gathered.
analyze_query_begins-at-After-first_at-row : (m : ℕ) (c : analyze_query-After-first_at-row m) →
    let a = c.args in
    Begun a.tables.now a.width a.outer.now a.work.now a.query a.key a.value
analyze_query_begins-at-After-first_at-row m c =
    let a = c.args in
    begun_of a.tables.now a.width a.outer.now a.work.now a.query a.key a.value c.if-query-eq0.false c.requires.2

analyze_query_starts : (m : ℕ) (c : analyze_query-After-first_at-row m) →
    let a = c.args in
    Started a.tables.now a.width a.outer.now a.work.now a.query a.key a.value
    c.gather_local_vars-scope.new.spans (replicate 512 0) c.first_at-row.result c.begun-start.result
analyze_query_starts m c = record {
  ok = c.requires.0;
  begun = analyze_query_begins-at-After-first_at-row m c;
  scope = c.gather_local_vars-scope.result;
  gathered = c.gather_local_vars-scope.ensures;
  zeros = zero-at 512;
  is = c.first_at-row.ensures;
  begins = c.begun-start.ensures;
}

-- Its statements are processed, and outputs see all its names.
analyze_query_begins-at-After-enclose : (m : ℕ) (c : analyze_query-After-enclose m) →
    let a = c.args in
    Begun a.tables.now a.width a.outer.now a.work.now a.query a.key a.value
analyze_query_begins-at-After-enclose m c =
    let a = c.args in
    begun_of a.tables.now a.width a.outer.now a.work.now a.query a.key a.value c.if-query-eq0.false c.requires.2

analyze_query_starts-at-After-enclose : (m : ℕ) (c : analyze_query-After-enclose m) →
    let a = c.args in
    Started a.tables.now a.width a.outer.now a.work.now a.query a.key a.value
    c.gather_local_vars-scope.new.spans (replicate 512 0) c.first_at-row.result c.begun-start.result
analyze_query_starts-at-After-enclose m c = record {
  ok = c.requires.0;
  begun = analyze_query_begins-at-After-enclose m c;
  scope = c.gather_local_vars-scope.result;
  gathered = c.gather_local_vars-scope.ensures;
  zeros = zero-at 512;
  is = c.first_at-row.ensures;
  begins = c.begun-start.ensures;
}

analyze_query_encloses : (m : ℕ) (c : analyze_query-After-enclose m) →
    let a = c.args in
    let did = c.process_stmts-s in
    Enclosed a.tables.now a.width a.outer.now a.work.now a.query a.key a.value c.gather_local_vars-scope.new.spans
    (a.levels - 1) did.result c.opened-open.result c.enclose.new.inner
    did.new.firsts did.new.work
analyze_query_encloses m c = record {
  firsts = replicate 512 0;
  row = c.first_at-row.result;
  p = c.begun-start.result;
  started = analyze_query_starts-at-After-enclose m c;
  did = c.process_stmts-s.ensures;
  opens = c.opened-open.ensures;
  encloses = c.enclose.ensures;
}

pub analyze_query-returns-then-query-eq0 : goal.analyze_query-returns-then-query-eq0
analyze_query-returns-then-query-eq0 m c =
    let a = c.args in
    one_query_does_none a.tables.now a.width a.outer.now a.query a.key a.value a.levels a.work.now c.if-query-eq0.true

pub analyze_query-returns-then-levels-eq0 : goal.analyze_query-returns-then-levels-eq0
analyze_query-returns-then-levels-eq0 m c =
    let a = c.args in
    does_nothing a.tables.now a.width a.outer.now a.query a.key a.value a.levels a.work.now c.if-levels-eq0.true

pub analyze_query-gather_local_vars-scope-requires : goal.analyze_query-gather_local_vars-scope-requires
analyze_query-gather_local_vars-scope-requires m c =
    let pre = c.requires in
    let b = analyze_query_begins m (goal.at.analyze_query-gather_local_vars-scope-requires m c).Else-levels-eq0 in
    record { accepted = pre.0; outer-room = pre.1; from = b.from; to = b.to; key_in = b.key-low; value_in = b.value_low; spans-room = omega arith }

pub analyze_query-first_at-row-requires : goal.analyze_query-first_at-row-requires
analyze_query-first_at-row-requires m c =
    let pre = c.requires in
    (pre.0.room, omega (arith, (analyze_query_begins m (goal.at.analyze_query-first_at-row-requires m c).Else-levels-eq0).to, pre.0.within.few-queries))

pub analyze_query-process_stmts-s-requires : goal.analyze_query-process_stmts-s-requires
analyze_query-process_stmts-s-requires m c =
    let pre = c.requires in
    let x = analyze_query_starts m (goal.at.analyze_query-process_stmts-s-requires m c).After-first_at-row in (
      stmts_below _ pre.0 _ m c.if-levels-eq0.false c.decreases _,
      (
        record {
          accepted = pre.0;
          outer-room = pre.1;
          spans-room = omega (arith, c.gather_local_vars-scope.auto.spans);
          firsts_room = omega arith;
          asks = asks_stmts _ _ _ _ _ _ _ _ _ _ _ x;
        },
        row-high _ _ _ _ _ _ _ _ _ _ _ x,
      ),
    )

pub analyze_query-enclose-requires : goal.analyze_query-enclose-requires
analyze_query-enclose-requires m c =
    (c.requires.1, omega (arith, c.gather_local_vars-scope.auto.spans), omega arith)

pub analyze_query-list_both-end-requires : goal.analyze_query-list_both-end-requires
analyze_query-list_both-end-requires m c =
    let b = analyze_query_begins m (goal.at.analyze_query-list_both-end-requires m c).Else-levels-eq0 in
    record { accepted = c.requires.0; one_in = b.key-low; two_in = b.value_low; room = search rules }

pub analyze_query-overflow_sub-levels-2 : goal.analyze_query-overflow_sub-levels-2
analyze_query-overflow_sub-levels-2 m c = omega (arith, c.if-levels-eq0.false)

pub analyze_query-process_comprs-t-requires : goal.analyze_query-process_comprs-t-requires
analyze_query-process_comprs-t-requires m c =
    let both = c.list_both-end in (
      comprs-below _ m c.if-levels-eq0.false c.decreases _ both.ensures.fits,
      asks-outputs _ _ _ _ _ _ _ _ _ _ _ _ _ _ (analyze_query_encloses m (goal.at.analyze_query-process_comprs-t-requires m c).After-enclose) (omega (arith, c.enclose.auto.inner)) (omega (arith, c.process_stmts-s.auto.firsts)) _ _ both.ensures
          (omega (arith, both.auto.rows)),
    )

-- The comprehensions of the outputs.
analyze_query_outputs-done : (m : ℕ) (c : analyze_query-After-process_comprs-t m) →
    let did = c.process_stmts-s in
    let a = c.args in
    DoesComprs a.tables.now c.enclose.new.inner (both_at a.tables.now true a.key a.value) (a.levels - 1)
    c.opened-open.result did.new.firsts did.new.work c.process_comprs-t.result c.process_comprs-t.new.firsts c.process_comprs-t.new.work
analyze_query_outputs-done m c =
    let a = c.args in
    both_do a.tables.now true a.key a.value _ _ c.list_both-end.ensures _ _ _ _ _ _ _ _ c.process_comprs-t.ensures

pub analyze_query-slice_bounds-finish-end : goal.analyze_query-slice_bounds-finish-end
analyze_query-slice_bounds-finish-end m c = sym c.gather_local_vars-scope.auto.spans

pub analyze_query-finish-requires : goal.analyze_query-finish-requires
analyze_query-finish-requires m c =
    let done = analyze_query_outputs-done m (goal.at.analyze_query-finish-requires m c).After-process_comprs-t in
    let b = analyze_query_begins m (goal.at.analyze_query-finish-requires m c).Else-levels-eq0 in
    let x = analyze_query_encloses m (goal.at.analyze_query-finish-requires m c).After-enclose in record {
      asks_finish = (
        record {
          accepted = c.requires.0;
          from = b.from;
          to = b.to;
          spans-room = omega (arith, c.gather_local_vars-scope.auto.spans);
        },
        room-last _ _ _ _ _ _ _ _ _ _ _ _ _ _ x _ _ _ done,
        based-last _ _ _ _ _ _ _ _ _ _ _ _ _ _ x _ _ _ done,
      );
      schedulable = takes_last _ _ _ _ _ _ _ _ _ _ _ _ _ _ x _ _ _ done;
    }

pub analyze_query-shape_of-work : goal.analyze_query-shape_of-work
analyze_query-shape_of-work m c = c.finish.auto.work ∙ c.process_comprs-t.auto.work ∙ c.process_stmts-s.auto.work

pub analyze_query-returns : goal.analyze_query-returns
analyze_query-returns m c =
    does_query _ _ _ _ _ _ _ _ _ _ _ _ _ _ (analyze_query_encloses m (goal.at.analyze_query-returns m c).After-enclose) _ _ _ (analyze_query_outputs-done m (goal.at.analyze_query-returns m c).After-process_comprs-t) _ (omega (arith, c.if-levels-eq0.false)) _ _ c.finish.ensures

-- ---- `assign_pair`.

pub assign_pair-returns-then-left-eq0 : goal.assign_pair-returns-then-left-eq0
assign_pair-returns-then-left-eq0 m c =
    pair-none _ _ _ c.args.right c.args.check c.args.context _ _ _ c.if-left-eq0.true

pub assign_pair-use_expr-u-requires : goal.assign_pair-use_expr-u-requires
assign_pair-use_expr-u-requires m c =
    let pre = c.requires in (
      omega (arith, c.decreases),
      (
        record {
          accepted = pre.accepted;
          inner_room = pre.inner_room;
          firsts_room = pre.firsts_room;
          row_in = pre.right_in;
          asks = asks_right _ _ _ _ c.args.check _ _ _ _ c.if-left-eq0.false pre.asks;
        },
        listed-none _ c.empty-none.ensures,
      ),
    )

pub assign_pair-assign-s-requires : goal.assign_pair-assign-s-requires
assign_pair-assign-s-requires m c =
    let pre = c.requires in record {
      accepted = pre.accepted;
      row_in = pre.left_in;
      firsts_room = omega (arith, pre.firsts_room, c.use_expr-u.auto.firsts);
      ready = ready-left _ _ _ _ c.args.check _ _ _ _ c.if-left-eq0.false pre.asks _ c.empty-none.ensures _ _ _ c.use_expr-u.ensures;
    }

pub assign_pair-use_expr-v-requires : goal.assign_pair-use_expr-v-requires
assign_pair-use_expr-v-requires m c =
    let pre = c.requires in (
      omega (arith, c.decreases),
      (
        record {
          accepted = pre.accepted;
          inner_room = pre.inner_room;
          firsts_room = omega (arith, pre.firsts_room, c.use_expr-u.auto.firsts);
          row_in = pre.left_in;
          asks = asks-left _ _ _ _ c.args.check _ _ _ _ c.if-left-eq0.false pre.asks _ c.empty-none.ensures _ _ _ c.use_expr-u.ensures _ _
              c.assign-s.ensures;
        },
        listed-none _ c.empty-none.ensures,
      ),
    )

pub assign_pair-assign-requires : goal.assign_pair-assign-requires
assign_pair-assign-requires m c =
    let pre = c.requires in record {
      accepted = pre.accepted;
      row_in = pre.right_in;
      firsts_room = omega (arith, pre.firsts_room, c.use_expr-u.auto.firsts, c.use_expr-v.auto.firsts);
      ready = ready_right _ _ _ _ c.args.check _ _ _ _ c.if-left-eq0.false pre.asks _ c.empty-none.ensures _ _ _ c.use_expr-u.ensures _ _
          c.assign-s.ensures _ _ _ c.use_expr-v.ensures;
    }

pub assign_pair-shape_of-firsts : goal.assign_pair-shape_of-firsts
assign_pair-shape_of-firsts m c =
    omega (arith, c.use_expr-v.auto.firsts, c.use_expr-u.auto.firsts)

pub assign_pair-shape_of-work : goal.assign_pair-shape_of-work
assign_pair-shape_of-work m c =
    omega (
      arith,
      c.assign.auto.work,
      c.use_expr-v.auto.work,
      c.assign-s.auto.work,
      c.use_expr-u.auto.work,
    )

pub assign_pair-returns : goal.assign_pair-returns
assign_pair-returns m c =
    let pre = c.requires in
    pair_does _ _ _ _ _ _ _ _ _ c.if-left-eq0.false pre.asks _ c.empty-none.ensures _ _ _ c.use_expr-u.ensures _ _
    c.assign-s.ensures _ _ _ c.use_expr-v.ensures _ _ c.assign.ensures

-- ---- `process_comprs`: the list is gone through up to its end, and the query of a comprehension is analysed with the levels that are left.

pub process_comprs-returns-then-at-end : goal.process_comprs-returns-then-at-end
process_comprs-returns-then-at-end m c =
    let a = c.args in
    subst (λ (cs : List Tree). DoesComprs a.tables.now a.inner.now cs a.levels a.p a.firsts.now a.work.now a.p a.firsts.now a.work.now)
    (sym (listed-end a.tables.now a.rows.now a.at a.end c.if-at-end.true)) (compr_lists_does_none a.tables.now a.inner.now a.levels a.p a.firsts.now a.work.now)

pub process_comprs-listed_at-w-requires : goal.process_comprs-listed_at-w-requires
process_comprs-listed_at-w-requires m c =
    let pre = c.requires in
    (pre.accepted, omega (arith, pre.up, pre.in_list, c.if-at-end.false), (pre.comprehensions c.args.at (omega arith) (omega (arith, pre.up, c.if-at-end.false))).to)

-- There is process_comprs_room for the rows of definitions, which have n words, and for the table.
process_comprs_room : (m : ℕ) (c : process_comprs-After-listed_at-w m) (n : ℕ)
    → let a = c.args in
    n ≡ Widths.row_words a.p.width * a.p.count → n + answers_size a.p.width ≤ length a.work.now
process_comprs_room m c = compr_lists_room_at _ _ _ _ _ _ _ _ c.requires c.if-at-end.false _ c.listed_at-w.ensures

-- So many words have the rows.
process_comprs_rows_are : (m : ℕ) (c : process_comprs-After-row m)
    → let a = c.args in
    c.row.result * a.p.count ≡ Widths.row_words a.p.width * a.p.count
process_comprs_rows_are m c = ap (λ (n : ℕ). n * c.args.p.count) c.row.ensures

pub process_comprs-pending-query-requires : goal.process_comprs-pending-query-requires
process_comprs-pending-query-requires m c =
    (omega (arith, process_comprs_room m c _ refl), query_in _ _ _ _ _ _ _ _ c.requires c.if-at-end.false _ c.listed_at-w.ensures)

pub process_comprs-overflow_mul-first : goal.process_comprs-overflow_mul-first
process_comprs-overflow_mul-first m c =
    record { fits = omega (arith, process_comprs_room m (goal.at.process_comprs-overflow_mul-first m c).After-listed_at-w _ (process_comprs_rows_are m (goal.at.process_comprs-overflow_mul-first m c).After-row), c.well_formed.1.1.1.1.1.1.1.1.0.1) }

pub process_comprs-offset_bounds-work-first : goal.process_comprs-offset_bounds-work-first
process_comprs-offset_bounds-work-first m c =
    omega (arith, process_comprs_room m (goal.at.process_comprs-offset_bounds-work-first m c).After-listed_at-w _ (process_comprs_rows_are m (goal.at.process_comprs-offset_bounds-work-first m c).After-row), c.well_formed.1.1.1.1.1.1.1.1.0.1)

pub process_comprs-slice_bounds-analyze_query-count : goal.process_comprs-slice_bounds-analyze_query-count
process_comprs-slice_bounds-analyze_query-count m c =
    omega (arith, process_comprs_room m (goal.at.process_comprs-slice_bounds-analyze_query-count m c).After-listed_at-w _ (process_comprs_rows_are m (goal.at.process_comprs-slice_bounds-analyze_query-count m c).After-row), c.well_formed.1.1.1.1.1.1.1.1.0.1)

pub process_comprs-analyze_query-fault-requires : goal.process_comprs-analyze_query-fault-requires
process_comprs-analyze_query-fault-requires m c =
    let pre = c.requires in (
      omega (arith, c.decreases),
      (
        pre.accepted,
        pre.inner_room,
        compr_lists_query-asks _ _ _ _ _ _ _ _ pre c.if-at-end.false _ c.listed_at-w.ensures _ (process_comprs_rows_are m (goal.at.process_comprs-analyze_query-fault-requires m c).After-row) _ c.pending-query.ensures,
      ),
    )

pub process_comprs-after_compr-s-requires : goal.process_comprs-after_compr-s-requires
process_comprs-after_compr-s-requires m c =
    let rows = process_comprs_rows_are m (goal.at.process_comprs-after_compr-s-requires m c).After-row in
    let pre = c.requires in (
      pre.firsts_room,
      omega (arith, process_comprs_room m (goal.at.process_comprs-after_compr-s-requires m c).After-listed_at-w _ rows, whole_length c.args.p.width c.args.work.now _ (process_comprs_room m (goal.at.process_comprs-after_compr-s-requires m c).After-listed_at-w _ rows) c.analyze_query-fault.new.work c.analyze_query-fault.auto.work),
      query_in _ _ _ _ _ _ _ _ pre c.if-at-end.false _ c.listed_at-w.ensures,
    )

-- The turn of the comprehension.
process_comprs_room-at-After-after_compr-s : (m : ℕ) (c : process_comprs-After-after_compr-s m) (n : ℕ)
    → let a = c.args in
    n ≡ Widths.row_words a.p.width * a.p.count → n + answers_size a.p.width ≤ length a.work.now
process_comprs_room-at-After-after_compr-s m c = compr_lists_room_at _ _ _ _ _ _ _ _ c.requires c.if-at-end.false _ c.listed_at-w.ensures

process_comprs_rows_are-at-After-after_compr-s : (m : ℕ) (c : process_comprs-After-after_compr-s m)
    → let a = c.args in
    c.row.result * a.p.count ≡ Widths.row_words a.p.width * a.p.count
process_comprs_rows_are-at-After-after_compr-s m c = ap (λ (n : ℕ). n * c.args.p.count) c.row.ensures

process_comprs_own : (m : ℕ) (c : process_comprs-After-after_compr-s m)
    →
    let a = c.args in
    DoesComprs a.tables.now a.inner.now (expr_by a.tables.now false (get_or a.rows.now a.at 0) ∷ []) a.levels a.p a.firsts.now a.work.now
    c.after_compr-s.result c.after_compr-s.new.firsts
    (tail-whole a.p.width a.work.now _ (process_comprs_room-at-After-after_compr-s m c _ (process_comprs_rows_are-at-After-after_compr-s m c)) c.analyze_query-fault.new.work c.analyze_query-fault.auto.work)
process_comprs_own m c =
    own_does _ _ _ _ _ _ _ _ c.requires c.if-at-end.false _ c.listed_at-w.ensures _ (process_comprs_rows_are-at-After-after_compr-s m c) _ c.pending-query.ensures c.args.levels _ _
    c.analyze_query-fault.auto.work c.analyze_query-fault.ensures _ _ c.after_compr-s.ensures

pub process_comprs-overflow_add-at : goal.process_comprs-overflow_add-at
process_comprs-overflow_add-at m c =
    let pre = c.requires in
    omega (arith, pre.up, c.if-at-end.false, c.well_formed.1.1.1.1.0)

pub process_comprs-process_comprs-requires : goal.process_comprs-process_comprs-requires
process_comprs-process_comprs-requires m c =
    let pre = c.requires in (
      omega (arith, c.decreases, pre.up, c.if-at-end.false),
      next-asks _ _ _ _ _ _ _ _ pre c.if-at-end.false _ c.listed_at-w.ensures c.args.levels _ _ _ (process_comprs_own m (goal.at.process_comprs-process_comprs-requires m c).After-after_compr-s) c.after_compr-s.auto.firsts,
    )

pub process_comprs-shape_of-firsts : goal.process_comprs-shape_of-firsts
process_comprs-shape_of-firsts m c = c.process_comprs.auto.firsts ∙ c.after_compr-s.auto.firsts

pub process_comprs-shape_of-work : goal.process_comprs-shape_of-work
process_comprs-shape_of-work m c = c.process_comprs.auto.work ∙ (process_comprs_own m (goal.at.process_comprs-shape_of-work m c).After-after_compr-s).grown.long

pub process_comprs-returns : goal.process_comprs-returns
process_comprs-returns m c =
    turn_does _ _ _ _ _ _ _ _ c.requires c.if-at-end.false _ c.listed_at-w.ensures c.args.levels _ _ _ (process_comprs_own m (goal.at.process_comprs-returns m c).After-after_compr-s) _ _ _ c.process_comprs.ensures

-- ---- `process_every`: the domain is used in the scopes around the statement, and the body is a nested query below key and value (`every_does`).

pub process_every-use_expr-u-requires : goal.process_every-use_expr-u-requires
process_every-use_expr-u-requires m c =
    let a = c.args in
    let pre = c.requires in (
      omega (arith, c.decreases),
      (
        record {
          accepted = pre.0.accepted;
          inner_room = search rules;
          firsts_room = pre.0.firsts_room;
          row_in = (every-named a.tables.now pre.0.accepted a.outer.now a.spans.now a.st a.context a.p a.firsts.now a.work.now pre.1 pre.0.asks).third;
          asks = every_steps_use_asks a.tables.now pre.0.accepted a.outer.now a.spans.now a.st a.context a.p a.firsts.now a.work.now pre.1 pre.0.asks
              _ c.enclose.ensures _ c.empty-none.ensures;
        },
        listed-none _ c.empty-none.ensures,
      ),
    )

pub process_every-record_one-s-requires : goal.process_every-record_one-s-requires
process_every-record_one-s-requires m c =
    let a = c.args in
    let pre = c.requires in
    one-fits a.tables.now pre.0.accepted a.outer.now a.spans.now a.st a.context a.p a.firsts.now a.work.now pre.1 pre.0.asks
    _ c.enclose.ensures _ c.empty-none.ensures _ _ _ c.use_expr-u.ensures

-- There is process_every_room for the rows of definitions, which have n words, and for the table.
process_every_room : (m : ℕ) (c : process_every-After-record_one-s m) (n : ℕ)
    → let s = c.record_one-s.result in
    n ≡ Widths.row_words s.width * s.count → n + answers_size s.width ≤ length c.record_one-s.new.work
process_every_room m c =
    let a = c.args in
    let pre = c.requires in
    every_steps_room_at a.tables.now pre.0.accepted a.outer.now a.spans.now a.st a.context a.p a.firsts.now a.work.now pre.1 pre.0.asks
    _ c.enclose.ensures _ c.empty-none.ensures _ _ _ c.use_expr-u.ensures _ _ c.record_one-s.ensures

-- So many words have the rows.
process_every_rows_are : (m : ℕ) (c : process_every-After-row m)
    → let s = c.record_one-s.result in
    c.row.result * s.count ≡ Widths.row_words s.width * s.count
process_every_rows_are m c = ap (λ (n : ℕ). n * c.record_one-s.result.count) c.row.ensures

-- It is no longer than it was.
process_every_short : (m : ℕ) (c : process_every-After-record_one-s m)
    → length c.record_one-s.new.work ≡ length c.args.work.now
process_every_short m c = omega (arith, c.use_expr-u.auto.work, c.record_one-s.auto.work)

pub process_every-enclose_every-requires : goal.process_every-enclose_every-requires
process_every-enclose_every-requires m c =
    let a = c.args in
    let pre = c.requires in
    let rows = every-named a.tables.now pre.0.accepted a.outer.now a.spans.now a.st a.context a.p a.firsts.now a.work.now pre.1 pre.0.asks in
    record {
      accepted = pre.0.accepted;
      outer-room = omega (arith, c.enclose.auto.inner);
      key_in = rows.first;
      value_in = rows.second;
      inner_room = search rules;
    }

pub process_every-overflow_mul-at : goal.process_every-overflow_mul-at
process_every-overflow_mul-at m c =
    record { fits = omega (arith, process_every_room m (goal.at.process_every-overflow_mul-at m c).After-record_one-s _ (process_every_rows_are m (goal.at.process_every-overflow_mul-at m c).After-row), process_every_short m (goal.at.process_every-overflow_mul-at m c).After-record_one-s, c.well_formed.1.1.1.1.1.1.1.0.1) }

pub process_every-offset_bounds-work-at : goal.process_every-offset_bounds-work-at
process_every-offset_bounds-work-at m c =
    omega (arith, process_every_room m (goal.at.process_every-offset_bounds-work-at m c).After-record_one-s _ (process_every_rows_are m (goal.at.process_every-offset_bounds-work-at m c).After-row), process_every_short m (goal.at.process_every-offset_bounds-work-at m c).After-record_one-s, c.well_formed.1.1.1.1.1.1.1.0.1)

pub process_every-slice_bounds-analyze_query-start : goal.process_every-slice_bounds-analyze_query-start
process_every-slice_bounds-analyze_query-start m c =
    omega (arith, process_every_room m (goal.at.process_every-slice_bounds-analyze_query-start m c).After-record_one-s _ (process_every_rows_are m (goal.at.process_every-slice_bounds-analyze_query-start m c).After-row), process_every_short m (goal.at.process_every-slice_bounds-analyze_query-start m c).After-record_one-s, c.well_formed.1.1.1.1.1.1.1.0.1)

pub process_every-slice_bounds-analyze_query-count : goal.process_every-slice_bounds-analyze_query-count
process_every-slice_bounds-analyze_query-count m c =
    omega (arith, process_every_room m (goal.at.process_every-slice_bounds-analyze_query-count m c).After-record_one-s _ (process_every_rows_are m (goal.at.process_every-slice_bounds-analyze_query-count m c).After-row), process_every_short m (goal.at.process_every-slice_bounds-analyze_query-count m c).After-record_one-s, c.well_formed.1.1.1.1.1.1.1.0.1)

pub process_every-analyze_query-fault-requires : goal.process_every-analyze_query-fault-requires
process_every-analyze_query-fault-requires m c =
    let a = c.args in
    let pre = c.requires in (
      omega (arith, c.decreases),
      (
        pre.0.accepted,
        omega (arith, c.enclose_every.auto.inner),
        every_steps_query-asks a.tables.now pre.0.accepted a.outer.now a.spans.now a.st a.context a.p a.firsts.now a.work.now pre.1 pre.0.asks
            _ c.enclose.ensures _ c.empty-none.ensures _ _ _ c.use_expr-u.ensures _ _ c.record_one-s.ensures
            _ (process_every_rows_are m (goal.at.process_every-analyze_query-fault-requires m c).After-row) _ c.enclose_every.ensures _ c.body_of-query.ensures,
      ),
    )

pub process_every-shape_of-firsts : goal.process_every-shape_of-firsts
process_every-shape_of-firsts m c = omega (arith, c.use_expr-u.auto.firsts)

pub process_every-shape_of-work : goal.process_every-shape_of-work
process_every-shape_of-work m c =
    let rows = process_every_rows_are m (goal.at.process_every-shape_of-work m c).After-row in
    omega (
      arith,
      process_every_short m (goal.at.process_every-shape_of-work m c).After-record_one-s,
      whole_length c.record_one-s.result.width c.record_one-s.new.work _ (process_every_room m (goal.at.process_every-shape_of-work m c).After-record_one-s _ rows) c.analyze_query-fault.new.work c.analyze_query-fault.auto.work,
    )

pub process_every-returns : goal.process_every-returns
process_every-returns m c =
    let a = c.args in
    let pre = c.requires in
    every_does a.tables.now pre.0.accepted a.outer.now a.spans.now a.st a.context a.p a.firsts.now a.work.now pre.1 pre.0.asks
    _ c.enclose.ensures _ c.empty-none.ensures _ _ _ c.use_expr-u.ensures _ _ c.record_one-s.ensures
    _ (process_every_rows_are m (goal.at.process_every-returns m c).After-row) _ c.enclose_every.ensures _ c.body_of-query.ensures _ _ c.analyze_query-fault.auto.work c.analyze_query-fault.ensures
    _ c.after_body.ensures

-- ---- `process_expr`: the names of an extra argument are bound first; what is then done is an assignment (`assign_does`) or a use (`use_does`).

pub process_expr-extra_arg-arg-requires : goal.process_expr-extra_arg-arg-requires
process_expr-extra_arg-arg-requires m c =
    let pre = c.requires in
    (pre.accepted, pre.asks.low)

pub process_expr-extra_vars-extras-requires : goal.process_expr-extra_vars-extras-requires
process_expr-extra_vars-extras-requires m c =
    let a = c.args in
    let pre = c.requires in
    (pre.accepted, pre.outer-room, arg_low a.tables.now pre.accepted a.outer.now a.spans.now a.row a.call a.context a.p a.firsts.now a.work.now pre.asks _ c.extra_arg-arg.ensures)

pub process_expr-row_at-w-requires : goal.process_expr-row_at-w-requires
process_expr-row_at-w-requires m c =
    let pre = c.requires in
    (pre.accepted.room, row_low _ pre.accepted _ (λ z. omega (arith, pre.asks.there)) pre.asks.low)

-- The row that was read.
process_expr_row_is : (m : ℕ) (c : process_expr-After-row_at-w m)
    → c.row_at-w.result ≡ row_at c.args.tables.now c.args.row
process_expr_row_is m c = c.row_at-w.ensures ∙ row-fields _ _

pub process_expr-process_pairs-requires : goal.process_expr-process_pairs-requires
process_expr-process_pairs-requires m c =
    let a = c.args in
    let pre = c.requires in (
      omega (arith, c.decreases, few_remain _ pre.accepted c.row_at-w.result.first),
      record {
        accepted = pre.accepted;
        inner_room = search rules;
        firsts_room = pre.firsts_room;
        left_in = first-low _ pre.accepted _ (λ z. omega (arith, pre.asks.there)) pre.asks.low _ (process_expr_row_is m (goal.at.process_expr-process_pairs-requires m c).After-row_at-w);
        right_in = second-low _ pre.accepted _ (λ z. omega (arith, pre.asks.there)) pre.asks.low _ (process_expr_row_is m (goal.at.process_expr-process_pairs-requires m c).After-row_at-w);
        asks = pairs_asks a.tables.now pre.accepted a.outer.now a.spans.now a.row a.call a.context a.p a.firsts.now a.work.now pre.asks
            _ c.extra_arg-arg.ensures _ c.extra_vars-extras.ensures _ c.bind_extras-s.ensures _ c.enclose.ensures
            _ (process_expr_row_is m (goal.at.process_expr-process_pairs-requires m c).After-row_at-w) (sym c.is_assign.ensures ∙ c.if-is_assign.true);
      },
    )

pub process_expr-returns-then-is_assign : goal.process_expr-returns-then-is_assign
process_expr-returns-then-is_assign m c =
    let a = c.args in
    let pre = c.requires in
    assign_does a.tables.now pre.accepted a.outer.now a.spans.now a.row a.call a.context a.p a.firsts.now a.work.now pre.asks
    _ c.extra_arg-arg.ensures _ c.extra_vars-extras.ensures _ c.bind_extras-s.ensures _ c.enclose.ensures
    _ (process_expr_row_is m (goal.at.process_expr-returns-then-is_assign m c).After-row_at-w) (sym c.is_assign.ensures ∙ c.if-is_assign.true)
    _ c.is_col_eq.ensures _ _ _ c.process_pairs.ensures

pub process_expr-use_expr-u-requires : goal.process_expr-use_expr-u-requires
process_expr-use_expr-u-requires m c =
    let a = c.args in
    let pre = c.requires in (
      omega (arith, c.decreases),
      (
        record {
          accepted = pre.accepted;
          inner_room = search rules;
          firsts_room = pre.firsts_room;
          row_in = pre.asks.low;
          asks = expr_steps_use_asks a.tables.now pre.accepted a.outer.now a.spans.now a.row a.call a.context a.p a.firsts.now a.work.now pre.asks
              _ c.extra_arg-arg.ensures _ c.extra_vars-extras.ensures _ c.bind_extras-s.ensures _ c.enclose.ensures;
        },
        extras_listed a.tables.now pre.accepted a.outer.now a.spans.now a.row a.call a.context a.p a.firsts.now a.work.now pre.asks
            _ c.extra_arg-arg.ensures _ c.extra_vars-extras.ensures _ c.bind_extras-s.ensures _ c.enclose.ensures,
      ),
    )

pub process_expr-record_each-requires : goal.process_expr-record_each-requires
process_expr-record_each-requires m c =
    let a = c.args in
    let pre = c.requires in
    each_fits a.tables.now pre.accepted a.outer.now a.spans.now a.row a.call a.context a.p a.firsts.now a.work.now pre.asks
    _ c.extra_arg-arg.ensures _ c.extra_vars-extras.ensures _ c.bind_extras-s.ensures _ c.enclose.ensures
    _ _ _ c.use_expr-u.ensures

pub process_expr-returns : goal.process_expr-returns
process_expr-returns m c =
    let a = c.args in
    let pre = c.requires in
    use_does a.tables.now pre.accepted a.outer.now a.spans.now a.row a.call a.context a.p a.firsts.now a.work.now pre.asks
    _ c.extra_arg-arg.ensures _ c.extra_vars-extras.ensures _ c.bind_extras-s.ensures _ c.enclose.ensures
    _ _ _ c.use_expr-u.ensures (ap is_assign (sym (process_expr_row_is m (goal.at.process_expr-returns m c).After-row_at-w)) ∙ sym c.is_assign.ensures ∙ c.if-is_assign.false)
    _ _ c.record_each.ensures

-- ---- `process_literal`: the form's own function does it (LiteralSteps.antt).

pub process_literal-check_vars-requires : goal.process_literal-check_vars-requires
process_literal-check_vars-requires m c =
    let a = c.args in
    let pre = c.requires in
    (pre.accepted, literal_first_low a.tables.now a.st pre.accepted a.outer.now a.spans.now a.context a.p a.firsts.now a.work.now pre.asks, pre.firsts_room)

pub process_literal-returns-in-SomeVars : goal.process_literal-returns-in-SomeVars
process_literal-returns-in-SomeVars m c =
    let a = c.args in
    let pre = c.requires in
    literal-vars a.tables.now a.st pre.accepted a.outer.now a.spans.now a.context a.p a.firsts.now a.work.now pre.asks c.in-SomeVars.ensures _ c.check_vars.ensures

pub process_literal-process_some_in-requires : goal.process_literal-process_some_in-requires
process_literal-process_some_in-requires m c =
    let a = c.args in
    let pre = c.requires in (
      omega (arith, c.decreases),
      (
        record {
          accepted = pre.accepted;
          outer-room = pre.outer-room;
          spans-room = pre.spans-room;
          firsts_room = pre.firsts_room;
          asks = pre.asks;
        },
        c.in-SomeIn.ensures,
      ),
    )

pub process_literal-returns-in-SomeIn : goal.process_literal-returns-in-SomeIn
process_literal-returns-in-SomeIn m c =
    let a = c.args in
    let pre = c.requires in
    literal-some_in a.tables.now a.st pre.accepted a.outer.now a.spans.now a.context a.p a.firsts.now a.work.now pre.asks _ _ _ c.in-SomeIn.ensures c.process_some_in.ensures

pub process_literal-process_every-requires : goal.process_literal-process_every-requires
process_literal-process_every-requires m c =
    let a = c.args in
    let pre = c.requires in (
      omega (arith, c.decreases),
      (
        record {
          accepted = pre.accepted;
          outer-room = pre.outer-room;
          spans-room = pre.spans-room;
          firsts_room = pre.firsts_room;
          asks = pre.asks;
        },
        c.in-Every.ensures,
      ),
    )

pub process_literal-returns-in-Every : goal.process_literal-returns-in-Every
process_literal-returns-in-Every m c =
    let a = c.args in
    let pre = c.requires in
    literal-every a.tables.now a.st pre.accepted a.outer.now a.spans.now a.context a.p a.firsts.now a.work.now pre.asks _ _ _ c.in-Every.ensures c.process_every.ensures

pub process_literal-process_expr-requires : goal.process_literal-process_expr-requires
process_literal-process_expr-requires m c =
    let a = c.args in
    let pre = c.requires in
    let three = c.in-Expr.ensures in (
      omega (arith, c.decreases),
      record {
        accepted = pre.accepted;
        outer-room = pre.outer-room;
        spans-room = pre.spans-room;
        firsts_room = pre.firsts_room;
        asks = asks-expr a.tables.now a.st pre.accepted a.outer.now a.spans.now a.context a.p a.firsts.now a.work.now pre.asks (λ z. omega arith) (λ z. omega arith) (λ z. omega arith);
      },
    )

pub process_literal-returns-in-Expr : goal.process_literal-returns-in-Expr
process_literal-returns-in-Expr m c =
    let a = c.args in
    let pre = c.requires in
    let three = c.in-Expr.ensures in
    literal-expr a.tables.now a.st pre.accepted a.outer.now a.spans.now a.context a.p a.firsts.now a.work.now pre.asks (λ z. omega arith) (λ z. omega arith) (λ z. omega arith)
    true (sym (eq-eqb a.st.form 3 three)) _ _ _ c.process_expr.ensures

pub process_literal-process_expr-requires-in-NotExpr : goal.process_literal-process_expr-requires-in-NotExpr
process_literal-process_expr-requires-in-NotExpr m c =
    let a = c.args in
    let pre = c.requires in
    let other = plain_form a.st.form c.from.ensures c.in-NotExpr.is in (
      omega (arith, c.decreases),
      record {
        accepted = pre.accepted;
        outer-room = pre.outer-room;
        spans-room = pre.spans-room;
        firsts_room = pre.firsts_room;
        asks = asks-expr a.tables.now a.st pre.accepted a.outer.now a.spans.now a.context a.p a.firsts.now a.work.now pre.asks other.0 other.1 other.2;
      },
    )

pub process_literal-returns-in-NotExpr : goal.process_literal-returns-in-NotExpr
process_literal-returns-in-NotExpr m c =
    let a = c.args in
    let pre = c.requires in
    let other = plain_form a.st.form c.from.ensures c.in-NotExpr.is in
    literal-expr a.tables.now a.st pre.accepted a.outer.now a.spans.now a.context a.p a.firsts.now a.work.now pre.asks other.0 other.1 other.2
    false (sym other.3) _ _ _ c.process_expr-in-NotExpr.ensures

-- ---- `process_non_var`.

pub process_non_var-returns-then-row-eq0 : goal.process_non_var-returns-then-row-eq0
process_non_var-returns-then-row-eq0 m c =
    let a = c.args in
    non_var_none a.tables.now a.inner.now a.row c.if-row-eq0.true a.context a.p a.firsts.now a.work.now

pub process_non_var-use_vars-u-requires : goal.process_non_var-use_vars-u-requires
process_non_var-use_vars-u-requires m c =
    let a = c.args in
    let pre = c.requires in (
      record {
        accepted = pre.accepted;
        row_in = pre.row_in;
        firsts_room = pre.firsts_room;
        ready = asks_use a.tables.now a.inner.now a.row c.if-row-eq0.false a.context a.p a.firsts.now a.work.now pre.asks;
      },
      listed-none _ c.empty-none.ensures,
    )

pub process_non_var-list_both-end-requires : goal.process_non_var-list_both-end-requires
process_non_var-list_both-end-requires m c =
    let pre = c.requires in
    record {
      accepted = pre.accepted;
      one_in = at_low c.args.tables.now false c.args.row _ c.use_vars-u.ensures.comprs pre.row_in;
      two_in = pre.asks.mods-low;
      room = search rules;
    }

pub process_non_var-process_comprs-requires : goal.process_non_var-process_comprs-requires
process_non_var-process_comprs-requires m c =
    let both = c.list_both-end in
    let a = c.args in
    let pre = c.requires in (
      omega (arith, c.decreases, both.ensures.fits),
      asks-comprs a.tables.now a.inner.now a.row c.if-row-eq0.false a.context a.p a.firsts.now a.work.now _ c.empty-none.ensures _ _ _
          c.use_vars-u.ensures _ c.fail_if_some-s.ensures pre.asks pre.accepted pre.inner_room
          (omega (arith, pre.firsts_room, c.use_vars-u.auto.firsts)) _ _ both.ensures (omega (arith, both.auto.rows)),
    )

pub process_non_var-shape_of-firsts : goal.process_non_var-shape_of-firsts
process_non_var-shape_of-firsts m c = c.process_comprs.auto.firsts ∙ c.use_vars-u.auto.firsts

pub process_non_var-shape_of-work : goal.process_non_var-shape_of-work
process_non_var-shape_of-work m c = c.process_comprs.auto.work ∙ c.use_vars-u.auto.work

pub process_non_var-returns : goal.process_non_var-returns
process_non_var-returns m c =
    let both = c.list_both-end in
    let a = c.args in
    non_var_does a.tables.now a.inner.now a.row c.if-row-eq0.false a.context a.p a.firsts.now a.work.now _ c.empty-none.ensures _ _ _
    c.use_vars-u.ensures _ c.fail_if_some-s.ensures _ _ _
    (both_do a.tables.now false _ _ _ _ both.ensures a.inner.now a.context.levels _ _ _ _ _ _ c.process_comprs.ensures)

-- ---- `process_non_vars`.

pub process_non_vars-returns-then-row-eq0 : goal.process_non_vars-returns-then-row-eq0
process_non_vars-returns-then-row-eq0 m c =
    let a = c.args in
    non_vars_do_none a.tables.now c.requires.accepted a.inner.now a.row c.if-row-eq0.true a.context a.p a.firsts.now a.work.now

pub process_non_vars-row_at-w-requires : goal.process_non_vars-row_at-w-requires
process_non_vars-row_at-w-requires m c =
    let pre = c.requires in
    (pre.accepted.room, row_low _ pre.accepted _ c.if-row-eq0.false pre.row_in)

-- The row that was read.
process_non_vars_row_is : (m : ℕ) (c : process_non_vars-After-row_at-w m)
    → let a = c.args in
    c.row_at-w.result ≡ row_at a.tables.now a.row
process_non_vars_row_is m c = c.row_at-w.ensures ∙ row-fields _ _

-- The rows of the calls on it.
process_non_vars_row_is-at-After-pattern_of-items : (m : ℕ) (c : process_non_vars-After-pattern_of-items m)
    → let a = c.args in
    c.row_at-w.result ≡ row_at a.tables.now a.row
process_non_vars_row_is-at-After-pattern_of-items m c = c.row_at-w.ensures ∙ row-fields _ _

process_non_vars_ready : (m : ℕ) (c : process_non_vars-After-pattern_of-items m)
    → let a = c.args in
    Falls a.tables.now (remains a.tables.now a.row) c.pattern_of-items.result
    × Falls a.tables.now (remains a.tables.now a.row) c.row_at-w.result.next
process_non_vars_ready m c =
    let pre = c.requires in
    pattern_calls _ pre.accepted _ c.if-row-eq0.false pre.row_in _ refl true _ (process_non_vars_row_is-at-After-pattern_of-items m c) _ c.pattern_of-items.ensures _ refl

pub process_non_vars-non_var-other-requires : goal.process_non_vars-non_var-other-requires
process_non_vars-non_var-other-requires m c =
    let pre = c.requires in
    (pre.accepted.room, rw (process_non_vars_row_is m (goal.at.process_non_vars-non_var-other-requires m c).After-row_at-w) (low-name _ pre.accepted _ c.if-row-eq0.false pre.row_in))

pub process_non_vars-process_non_var-s-requires : goal.process_non_vars-process_non_var-s-requires
process_non_vars-process_non_var-s-requires m c =
    let a = c.args in
    let pre = c.requires in (
      omega (arith, c.decreases),
      record {
        accepted = pre.accepted;
        inner_room = pre.inner_room;
        firsts_room = pre.firsts_room;
        row_in = non_var_low a.tables.now a.p.scope a.row c.row_at-w.result _ c.non_var-other.ensures _ pre.row_in;
        asks = asks-other a.tables.now pre.accepted a.inner.now a.row c.if-row-eq0.false pre.row_in c.row_at-w.result (process_non_vars_row_is m (goal.at.process_non_vars-process_non_var-s-requires m c).After-row_at-w)
            _ c.pattern_of-items.ensures a.context a.p _ c.non_var-other.ensures a.firsts.now a.work.now pre.asks;
      },
    )

-- The row itself and the parts of a pattern, each processed where there is one.
process_non_vars_one-done : (m : ℕ) (c : process_non_vars-Joined-other-ne0 m)
    → let a = c.args in
    KeepsLengths (DoesOthers a.tables.now a.inner.now (other_at a.tables.now c.non_var-other.result) a.context)
    a.p a.firsts.now a.work.now c.if-other-ne0.s c.if-other-ne0.firsts c.if-other-ne0.work
process_non_vars_one-done m c =
    let a = c.args in
    guarded_lists (λ r. DoesOthers a.tables.now a.inner.now (other_at a.tables.now r) a.context)
    (non_var_none a.tables.now a.inner.now 0 refl a.context) _ _ _ _ _ _ _
    (λ w. w) (λ w. w) (elim c.if-other-ne0.branch [
      | process_non_vars-then-other-ne0 w ↦ inl (_, _, _, (w.process_non_var-s.ensures, w.process_non_var-s.auto.firsts, w.process_non_var-s.auto.work), w.firsts-is, w.work-is, w.s-is)
      | process_non_vars-else-other-ne0 w ↦ inr (w.if-other-ne0.false, w.firsts-is, w.work-is, w.s-is)
    ])

pub process_non_vars-process_non_vars-s-requires : goal.process_non_vars-process_non_vars-s-requires
process_non_vars-process_non_vars-s-requires m c =
    let a = c.args in
    let pre = c.requires in
    let k = (process_non_vars_ready m (goal.at.process_non_vars-process_non_vars-s-requires m c).After-pattern_of-items).0 in (
      omega (arith, c.decreases, k.0),
      record {
        accepted = pre.accepted;
        inner_room = pre.inner_room;
        firsts_room = omega (arith, pre.firsts_room, (process_non_vars_one-done m (goal.at.process_non_vars-process_non_vars-s-requires m c).Joined-other-ne0).1);
        row_in = k.1;
        asks = pattern_steps_asks-parts a.tables.now pre.accepted a.inner.now a.row c.if-row-eq0.false pre.row_in c.row_at-w.result (process_non_vars_row_is m (goal.at.process_non_vars-process_non_vars-s-requires m c).After-row_at-w)
            _ c.pattern_of-items.ensures a.context a.p _ c.non_var-other.ensures a.firsts.now a.work.now _ _ _
            (process_non_vars_one-done m (goal.at.process_non_vars-process_non_vars-s-requires m c).Joined-other-ne0).0 pre.asks;
      },
    )

process_non_vars_parts-done : (m : ℕ) (c : process_non_vars-Joined-items-ne0 m)
    →
    let a = c.args in
    KeepsLengths (DoesNonVars a.tables.now a.inner.now c.pattern_of-items.result a.context)
    c.if-other-ne0.s c.if-other-ne0.firsts c.if-other-ne0.work c.if-items-ne0.s c.if-items-ne0.firsts c.if-items-ne0.work
process_non_vars_parts-done m c =
    let a = c.args in
    guarded_lists (λ r. DoesNonVars a.tables.now a.inner.now r a.context)
    (non_vars_do_none a.tables.now c.requires.accepted a.inner.now 0 refl a.context) _ _ _ _ _ _ _
    (λ w. w) (λ w. w) (elim c.if-items-ne0.branch [
      | process_non_vars-then-items-ne0 w ↦ inl (_, _, _, (w.process_non_vars-s.ensures, w.process_non_vars-s.auto.firsts, w.process_non_vars-s.auto.work), w.firsts-is, w.work-is, w.s-is)
      | process_non_vars-else-items-ne0 w ↦ inr (w.if-items-ne0.false, w.firsts-is, w.work-is, w.s-is)
    ])

-- The lengths of the lists are those at the start.
process_non_vars_one-done-at-Joined-items-ne0 : (m : ℕ) (c : process_non_vars-Joined-items-ne0 m)
    → let a = c.args in
    KeepsLengths (DoesOthers a.tables.now a.inner.now (other_at a.tables.now c.non_var-other.result) a.context)
    a.p a.firsts.now a.work.now c.if-other-ne0.s c.if-other-ne0.firsts c.if-other-ne0.work
process_non_vars_one-done-at-Joined-items-ne0 m c =
    let a = c.args in
    guarded_lists (λ r. DoesOthers a.tables.now a.inner.now (other_at a.tables.now r) a.context)
    (non_var_none a.tables.now a.inner.now 0 refl a.context) _ _ _ _ _ _ _
    (λ w. w) (λ w. w) (elim c.if-other-ne0.branch [
      | process_non_vars-then-other-ne0 w ↦ inl (_, _, _, (w.process_non_var-s.ensures, w.process_non_var-s.auto.firsts, w.process_non_var-s.auto.work), w.firsts-is, w.work-is, w.s-is)
      | process_non_vars-else-other-ne0 w ↦ inr (w.if-other-ne0.false, w.firsts-is, w.work-is, w.s-is)
    ])

process_non_vars_kept : (m : ℕ) (c : process_non_vars-Joined-items-ne0 m)
    → let a = c.args in
    (length c.if-items-ne0.firsts ≡ length a.firsts.now) × (length c.if-items-ne0.work ≡ length a.work.now)
process_non_vars_kept m c =
    let one = process_non_vars_one-done-at-Joined-items-ne0 m c in
    let parts = process_non_vars_parts-done m c in
    (parts.1 ∙ one.1, parts.2 ∙ one.2)

-- The whole, with the rest of the chain.
process_non_vars_row_is-at-Joined-items-ne0 : (m : ℕ) (c : process_non_vars-Joined-items-ne0 m)
    → let a = c.args in
    c.row_at-w.result ≡ row_at a.tables.now a.row
process_non_vars_row_is-at-Joined-items-ne0 m c = c.row_at-w.ensures ∙ row-fields _ _

process_non_vars_done : (m : ℕ) (c : process_non_vars-Joined-items-ne0 m) (s : Progress) (fs w : List ℕ)
    →
    let a = c.args in
    DoesNonVars a.tables.now a.inner.now c.row_at-w.result.next a.context c.if-items-ne0.s c.if-items-ne0.firsts c.if-items-ne0.work s fs w
    → DoesNonVars a.tables.now a.inner.now a.row a.context a.p a.firsts.now a.work.now s fs w
process_non_vars_done m c s fs w last =
    let a = c.args in
    let pre = c.requires in
    non_vars_do a.tables.now pre.accepted a.inner.now a.row c.if-row-eq0.false pre.row_in c.row_at-w.result (process_non_vars_row_is-at-Joined-items-ne0 m c)
    _ c.pattern_of-items.ensures a.context a.p _ c.non_var-other.ensures a.firsts.now a.work.now _ _ _
    (process_non_vars_one-done-at-Joined-items-ne0 m c).0 _ _ _ (process_non_vars_parts-done m c).0 _ _ _ last

pub process_non_vars-shape_of-firsts-then-w-eq0 : goal.process_non_vars-shape_of-firsts-then-w-eq0
process_non_vars-shape_of-firsts-then-w-eq0 m c = (process_non_vars_kept m (goal.at.process_non_vars-shape_of-firsts-then-w-eq0 m c).Joined-items-ne0).0

pub process_non_vars-shape_of-work-then-w-eq0 : goal.process_non_vars-shape_of-work-then-w-eq0
process_non_vars-shape_of-work-then-w-eq0 m c = (process_non_vars_kept m (goal.at.process_non_vars-shape_of-work-then-w-eq0 m c).Joined-items-ne0).1

pub process_non_vars-returns-then-w-eq0 : goal.process_non_vars-returns-then-w-eq0
process_non_vars-returns-then-w-eq0 m c =
    let a = c.args in
    process_non_vars_done m (goal.at.process_non_vars-returns-then-w-eq0 m c).Joined-items-ne0 _ _ _ (non_vars_do_none a.tables.now c.requires.accepted a.inner.now _ c.if-w-eq0.true a.context _ _ _)

pub process_non_vars-process_non_vars-requires : goal.process_non_vars-process_non_vars-requires
process_non_vars-process_non_vars-requires m c =
    let a = c.args in
    let pre = c.requires in
    let k = (process_non_vars_ready m (goal.at.process_non_vars-process_non_vars-requires m c).After-pattern_of-items).1 in (
      omega (arith, c.decreases, k.0),
      record {
        accepted = pre.accepted;
        inner_room = pre.inner_room;
        firsts_room = omega (arith, pre.firsts_room, (process_non_vars_kept m (goal.at.process_non_vars-process_non_vars-requires m c).Joined-items-ne0).0);
        row_in = k.1;
        asks = pattern_steps_asks_rest a.tables.now pre.accepted a.inner.now a.row c.if-row-eq0.false pre.row_in c.row_at-w.result (process_non_vars_row_is m (goal.at.process_non_vars-process_non_vars-requires m c).After-row_at-w)
            _ c.pattern_of-items.ensures a.context a.p _ c.non_var-other.ensures a.firsts.now a.work.now _ _ _
            (process_non_vars_one-done m (goal.at.process_non_vars-process_non_vars-requires m c).Joined-other-ne0).0 _ _ _ (process_non_vars_parts-done m (goal.at.process_non_vars-process_non_vars-requires m c).Joined-items-ne0).0 pre.asks;
      },
    )

pub process_non_vars-shape_of-firsts : goal.process_non_vars-shape_of-firsts
process_non_vars-shape_of-firsts m c =
    c.process_non_vars.auto.firsts ∙ (process_non_vars_kept m (goal.at.process_non_vars-shape_of-firsts m c).Joined-items-ne0).0

pub process_non_vars-shape_of-work : goal.process_non_vars-shape_of-work
process_non_vars-shape_of-work m c =
    c.process_non_vars.auto.work ∙ (process_non_vars_kept m (goal.at.process_non_vars-shape_of-work m c).Joined-items-ne0).1

pub process_non_vars-returns : goal.process_non_vars-returns
process_non_vars-returns m c =
    process_non_vars_done m (goal.at.process_non_vars-returns m c).Joined-items-ne0 _ _ _ c.process_non_vars.ensures

-- ---- `process_pairs`.

pub process_pairs-returns-then-left-eq0 : goal.process_pairs-returns-then-left-eq0
process_pairs-returns-then-left-eq0 m c =
    let a = c.args in
    no_pairs _ _ a.check a.context _ _ _ _ (pairings-left _ c.requires.accepted a.left a.right c.if-left-eq0.true)

pub process_pairs-returns-then-right-eq0 : goal.process_pairs-returns-then-right-eq0
process_pairs-returns-then-right-eq0 m c =
    let a = c.args in
    no_pairs _ _ a.check a.context _ _ _ _ (pairings_right _ c.requires.accepted a.left a.right c.if-right-eq0.true)

pub process_pairs-row_at-a-requires : goal.process_pairs-row_at-a-requires
process_pairs-row_at-a-requires m c =
    let pre = c.requires in
    (pre.accepted.room, row_low _ pre.accepted _ c.if-left-eq0.false pre.left_in)

pub process_pairs-row_at-b-requires : goal.process_pairs-row_at-b-requires
process_pairs-row_at-b-requires m c =
    let pre = c.requires in
    (pre.accepted.room, row_low _ pre.accepted _ c.if-right-eq0.false pre.right_in)

-- The rows that were read.
process_pairs_left_is : (m : ℕ) (c : process_pairs-After-row_at-a m) → c.row_at-a.result ≡ row_at c.args.tables.now c.args.left
process_pairs_left_is m c = c.row_at-a.ensures ∙ row-fields _ _

process_pairs_right_is : (m : ℕ) (c : process_pairs-After-row_at-b m) → c.row_at-b.result ≡ row_at c.args.tables.now c.args.right
process_pairs_right_is m c = c.row_at-b.ensures ∙ row-fields _ _

pub process_pairs-pair_of-requires : goal.process_pairs-pair_of-requires
process_pairs-pair_of-requires m c =
    let pre = c.requires in (
      pre.accepted,
      first-low _ pre.accepted _ c.if-left-eq0.false pre.left_in _ (process_pairs_left_is m (goal.at.process_pairs-pair_of-requires m c).After-row_at-a),
      first-low _ pre.accepted _ c.if-right-eq0.false pre.right_in _ (process_pairs_right_is m c),
    )

-- What they come to, as the arms of the match have it.
process_pairs_split : (m : ℕ) (c : process_pairs-After-pair_of m) (pair : Pair) → c.pair_of.result ≡ pair
    → Split c.args.tables.now c.args.left c.args.right c.row_at-a.result c.row_at-b.result pair
process_pairs_split m c pair is =
    let pre = c.requires in
    split _ pre.accepted _ c.if-left-eq0.false pre.left_in _ c.if-right-eq0.false pre.right_in _ _ (c.row_at-a.ensures ∙ row-fields _ _) (c.row_at-b.ensures ∙ row-fields _ _) _
    (sym is ∙ c.pair_of.ensures)

pub process_pairs-assign_pair-s-requires : goal.process_pairs-assign_pair-s-requires
process_pairs-assign_pair-s-requires m c =
    let pre = c.requires in
    let parts = process_pairs_split m (goal.at.process_pairs-assign_pair-s-requires m c).After-pair_of _ c.in-Sides.is in (
      omega (arith, c.decreases),
      record {
        accepted = pre.accepted;
        inner_room = pre.inner_room;
        firsts_room = pre.firsts_room;
        left_in = parts.entered.left-low;
        right_in = parts.entered.right_low;
        asks = asks_sides _ _ _ _ c.args.check _ _ _ _ pre.asks _ _ _ _ parts;
      },
    )

pub process_pairs-process_pairs-s-requires : goal.process_pairs-process_pairs-s-requires
process_pairs-process_pairs-s-requires m c =
    let pre = c.requires in
    let parts = process_pairs_split m (goal.at.process_pairs-process_pairs-s-requires m c).After-pair_of _ c.in-Chains.is in (
      omega (arith, c.decreases, parts.entered.1.0),
      record {
        accepted = pre.accepted;
        inner_room = pre.inner_room;
        firsts_room = pre.firsts_room;
        left_in = parts.entered.0.left-low;
        right_in = parts.entered.0.right_low;
        asks = asks_chains _ _ _ _ c.args.check _ _ _ _ pre.asks _ _ _ _ parts;
      },
    )

-- What the match did.
process_pairs_matched : (m : ℕ) (c : process_pairs-Joined-pair_of m)
    →
    let a = c.args in
    let now = c.match-pair_of in
    KeepsLengths (DoesPairs a.tables.now a.inner.now (pairings_of a.tables.now c.row_at-b.result c.pair_of.result) a.check a.context)
    a.p a.firsts.now a.work.now now.s now.firsts now.work
process_pairs_matched m c =
    let a = c.args in
    elim c.match-pair_of.branch [
      | process_pairs-in-Sides w ↦ rw (w.s-is, w.firsts-is, w.work-is, w.in-Sides.is) (w.assign_pair-s.ensures, w.assign_pair-s.auto.firsts, w.assign_pair-s.auto.work)
      | process_pairs-in-Chains w ↦ rw (w.s-is, w.firsts-is, w.work-is, w.in-Chains.is) (w.process_pairs-s.ensures, w.process_pairs-s.auto.firsts, w.process_pairs-s.auto.work)
      | process_pairs-in-Differ w ↦
          rw (w.s-is, w.firsts-is, w.work-is, w.in-Differ.is) (differs a.tables.now a.inner.now a.check a.context c.row_at-b.result a.p a.firsts.now a.work.now _ w.differ-s.ensures, refl, refl)
    ]

process_pairs_parts : (m : ℕ) (c : process_pairs-Joined-pair_of m)
    → Split c.args.tables.now c.args.left c.args.right c.row_at-a.result c.row_at-b.result c.pair_of.result
process_pairs_parts m c =
    let pre = c.requires in
    split _ pre.accepted _ c.if-left-eq0.false pre.left_in _ c.if-right-eq0.false pre.right_in _ _ (c.row_at-a.ensures ∙ row-fields _ _) (c.row_at-b.ensures ∙ row-fields _ _) _
    c.pair_of.ensures

-- The whole, with the rest of both chains.
process_pairs_done : (m : ℕ) (c : process_pairs-Joined-pair_of m) (s : Progress) (fs w : List ℕ)
    →
    let a = c.args in
    let now = c.match-pair_of in
    DoesPairs a.tables.now a.inner.now (pairs_at a.tables.now c.row_at-a.result.next c.row_at-b.result.next) a.check a.context
    now.s now.firsts now.work s fs w
    → DoesPairs a.tables.now a.inner.now (pairs_at a.tables.now a.left a.right) a.check a.context a.p a.firsts.now a.work.now s fs w
process_pairs_done m c s fs w behind =
    let pre = c.requires in
    pairs_does _ _ _ _ c.args.check _ _ _ _ pre.asks _ _ _ (process_pairs_parts m c) _ _ _ (process_pairs_matched m c).0 _ _ _ behind

pub process_pairs-shape_of-firsts-then-a-eq0 : goal.process_pairs-shape_of-firsts-then-a-eq0
process_pairs-shape_of-firsts-then-a-eq0 m c = (process_pairs_matched m (goal.at.process_pairs-shape_of-firsts-then-a-eq0 m c).Joined-pair_of).1

pub process_pairs-shape_of-work-then-a-eq0 : goal.process_pairs-shape_of-work-then-a-eq0
process_pairs-shape_of-work-then-a-eq0 m c = (process_pairs_matched m (goal.at.process_pairs-shape_of-work-then-a-eq0 m c).Joined-pair_of).2

pub process_pairs-returns-then-a-eq0 : goal.process_pairs-returns-then-a-eq0
process_pairs-returns-then-a-eq0 m c =
    let a = c.args in
    process_pairs_done m (goal.at.process_pairs-returns-then-a-eq0 m c).Joined-pair_of _ _ _ (no_pairs _ _ a.check a.context _ _ _ _ (pairings-left _ c.requires.accepted _ _ c.if-a-eq0.true))

pub process_pairs-process_pairs-requires : goal.process_pairs-process_pairs-requires
process_pairs-process_pairs-requires m c =
    let pre = c.requires in
    let joined = (goal.at.process_pairs-process_pairs-requires m c).Joined-pair_of in
    let parts = process_pairs_parts m joined in
    let done = process_pairs_matched m joined in (
      omega (arith, c.decreases, parts.next_falls.0),
      record {
        accepted = pre.accepted;
        inner_room = pre.inner_room;
        firsts_room = omega (arith, pre.firsts_room, done.1);
        left_in = parts.next_falls.1;
        right_in = parts.next_low;
        asks = pair_rows_asks_rest _ _ _ _ c.args.check _ _ _ _ pre.asks _ _ _ parts _ _ _ done.0;
      },
    )

pub process_pairs-shape_of-firsts : goal.process_pairs-shape_of-firsts
process_pairs-shape_of-firsts m c =
    c.process_pairs.auto.firsts ∙ (process_pairs_matched m (goal.at.process_pairs-shape_of-firsts m c).Joined-pair_of).1

pub process_pairs-shape_of-work : goal.process_pairs-shape_of-work
process_pairs-shape_of-work m c =
    c.process_pairs.auto.work ∙ (process_pairs_matched m (goal.at.process_pairs-shape_of-work m c).Joined-pair_of).2

pub process_pairs-returns : goal.process_pairs-returns
process_pairs-returns m c =
    process_pairs_done m (goal.at.process_pairs-returns m c).Joined-pair_of _ _ _ c.process_pairs.ensures

-- ---- `process_some_in`.

pub process_some_in-enclose-requires : goal.process_some_in-enclose-requires
process_some_in-enclose-requires m c =
    let pre = c.requires in
    (pre.0.outer-room, pre.0.spans-room, omega arith)

-- The scopes process_some_in_around nested queries.
process_some_in_around : (m : ℕ) (c : process_some_in-After-enclose m)
    → let a = c.args in
    Enclosing a.tables.now a.outer.now a.spans.now a.p c.enclose.new.inner
process_some_in_around m c =
    let a = c.args in
    scopes_enclosed a.outer.now a.p.scope a.spans.now c.enclose.new.inner c.enclose.ensures

-- The process_some_in_rows that the statement names.
process_some_in_rows : (m : ℕ) (c : process_some_in-After-enclose m)
    → let a = c.args in
    NamedParts a.tables.now a.st
process_some_in_rows m inside =
    let a = inside.args in
    let pre = inside.requires in
    parts_low a.tables.now pre.0.accepted a.outer.now a.spans.now inside.enclose.new.inner a.st a.context a.p a.firsts.now a.work.now pre.1 (process_some_in_around m inside) pre.0.asks

pub process_some_in-some_vars-vars-requires : goal.process_some_in-some_vars-vars-requires
process_some_in-some_vars-vars-requires m c =
    (c.requires.0.accepted, (process_some_in_rows m (goal.at.process_some_in-some_vars-vars-requires m c).After-enclose).first)

pub process_some_in-some_vars-vars-requires-2 : goal.process_some_in-some_vars-vars-requires-2
process_some_in-some_vars-vars-requires-2 m c =
    (c.requires.0.accepted, (process_some_in_rows m (goal.at.process_some_in-some_vars-vars-requires-2 m c).After-enclose).second)

pub process_some_in-slice_bounds-use_expr-end : goal.process_some_in-slice_bounds-use_expr-end
process_some_in-slice_bounds-use_expr-end m c = sym c.enclose.auto.inner

pub process_some_in-use_expr-u-requires : goal.process_some_in-use_expr-u-requires
process_some_in-use_expr-u-requires m c =
    let a = c.args in
    let pre = c.requires in (
      omega (arith, c.decreases),
      (
        record {
          accepted = pre.0.accepted;
          inner_room = omega (arith, c.enclose.auto.inner);
          firsts_room = pre.0.firsts_room;
          row_in = (process_some_in_rows m (goal.at.process_some_in-use_expr-u-requires m c).After-enclose).third;
          asks = asks-collection a.tables.now pre.0.accepted a.outer.now a.spans.now c.enclose.new.inner
              a.st a.context a.p a.firsts.now a.work.now pre.1 (process_some_in_around m (goal.at.process_some_in-use_expr-u-requires m c).After-enclose) pre.0.asks;
        },
        listed-none _ c.empty-none.ensures,
      ),
    )

pub process_some_in-record_some-s-requires : goal.process_some_in-record_some-s-requires
process_some_in-record_some-s-requires m c =
    let a = c.args in
    let pre = c.requires in
    asks_record a.tables.now pre.0.accepted a.outer.now a.spans.now c.enclose.new.inner
    a.st a.context a.p a.firsts.now a.work.now pre.1 (process_some_in_around m (goal.at.process_some_in-record_some-s-requires m c).After-enclose) pre.0.asks
    _ _ _ c.empty-none.ensures c.some_vars-vars.ensures c.some_vars-vars-2.ensures _ _ _ c.use_expr-u.ensures

pub process_some_in-first_some-requires : goal.process_some_in-first_some-requires
process_some_in-first_some-requires m c =
    let a = c.args in
    let pre = c.requires in
    (pre.0.accepted, (process_some_in_rows m (goal.at.process_some_in-first_some-requires m c).After-enclose).first, omega (arith, pre.0.firsts_room, c.use_expr-u.auto.firsts))

pub process_some_in-first_some-requires-2 : goal.process_some_in-first_some-requires-2
process_some_in-first_some-requires-2 m c =
    let a = c.args in
    let pre = c.requires in
    (pre.0.accepted, (process_some_in_rows m (goal.at.process_some_in-first_some-requires-2 m c).After-enclose).second, omega (arith, pre.0.firsts_room, c.use_expr-u.auto.firsts, c.first_some.auto.firsts))

pub process_some_in-slice_bounds-process_non_vars-end : goal.process_some_in-slice_bounds-process_non_vars-end
process_some_in-slice_bounds-process_non_vars-end m c = sym c.enclose.auto.inner

pub process_some_in-process_non_vars-s-requires : goal.process_some_in-process_non_vars-s-requires
process_some_in-process_non_vars-s-requires m c =
    let a = c.args in
    let pre = c.requires in (
      omega (arith, c.decreases, few_remain a.tables.now pre.0.accepted a.st.first),
      record {
        accepted = pre.0.accepted;
        inner_room = omega (arith, c.enclose.auto.inner);
        firsts_room = omega (arith, pre.0.firsts_room, c.use_expr-u.auto.firsts, c.first_some.auto.firsts, c.first_some-2.auto.firsts);
        row_in = (process_some_in_rows m (goal.at.process_some_in-process_non_vars-s-requires m c).After-enclose).first;
        asks = asks-key a.tables.now pre.0.accepted a.outer.now a.spans.now c.enclose.new.inner
            a.st a.context a.p a.firsts.now a.work.now pre.1 (process_some_in_around m (goal.at.process_some_in-process_non_vars-s-requires m c).After-enclose) pre.0.asks
            _ _ _ c.empty-none.ensures c.some_vars-vars.ensures c.some_vars-vars-2.ensures _ _ _ c.use_expr-u.ensures
            _ _ c.record_some-s.ensures _ _ c.first_some.ensures c.first_some-2.ensures;
      },
    )

pub process_some_in-slice_bounds-process_non_vars-end-2 : goal.process_some_in-slice_bounds-process_non_vars-end-2
process_some_in-slice_bounds-process_non_vars-end-2 m c = sym c.enclose.auto.inner

pub process_some_in-process_non_vars-s-requires-2 : goal.process_some_in-process_non_vars-s-requires-2
process_some_in-process_non_vars-s-requires-2 m c =
    let a = c.args in
    let pre = c.requires in (
      omega (arith, c.decreases, few_remain a.tables.now pre.0.accepted a.st.second),
      record {
        accepted = pre.0.accepted;
        inner_room = omega (arith, c.enclose.auto.inner);
        firsts_room = omega (arith, pre.0.firsts_room, c.use_expr-u.auto.firsts, c.first_some.auto.firsts, c.first_some-2.auto.firsts, c.process_non_vars-s.auto.firsts);
        row_in = (process_some_in_rows m (goal.at.process_some_in-process_non_vars-s-requires-2 m c).After-enclose).second;
        asks = asks-value a.tables.now pre.0.accepted a.outer.now a.spans.now c.enclose.new.inner
            a.st a.context a.p a.firsts.now a.work.now pre.1 (process_some_in_around m (goal.at.process_some_in-process_non_vars-s-requires-2 m c).After-enclose) pre.0.asks
            _ _ _ c.empty-none.ensures c.some_vars-vars.ensures c.some_vars-vars-2.ensures _ _ _ c.use_expr-u.ensures
            _ _ c.record_some-s.ensures _ _ c.first_some.ensures c.first_some-2.ensures
            _ _ _ c.process_non_vars-s.ensures;
      },
    )

pub process_some_in-others_used-used-requires : goal.process_some_in-others_used-used-requires
process_some_in-others_used-used-requires m c =
    let a = c.args in
    let pre = c.requires in
    let room = asks-last a.tables.now pre.0.accepted a.outer.now a.spans.now c.enclose.new.inner
    a.st a.context a.p a.firsts.now a.work.now pre.1 (process_some_in_around m (goal.at.process_some_in-others_used-used-requires m c).After-enclose) pre.0.asks
    _ _ _ c.empty-none.ensures c.some_vars-vars.ensures c.some_vars-vars-2.ensures _ _ _ c.use_expr-u.ensures
    _ _ c.record_some-s.ensures _ _ c.first_some.ensures c.first_some-2.ensures
    _ _ _ c.process_non_vars-s.ensures _ _ _ c.process_non_vars-s-2.ensures in
    (record { accepted = pre.0.accepted; row_in = (process_some_in_rows m (goal.at.process_some_in-others_used-used-requires m c).After-enclose).first; mods_in = pre.0.asks.mods-low; answers-room = omega (arith, room) }, (process_some_in_rows m (goal.at.process_some_in-others_used-used-requires m c).After-enclose).second)

pub process_some_in-record_one-requires : goal.process_some_in-record_one-requires
process_some_in-record_one-requires m c =
    let a = c.args in
    let pre = c.requires in
    asks-last a.tables.now pre.0.accepted a.outer.now a.spans.now c.enclose.new.inner
    a.st a.context a.p a.firsts.now a.work.now pre.1 (process_some_in_around m (goal.at.process_some_in-record_one-requires m c).After-enclose) pre.0.asks
    _ _ _ c.empty-none.ensures c.some_vars-vars.ensures c.some_vars-vars-2.ensures _ _ _ c.use_expr-u.ensures
    _ _ c.record_some-s.ensures _ _ c.first_some.ensures c.first_some-2.ensures
    _ _ _ c.process_non_vars-s.ensures _ _ _ c.process_non_vars-s-2.ensures

pub process_some_in-shape_of-firsts : goal.process_some_in-shape_of-firsts
process_some_in-shape_of-firsts m c =
    c.process_non_vars-s-2.auto.firsts ∙ c.process_non_vars-s.auto.firsts ∙ c.first_some-2.auto.firsts ∙ c.first_some.auto.firsts ∙ c.use_expr-u.auto.firsts

pub process_some_in-shape_of-work : goal.process_some_in-shape_of-work
process_some_in-shape_of-work m c =
    c.record_one.auto.work ∙ c.process_non_vars-s-2.auto.work ∙ c.process_non_vars-s.auto.work ∙ c.record_some-s.auto.work ∙ c.use_expr-u.auto.work

pub process_some_in-returns : goal.process_some_in-returns
process_some_in-returns m c =
    let a = c.args in
    let pre = c.requires in
    some_in_does a.tables.now pre.0.accepted a.outer.now a.spans.now c.enclose.new.inner
    a.st a.context a.p a.firsts.now a.work.now pre.1 (process_some_in_around m (goal.at.process_some_in-returns m c).After-enclose) pre.0.asks
    _ _ _ c.empty-none.ensures c.some_vars-vars.ensures c.some_vars-vars-2.ensures _ _ _ c.use_expr-u.ensures
    _ _ c.record_some-s.ensures _ _ c.first_some.ensures c.first_some-2.ensures
    _ _ _ c.process_non_vars-s.ensures _ _ _ c.process_non_vars-s-2.ensures
    _ c.others_used-used.ensures _ _
    c.record_one.ensures

-- ---- `process_stmts`: a statement's own turn, then those after it (StmtSteps.antt).

pub process_stmts-returns-then-row-eq0 : goal.process_stmts-returns-then-row-eq0
process_stmts-returns-then-row-eq0 m c =
    let a = c.args in
    stmts_end a.tables.now c.requires.0.accepted a.outer.now a.spans.now a.row a.statement a.levels c.if-row-eq0.true a.p a.firsts.now a.work.now

pub process_stmts-statement_at-st-requires : goal.process_stmts-statement_at-st-requires
process_stmts-statement_at-st-requires m c =
    let pre = c.requires in
    (pre.0.accepted.room, omega (arith, pre.1, pre.0.accepted.within.few-statements))

pub process_stmts-use_mods-u-requires : goal.process_stmts-use_mods-u-requires
process_stmts-use_mods-u-requires m c =
    let a = c.args in
    let pre = c.requires in record {
      accepted = pre.0.accepted;
      row_in = with-low a.tables.now pre.0.accepted a.outer.now a.spans.now a.row a.statement a.levels c.if-row-eq0.false pre.1 _ c.statement_at-st.ensures a.p a.firsts.now a.work.now pre.0.asks;
      firsts_room = pre.0.firsts_room;
      ready = mods-ready a.tables.now pre.0.accepted a.outer.now a.spans.now a.row a.statement a.levels c.if-row-eq0.false pre.1 _ c.statement_at-st.ensures a.p a.firsts.now a.work.now pre.0.asks;
    }

pub process_stmts-process_literal-s-requires : goal.process_stmts-process_literal-s-requires
process_stmts-process_literal-s-requires m c =
    let a = c.args in
    let pre = c.requires in (
      omega (arith, c.decreases),
      record {
        accepted = pre.0.accepted;
        outer-room = pre.0.outer-room;
        spans-room = pre.0.spans-room;
        firsts_room = omega (arith, pre.0.firsts_room, c.use_mods-u.auto.firsts);
        asks = asks-literal a.tables.now pre.0.accepted a.outer.now a.spans.now a.row a.statement a.levels c.if-row-eq0.false pre.1 _ c.statement_at-st.ensures a.p a.firsts.now a.work.now pre.0.asks _ c.empty-none.ensures _ _ _ c.use_mods-u.ensures;
      },
    )

pub process_stmts-at_least_one-s-requires : goal.process_stmts-at_least_one-s-requires
process_stmts-at_least_one-s-requires m c =
    let a = c.args in
    let pre = c.requires in
    least_fits a.tables.now pre.0.accepted a.outer.now a.spans.now a.row a.statement a.levels c.if-row-eq0.false pre.1 _ c.statement_at-st.ensures a.p a.firsts.now a.work.now pre.0.asks _ c.empty-none.ensures _ _ _ c.use_mods-u.ensures _ _ _ c.process_literal-s.ensures

pub process_stmts-overflow_add-statement : goal.process_stmts-overflow_add-statement
process_stmts-overflow_add-statement m c = omega (arith, c.requires.0.asks.few)

pub process_stmts-process_stmts-requires : goal.process_stmts-process_stmts-requires
process_stmts-process_stmts-requires m c =
    let a = c.args in
    let pre = c.requires in
    let next = next_stmt _ pre.0.accepted a.row _ c.if-row-eq0.false pre.1 refl _ c.statement_at-st.ensures in (
      omega (arith, c.decreases, next.0),
      (
        record {
          accepted = pre.0.accepted;
          outer-room = pre.0.outer-room;
          spans-room = pre.0.spans-room;
          firsts_room = omega (arith, pre.0.firsts_room, c.use_mods-u.auto.firsts, c.process_literal-s.auto.firsts);
          asks = asks-next a.tables.now pre.0.accepted a.outer.now a.spans.now a.row a.statement a.levels c.if-row-eq0.false pre.1 _ c.statement_at-st.ensures a.p a.firsts.now a.work.now pre.0.asks _ c.empty-none.ensures _ _ _ c.use_mods-u.ensures _ _ _ c.process_literal-s.ensures _ _ c.at_least_one-s.ensures;
        },
        next.1,
      ),
    )

pub process_stmts-shape_of-firsts : goal.process_stmts-shape_of-firsts
process_stmts-shape_of-firsts m c =
    omega (
      arith,
      c.use_mods-u.auto.firsts,
      c.process_literal-s.auto.firsts,
      c.process_stmts.auto.firsts,
    )

pub process_stmts-shape_of-work : goal.process_stmts-shape_of-work
process_stmts-shape_of-work m c =
    omega (
      arith,
      c.use_mods-u.auto.work,
      c.process_literal-s.auto.work,
      c.at_least_one-s.auto.work,
      c.process_stmts.auto.work,
    )

pub process_stmts-returns : goal.process_stmts-returns
process_stmts-returns m c =
    let a = c.args in
    let pre = c.requires in
    stmts_turn a.tables.now pre.0.accepted a.outer.now a.spans.now a.row a.statement a.levels c.if-row-eq0.false pre.1 _ c.statement_at-st.ensures a.p a.firsts.now a.work.now pre.0.asks _ c.empty-none.ensures _ _ _ c.use_mods-u.ensures _ _ _ c.process_literal-s.ensures _ _ c.at_least_one-s.ensures _ _ _ c.process_stmts.ensures

-- ---- `use_expr`: the uses, then the comprehensions of the expression and of the modifiers, which are one list.

pub use_expr-use_vars-u-requires : goal.use_expr-use_vars-u-requires
use_expr-use_vars-u-requires m c =
    let pre = c.requires in (
      record {
        accepted = pre.0.accepted;
        row_in = pre.0.row_in;
        firsts_room = pre.0.firsts_room;
        ready = use_ready _ _ _ _ c.args.rest _ _ _ _ pre.0.asks pre.1;
      },
      pre.1,
    )

pub use_expr-shape_of-firsts-then-none_left : goal.use_expr-shape_of-firsts-then-none_left
use_expr-shape_of-firsts-then-none_left m c = c.use_vars-u.auto.firsts

pub use_expr-shape_of-work-then-none_left : goal.use_expr-shape_of-work-then-none_left
use_expr-shape_of-work-then-none_left m c = c.use_vars-u.auto.work

pub use_expr-returns-then-none_left : goal.use_expr-returns-then-none_left
use_expr-returns-then-none_left m c =
    let cs = c.use_vars-u.result.comprs in
    let ms = c.args.context.mods in
    let none = sym c.none_left.ensures ∙ c.if-none_left.true in
    does_without _ _ _ _ c.args.rest _ _ _ _ c.requires.0.accepted _ _ _ c.use_vars-u.ensures
    (eqb-true cs 0 (and_left (eqb cs 0) (eqb ms 0) none)) (eqb-true ms 0 (and_right (eqb cs 0) (eqb ms 0) none)) _ c.without_comprs.ensures

pub use_expr-list_both-end-requires : goal.use_expr-list_both-end-requires
use_expr-list_both-end-requires m c =
    let pre = c.requires.0 in
    record {
      accepted = pre.accepted;
      one_in = at_low _ c.args.rest _ _ c.use_vars-u.ensures.comprs pre.row_in;
      two_in = pre.asks.mods-low;
      room = search rules;
    }

pub use_expr-process_comprs-progress-requires : goal.use_expr-process_comprs-progress-requires
use_expr-process_comprs-progress-requires m c =
    let both = c.list_both-end in
    let pre = c.requires in (
      omega (arith, c.decreases, both.ensures.fits),
      comprs-asks _ _ _ _ c.args.rest _ _ _ _ pre.0.asks pre.1 _ _ _ c.use_vars-u.ensures pre.0.accepted pre.0.inner_room
          (omega (arith, pre.0.firsts_room, c.use_vars-u.auto.firsts)) _ _ both.ensures (omega (arith, both.auto.rows)),
    )

pub use_expr-all_used-names-requires : goal.use_expr-all_used-names-requires
use_expr-all_used-names-requires m c =
    let both = c.list_both-end in
    let pre = c.requires in
    both_used _ c.args.rest _ _ _ _ both.ensures (omega (arith, both.auto.rows)) _ pre.0.accepted _
    (use_room _ _ _ _ c.args.rest _ _ _ _ pre.0.asks pre.1 _ _ _ c.use_vars-u.ensures
    (listed_at c.args.tables.now both.new.rows 0 (both.result - 0)) _ _ _ c.process_comprs-progress.ensures)

pub use_expr-shape_of-firsts : goal.use_expr-shape_of-firsts
use_expr-shape_of-firsts m c = c.process_comprs-progress.auto.firsts ∙ c.use_vars-u.auto.firsts

pub use_expr-shape_of-work : goal.use_expr-shape_of-work
use_expr-shape_of-work m c = c.process_comprs-progress.auto.work ∙ c.use_vars-u.auto.work

pub use_expr-returns : goal.use_expr-returns
use_expr-returns m c =
    does_listed _ _ _ _ c.args.rest _ _ _ _ _ _ _ c.use_vars-u.ensures _ _ c.list_both-end.ensures (omega (arith, c.list_both-end.ensures.fits, c.list_both-end.auto.rows)) _ _ _ c.process_comprs-progress.ensures _ c.all_used-names.ensures

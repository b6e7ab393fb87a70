-- Laws of `Counts`.
use mathlib.Core.Path.{◌≡◌, ap}
use mathlib.Core.List.{List, []}
use Prim.Native.Nat.{ℕ, zero, suc, ◌+◌, ◌≤◌, ◌<◌}
use native.Mathlib.Omega.{arith}
use lib.ListN.{length, get_or, get_or-eq_default}
use Rattle.base.specs.Limits as limits
use Rattle.sheet.specs.declared.Statement.{Statement}
use Rattle.sheet.specs.Inner.Records.{statement_row_at, first_at}
use Rattle.sheet.specs.Inner.Sheet.{sheet_of}
use Rattle.scope.specs.Statements.{stmts_of}
use Rattle.scope_walk.proofs.Laws.RowTrees.{rows-length, statements-length}
use Rattle.scope_walk.specs.Inner.Sheets.{counts_at, special_at, sheet_at, Accepted, query_count, statement_count}
use Rattle.scope_gather.proofs.Laws.Queries.{stmts_at-none, stmts_at-row, first_statement_is}
use Rattle.definition_room.proofs.Laws.Counted.{query_statements_few}
use Rattle.definition_state.specs.Inner.Table.{count_at}
use Rattle.answer_schedule.specs.Inner.Counts.{count_from}

module _ (t : List ℕ) where
  -- As many as the sheet has, at most.
  pub count_low : (q : ℕ) → count_at t q ≤ statement_count t
  unfolding sheet_at
  count_low q = omega (arith, query_statements_few (sheet_at t) q, statements-length (counts_at t) (special_at t) t)

  none_first : (q : ℕ) → query_count t ≤ q → get_or (sheet_at t).queries q 0 ≡ 0
  unfolding sheet_at sheet_of
  none_first q past = get_or-eq_default (sheet_at t).queries 0 (omega (arith, rows-length (first_at t) (query_count t)))

  module _ (ok : Accepted t) where
    pub count-few : (q : ℕ) → count_at t q ≤ limits.most_statements
    count-few q = omega (arith, count_low q, ok.within.few-statements)

    pub count_none : (row seen : ℕ) → row ≡ 0 → seen ≡ seen + (count_from t) row
    count_none row seen z = omega (arith, ap (count_from t) z, ap length (stmts_at-none t ok))

    -- A row, and those behind it.
    pub count-row : (row : ℕ) → (row ≡ 0 → ⊥) → row ≤ statement_count t → (st : Statement) → st ≡ statement_row_at t row
        → count_from t row ≡ 1 + (count_from t) st.next
    count-row row there high st is =
        let e : count_from t row ≡ 1 + (count_from t) (statement_row_at t row).next = omega (arith, ap length (stmts_at-row t ok row there high)) in
        rw is e

    -- Past the last query there are none.
    pub count_past : (q : ℕ) → query_count t < q → count_at t q ≡ 0
    unfolding stmts_of
    count_past zero past = absurd (omega arith)
    count_past (suc q) past = rw (none_first q (omega arith)) (ap length (stmts_at-none t ok))

    -- A query's statements are those from its first.
    pub count_of_lem : (q : ℕ) → 1 ≤ q → q ≤ query_count t → (row : ℕ) → row ≡ first_at t q → count_at t q ≡ count_from t row
    unfolding stmts_of
    count_of_lem q low high row is = rw (first_statement_is t [] q low high, is)

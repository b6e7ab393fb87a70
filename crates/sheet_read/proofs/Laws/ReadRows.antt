-- What stands in the tables when a sheet has been read are the rows of the sheet.
use mathlib.Core.Path.{◌≡◌, refl, sym, ap, ap₂, ◌∙◌}
use mathlib.Core.List.{List, [], ◌∷◌, map}
use mathlib.Core.Logic.{inr}
use Prim.Native.Nat.{ℕ, zero, suc, ◌+◌, ◌-◌, ◌*◌, ◌≤◌, ◌<◌}
use native.Mathlib.Omega.{arith}
use lib.ListN.{length, get_or, length-map, length-replicate, get_or-map}
use Rattle.base.specs.Limits as limits
use Rattle.base.specs.Lists.{counted, range}
use Rattle.sheet.specs.Text.{words, value, values}
use Rattle.sheet.specs.Questions.{form_fault, section_rows, row_counts}
use Rattle.sheet.specs.Tables.{tables}
use Rattle.sheet.proofs.Laws.RowLaws.{sets-other}
use Rattle.sheet.proofs.Laws.TableLaws.{field_of, built_in-at, expression-at, statement-at, query-at}
use Rattle.sheet.specs.declared.Counts.{Counts}
use Rattle.sheet.specs.Inner.Layout.{builtin_start, expr_start, statement_start, query_start}
use Rattle.sheet.specs.Inner.Records.{Within}
use Rattle.sheet.specs.Inner.Rows.{in_tables}
use Rattle.sheet.specs.Faults.{first_line}
use Rattle.sheet.specs.Inner.SameRows.{SameRows}
use Rattle.sheet.proofs.Laws.SameRows.{first_line-same}
use Rattle.sheet.specs.Sheet.{sheet_in, builtin_of, expr_of, statement_of, query_of, no_builtin, no_row, no_statement, row, counts_of, rows_of}
use Rattle.sheet.specs.Inner.Sheet.{row_at, rows_to, sheet_of}
use Rattle.sheet.specs.Verdict.{empty_tables, head_of, read_counts, read_special, read_tables, fields_fault}

-- A list is its rows.
pub list-rows : {A : Type 0} (d : A) (at : ℕ → A) (l : List A) (k : ℕ) → ((n : ℕ) → n < length l → at (k + n) ≡ get_or l n d) → map at (counted k (length l)) ≡ l
list-rows d at [] k h = refl
list-rows d at (x ∷ l) k h =
    ap₂ ◌∷◌ (ap at (omega arith) ∙ h 0 (omega arith)) (list-rows d at l (suc k) (λ n b. ap at (omega arith) ∙ h (suc n) (omega arith)))

rows-list : {A : Type 0} (d : A) (at : ℕ → A) (l : List A) (n : ℕ) → n ≡ length l → ((r : ℕ) → 1 ≤ r → r ≤ n → at r ≡ row d l r) → rows_to at n ≡ l
unfolding rows_to range
rows-list d at l n e h =
    let z : n + 1 - 1 ≡ length l = omega arith in
    ap (λ (k : ℕ). map at (counted 1 k)) z ∙ list-rows d at l 1 (λ k b. ap at (omega arith) ∙ h (suc k) (omega arith) (omega arith))

module _ (s : List ℕ) where
  -- ---- the counts

  count : {A : Type 0} (f : List ℕ → A) (k : ℕ) → get_or (row_counts s) k 0 ≡ length (map f (get_or (section_rows s) k []))
  count f k = get_or-map length (section_rows s) k [] ∙ sym (length-map (get_or (section_rows s) k []) f)

  pub counts_same : read_counts s ≡ counts_of (sheet_in s)
  unfolding sheet_in
  counts_same =
      rw (count builtin_of 1, count expr_of 2, count statement_of 3, count query_of 4, get_or-map length (section_rows s) 0 [])

  module _ (formed : form_fault s ≡ 0) (few : Within (read_counts s)) where
    -- ---- an entry behind the head

    fits : limits.table_entries ≤ length empty_tables
    unfolding empty_tables
    fits = let n = length-replicate {A = ℕ} limits.table_entries 0 in omega arith

    behind : (i : ℕ) → 8 ≤ i → get_or (read_tables s) i 0 ≡ get_or (tables s empty_tables) i 0
    unfolding read_tables
    behind i h = sets-other (head_of (read_counts s) (read_special s)) (tables s empty_tables) 0 i (inr h)

    long : (k : ℕ) → get_or (row_counts s) k 0 ≡ length (get_or (section_rows s) k [])
    long k = get_or-map length (section_rows s) k []

    line_at : {A : Type 0} (f : List ℕ → A) (k r : ℕ) (d : A) → f [] ≡ d → 1 ≤ r
        → row d (map f (get_or (section_rows s) k [])) r ≡ f (get_or (get_or (section_rows s) k []) (r - 1) [])
    line_at f k zero d e h = absurd (omega arith)
    line_at f k (suc r) d e h =
        let z : suc r - 1 ≡ r = omega arith in
        rw (z, ← e) (get_or-map f (get_or (section_rows s) k []) r [])

    module _ (r : ℕ) (low : 1 ≤ r) where
      builtin-at : r ≤ (read_counts s).builtins → (f : ℕ) → f < 4 → get_or (read_tables s) (builtin_start + 4 * r + f) 0 ≡ field_of s 1 r f
      builtin-at h f g =
          behind (builtin_start + 4 * r + f) (omega arith) ∙ built_in-at s empty_tables formed fits r low f (omega (arith, long 1)) (omega (arith, few.few-builtins)) g

      expr-at : r ≤ (read_counts s).exprs → (f : ℕ) → f < 8 → get_or (read_tables s) (expr_start + 8 * r + f) 0 ≡ field_of s 2 r f
      expr-at h f g =
          behind (expr_start + 8 * r + f) (omega arith) ∙ expression-at s empty_tables formed fits r low f (omega (arith, long 2)) (omega (arith, few.few-exprs)) g

      stmt_at_lem : r ≤ (read_counts s).statements → (f : ℕ) → f < 7 → get_or (read_tables s) (statement_start + 7 * r + f) 0 ≡ field_of s 3 r f
      stmt_at_lem h f g =
          behind (statement_start + 7 * r + f) (omega arith) ∙ statement-at s empty_tables formed fits r low f (omega (arith, long 3)) (omega (arith, few.few-statements)) g

      builtin-same : r ≤ (read_counts s).builtins → (in_tables (read_tables s)).builtin r ≡ (rows_of (sheet_in s)).builtin r
      unfolding sheet_in values words value
      builtin-same h =
          let z : builtin_start + 4 * r ≡ builtin_start + 4 * r + 0 = omega arith in
          let e0 = ap (λ (i : ℕ). get_or (read_tables s) i 0) z ∙ builtin-at h 0 (omega arith) in
          rw (e0, builtin-at h 1 (omega arith), builtin-at h 2 (omega arith), builtin-at h 3 (omega arith))
          (sym (line_at builtin_of 1 r no_builtin refl low))

      expr-same : r ≤ (read_counts s).exprs → (in_tables (read_tables s)).expr r ≡ (rows_of (sheet_in s)).expr r
      unfolding sheet_in values words value
      expr-same h =
          let z : expr_start + 8 * r ≡ expr_start + 8 * r + 0 = omega arith in
          let e0 = ap (λ (i : ℕ). get_or (read_tables s) i 0) z ∙ expr-at h 0 (omega arith) in
          rw (
            e0,
            expr-at h 1 (omega arith),
            expr-at h 2 (omega arith),
            expr-at h 3 (omega arith),
            expr-at h 4 (omega arith),
            expr-at h 5 (omega arith),
            expr-at h 6 (omega arith),
            expr-at h 7 (omega arith),
          ) (sym (line_at expr_of 2 r no_row refl low))

      statement-same : r ≤ (read_counts s).statements → (in_tables (read_tables s)).statement r ≡ (rows_of (sheet_in s)).statement r
      unfolding sheet_in values words value
      statement-same h =
          let z : statement_start + 7 * r ≡ statement_start + 7 * r + 0 = omega arith in
          let e0 = ap (λ (i : ℕ). get_or (read_tables s) i 0) z ∙ stmt_at_lem h 0 (omega arith) in
          rw (
            e0,
            stmt_at_lem h 1 (omega arith),
            stmt_at_lem h 2 (omega arith),
            stmt_at_lem h 3 (omega arith),
            stmt_at_lem h 4 (omega arith),
            stmt_at_lem h 5 (omega arith),
            stmt_at_lem h 6 (omega arith),
          ) (sym (line_at statement_of 3 r no_statement refl low))

      query-same : r ≤ (read_counts s).queries → (in_tables (read_tables s)).query r ≡ (rows_of (sheet_in s)).query r
      unfolding sheet_in values words value
      query-same h =
          behind (query_start + r) (omega arith)
          ∙ query-at s empty_tables formed fits r low (omega (arith, long 4)) (omega (arith, few.few-queries))
          ∙ sym (line_at query_of 4 r 0 refl low)

    pub same_rows : SameRows (read_counts s) (in_tables (read_tables s)) (rows_of (sheet_in s))
    same_rows = record { builtins = builtin-same; exprs = expr-same; statements = statement-same; queries = query-same }

    -- Question 6, put to the tables.
    pub fields-in_tables : first_line (read_counts s) (in_tables (read_tables s)) ≡ fields_fault s
    unfolding fields_fault
    fields-in_tables =
        first_line-same (read_counts s) _ _ same_rows ∙ ap (λ (c : Counts). first_line c (rows_of (sheet_in s))) counts_same

    -- The sheet in the tables.
    pub sheet_in-tables : sheet_of (read_counts s) (read_special s) (read_tables s) ≡ sheet_in s
    unfolding sheet_of sheet_in row_at
    sheet_in-tables =
        rw (
          rows-list no_builtin (in_tables (read_tables s)).builtin (map builtin_of (get_or (section_rows s) 1 [])) _ (count builtin_of 1) builtin-same,
          rows-list no_row (in_tables (read_tables s)).expr (map expr_of (get_or (section_rows s) 2 [])) _ (count expr_of 2) expr-same,
          rows-list no_statement (in_tables (read_tables s)).statement (map statement_of (get_or (section_rows s) 3 [])) _ (count statement_of 3) statement-same,
          rows-list 0 (in_tables (read_tables s)).query (map query_of (get_or (section_rows s) 4 [])) _ (count query_of 4) query-same,
          long 0,
        )

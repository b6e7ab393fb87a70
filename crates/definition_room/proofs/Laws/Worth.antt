-- What the namings of a sheet are worth, row by row and field by field.
use mathlib.Core.Path.{◌≡◌, refl, ap}
use mathlib.Core.Bool.{Bool}
use mathlib.Core.List.{List, [], ◌∷◌, ◌++◌}
use Prim.Native.Nat.{ℕ, zero, suc, ◌+◌, ◌≤◌}
use native.Mathlib.Omega.{arith}
use borrow.Author.Tests.{ne_eqb}
use Rattle.sheet.specs.declared.Counts.{Counts}
use Rattle.sheet.specs.Naming.{Entry, query_row, statement_row, expr_row, expr_entries, statement_entries, query_entries, Naming, namers, in_chain, entry_naming, row_namings, by_queries, by_statements, by_exprs, namings}
use Rattle.sheet.specs.Faults.{is_member}
use Rattle.sheet.proofs.Laws.Origins.{target_of, member_settled}
use Rattle.definition_room.specs.Inner.Sizes.{total}
use Rattle.definition_room.proofs.Laws.Lists.{total-append}
use Rattle.definition_room.specs.Inner.Sums.{sum_to}
use Rattle.definition_room.proofs.Laws.Sums.{worth}
use Rattle.sheet.specs.Inner.Rows.{in_tables}

worth-append : (f : ℕ → ℕ) (k l : List Naming) → worth f (k ++ l) ≡ worth f k + worth f l
worth-append f k l = total-append (λ (x : Naming). f x.to) k l

-- What the fields of row k are worth.
unfoldable pub row_worth : Counts → (ℕ → ℕ) → ℕ → List Entry → ℕ
row_worth c f k es = total (λ e. worth f (entry_naming c k e)) es

module _ (c : Counts) (f : ℕ → ℕ) where
  worth-row : (k : ℕ) (es : List Entry) → worth f (row_namings c k es) ≡ row_worth c f k es
  unfolding row_namings row_worth
  worth-row k [] = refl
  worth-row k (e ∷ es) = omega (arith, worth-append f (entry_naming c k e) (row_namings c k es), worth-row k es)

  -- A field that names a row is worth what the row is.
  pub entry_worth : (k : ℕ) (e : Entry) (to : ℕ) → target_of c e ≡ to → 1 ≤ to → f to ≤ worth f (entry_naming c k e)
  unfolding entry_naming
  entry_worth k e to h l =
      let z : target_of c e ≡ 0 → ⊥ = λ z. omega arith in
      rw (ne_eqb (target_of c e) 0 z) (omega (arith, ap f h))

  module _ (t : List ℕ) where
    unfoldable pub query_worth : ℕ → ℕ
    query_worth q = row_worth c f (query_row q) (query_entries c (in_tables t) q)

    unfoldable pub statement_worth : ℕ → ℕ
    statement_worth s = row_worth c f (statement_row s) (statement_entries c (in_tables t) s)

    unfoldable pub expr_worth : ℕ → ℕ
    expr_worth r = row_worth c f (expr_row r) (expr_entries c (in_tables t) (is_member c (in_tables t) r) r)

    worth-queries : (n : ℕ) → worth f (by_queries c (in_tables t) n) ≡ sum_to query_worth n
    unfolding by_queries sum_to query_worth
    worth-queries zero = refl
    worth-queries (suc n) =
        omega (
          arith,
          worth-append f (by_queries c (in_tables t) n) (row_namings c (query_row (suc n)) (query_entries c (in_tables t) (suc n))),
          worth-row (query_row (suc n)) (query_entries c (in_tables t) (suc n)),
          worth-queries n,
        )

    worth-statements : (n : ℕ) → worth f (by_statements c (in_tables t) n) ≡ sum_to query_worth c.queries + sum_to statement_worth n
    unfolding by_statements sum_to statement_worth
    worth-statements zero = omega (arith, worth-queries c.queries)
    worth-statements (suc n) =
        omega (
          arith,
          worth-append f (by_statements c (in_tables t) n) (row_namings c (statement_row (suc n)) (statement_entries c (in_tables t) (suc n))),
          worth-row (statement_row (suc n)) (statement_entries c (in_tables t) (suc n)),
          worth-statements n,
        )

    worth-exprs : (n : ℕ) → n ≤ c.exprs
        → worth f (by_exprs c (in_tables t) n) ≡ sum_to query_worth c.queries + (sum_to statement_worth c.statements + sum_to expr_worth n)
    unfolding by_exprs sum_to expr_worth
    worth-exprs zero h = omega (arith, worth-statements c.statements)
    worth-exprs (suc n) h =
        let flag : Bool = in_chain (expr_row (suc n)) (namers (expr_row (suc n)) (by_exprs c (in_tables t) n)) in
        omega (
          arith,
          worth-append f (by_exprs c (in_tables t) n) (row_namings c (expr_row (suc n)) (expr_entries c (in_tables t) flag (suc n))),
          worth-row (expr_row (suc n)) (expr_entries c (in_tables t) flag (suc n)),
          ap (λ (b : Bool). row_worth c f (expr_row (suc n)) (expr_entries c (in_tables t) b (suc n))) (member_settled c (in_tables t) n h),
          worth-exprs n (omega arith),
        )

    -- The namings of a sheet are those of its rows.
    pub worth-namings : worth f (namings c (in_tables t))
        ≡ sum_to query_worth c.queries + (sum_to statement_worth c.statements + sum_to expr_worth c.exprs)
    unfolding namings
    worth-namings = worth-exprs c.exprs (omega arith)

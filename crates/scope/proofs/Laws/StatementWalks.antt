-- How the statements of a query are gone through: a statement's row, then the next.
use mathlib.Core.Path.{◌≡◌, refl, sym, ap}
use mathlib.Core.List.{List, [], ◌∷◌}
use Prim.Native.Nat.{ℕ, zero, suc, ◌+◌, ◌≤◌, ◌<◌}
use native.Mathlib.Omega.{arith}
use native.Mathlib.Nat.{suc-ne-zero}
use lib.ListN.{length, get_or}
use Rattle.sheet.specs.declared.Statement.{Statement}
use Rattle.sheet.specs.Sheet.{Sheet, no_statement}
use Rattle.scope.specs.Trees.{tree_at, chain}
use Rattle.scope.specs.Statements.{Stmt, literal_of, stmts_from, stmts_of}

-- Statement r of a list; rows count from 1.
abbrev pub statement_in : List Statement → ℕ → Statement
statement_in rows r = get_or (no_statement ∷ rows) r no_statement

-- Each statement's `next` is 0 or a later row: as in every sheet that passes question 6.
abbrev pub StatementsOnward : List Statement → Type 0
StatementsOnward rows = (r : ℕ) → r ≤ length rows → ((statement_in rows r).next ≡ 0 → ⊥) → (r < (statement_in rows r).next) × ((statement_in rows r).next ≤ length rows)

module _ (sheet : Sheet) where
  -- The statement at row r, with its modifiers.
  unfoldable pub stmt_at : ℕ → Stmt
  stmt_at r =
      let st = statement_in sheet.statements r in
      record { literal = literal_of sheet st; with_mods = chain (tree_at sheet st.with) }

  -- The statements from row r on.
  unfoldable pub stmts_at : ℕ → List Stmt
  stmts_at r = stmts_from sheet (length sheet.statements) r

  pub stmts_none : stmts_at 0 ≡ []
  unfolding stmts_at stmts_from
  stmts_none = go (length sheet.statements)
    where
      go : (n : ℕ) → stmts_from sheet n 0 ≡ []
      go zero = refl
      go (suc n) = refl

  -- More rows allowed change nothing.
  more : StatementsOnward sheet.statements → (n r : ℕ) → ((r ≡ 0 → ⊥) → (r ≤ length sheet.statements) × (length sheet.statements < n + r))
      → stmts_from sheet (suc n) r ≡ stmts_from sheet n r
  unfolding stmts_from
  more o zero zero e = refl
  more o (suc n) zero e = refl
  more o zero (suc r) e = let h = e (suc-ne-zero r) in absurd (omega arith)
  more o (suc n) (suc r) e =
      let h = e (suc-ne-zero r) in
      let st = get_or sheet.statements r no_statement in
      ap (λ (l : List Stmt). record { literal = literal_of sheet st; with_mods = chain (tree_at sheet st.with) } ∷ l)
      (more o n st.next (λ z. let b = o (suc r) h.0 z in (b.1, omega arith)))

  pub stmts_row : StatementsOnward sheet.statements → (r : ℕ) → (r ≡ 0 → ⊥) → r ≤ length sheet.statements
      → stmts_at r ≡ stmt_at r ∷ stmts_at (statement_in sheet.statements r).next
  unfolding stmts_at stmts_from stmt_at
  stmts_row o zero z i = absurd (z refl)
  stmts_row o (suc r) z i = sym (more o (length sheet.statements) (suc r) (λ w. (i, omega arith)))

  -- The statements of a query are those from its first.
  pub stmts_of_lem : (q : ℕ) → stmts_of sheet q ≡ stmts_at (get_or (0 ∷ sheet.queries) q 0)
  unfolding stmts_of stmts_at
  stmts_of_lem q = refl

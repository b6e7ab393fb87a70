-- The sizes of trees, from row to row of the tables, and the weights of statements.
use mathlib.Core.Path.{◌≡◌, refl, ap}
use mathlib.Core.Bool.{Bool, true, false, cond}
use mathlib.Core.List.{List}
use Prim.Native.Nat.{ℕ, zero, suc, ◌+◌, ◌≤◌}
use native.Mathlib.Omega.{arith}
use lib.Dec.{eqb}
use lib.ListN.{length, get_or}
use Rattle.sheet.specs.declared.Counts.{Counts}
use Rattle.sheet.specs.declared.Statement.{Statement}
use Rattle.sheet.specs.Inner.Records.{statement_row_at}
use Rattle.sheet.specs.declared.Special.{Special}
use Rattle.sheet.specs.declared.Row.{Row}
use Rattle.sheet.specs.Sheet.{Sheet, no_row}
use Rattle.sheet.specs.Inner.Sheet.{row_at, sheet_of}
use Rattle.scope.specs.Trees.{Tree, third_of, decode, tree_at}
use Rattle.scope.specs.Statements.{Literal, literal_of, stmts_of}
use Rattle.scope_walk.proofs.Laws.RowTrees.{rows_at}
use Rattle.definition_room.specs.Inner.Sizes.{total, size, literal_size, weight}
use Rattle.definition_room.proofs.Laws.Leaves.{size-chain}
use Rattle.definition_room.proofs.Laws.Parts.{parts_at, wholes_at}
use Rattle.definition_room.proofs.Laws.Costs.{stmt_of, cost_at, cost_no_query}

-- ---- deeper trees are no smaller

decode-more : (depth : ℕ) (rows : List Row) (r : ℕ) → size (decode depth rows r) ≤ size (decode (suc depth) rows r)
unfolding decode size
decode-more zero rows r = omega arith
decode-more (suc depth) rows zero = omega arith
decode-more (suc depth) rows (suc r) =
    let w = get_or rows r no_row in
    omega (
      arith,
      decode-more depth rows w.first,
      decode-more depth rows w.second,
      decode-more depth rows (third_of w),
      decode-more depth rows w.next,
    )

decode-row : (depth : ℕ) (rows : List Row) (r : ℕ) → size (decode depth rows (suc r))
    ≤ suc (size (decode depth rows (get_or rows r no_row).first) + (size (decode depth rows (get_or rows r no_row).second)
    + (size (decode depth rows (third_of (get_or rows r no_row))) + size (decode depth rows (get_or rows r no_row).next))))
unfolding decode size
decode-row zero rows r = omega arith
decode-row (suc depth) rows r =
    let w = get_or rows r no_row in
    omega (
      arith,
      decode-more depth rows w.first,
      decode-more depth rows w.second,
      decode-more depth rows (third_of w),
      decode-more depth rows w.next,
    )

module _ (c : Counts) (x : Special) (t : List ℕ) where
  abbrev pub sheet_here : Sheet
  sheet_here = sheet_of c x t

  -- ---- expressions

  -- The size of the tree at row r.
  unfoldable pub size_at : ℕ → ℕ
  size_at r = size (tree_at sheet_here r)

  pub size_none : size_at 0 ≡ 0
  unfolding size_at tree_at decode size
  size_none = go (length sheet_here.exprs)
    where
      go : (n : ℕ) → size (decode n sheet_here.exprs 0) ≡ 0
      go zero = refl
      go (suc n) = refl

  parts_of : Row → ℕ
  parts_of w = size_at w.first + (size_at w.second + (size_at (third_of w) + size_at w.next))

  row-exprs : (r : ℕ) → suc r ≤ c.exprs → get_or sheet_here.exprs r no_row ≡ row_at t (suc r)
  unfolding sheet_of
  row-exprs r h = rows_at (row_at t) c.exprs r no_row h

  parts-row : (r : ℕ) → parts_of (row_at t r) ≡ parts_at t size_at r
  unfolding parts_of parts_at row_at
  parts-row r = refl

  size-suc : (r : ℕ) → size_at (suc r) ≤ suc (parts_of (get_or sheet_here.exprs r no_row))
  unfolding size_at tree_at parts_of
  size-suc r = decode-row (length sheet_here.exprs) sheet_here.exprs r

  -- A tree is its row, and the parts.
  pub size-row : (r : ℕ) → 1 ≤ r → r ≤ c.exprs → size_at r ≤ suc (parts_at t size_at r)
  size-row zero a b = absurd (omega arith)
  size-row (suc r) a b = omega (arith, size-suc r, ap parts_of (row-exprs r b), parts-row (suc r))

  -- ---- statements

  literal-few : (st : Statement) → literal_size (literal_of sheet_here st) ≤ size_at st.first + (size_at st.second + size_at st.third)
  unfolding literal_of size_at
  literal-few st = go (eqb st.form 1) (eqb st.form 2) (eqb st.form 3) (eqb st.form 4)
    where
      one : Tree
      one = tree_at sheet_here st.first

      two : Tree
      two = tree_at sheet_here st.second

      three : Tree
      three = tree_at sheet_here st.third

      go : (a b d e : Bool) → literal_size (cond a (Literal.some_vars one) (cond b (Literal.some_in one two three) (cond d (Literal.expr one)
          (cond e (Literal.not_expr one) (Literal.every one two three st.query))))) ≤ size one + (size two + size three)
      go true b d e = omega arith
      go false true d e = omega arith
      go false false true e = omega arith
      go false false false true = omega arith
      go false false false false = omega arith

  weight-few : (st : Statement)
      → weight (stmt_of sheet_here st) ≤ suc (size_at st.first + (size_at st.second + (size_at st.third + size_at st.with)))
  unfolding weight stmt_of size_at
  weight-few st = omega (arith, literal-few st, size-chain (tree_at sheet_here st.with))

  -- A statement weighs no more than itself and the expressions that it names.
  pub weight-at : (s : ℕ) → cost_at weight c x t s ≤ suc (wholes_at t size_at s)
  unfolding wholes_at
  weight-at s = weight-few (statement_row_at t s)

  -- ---- queries

  -- There are no other queries.
  pub weight_no_query : (q : ℕ) → (1 ≤ q → q ≤ c.queries → ⊥) → total weight (stmts_of sheet_here q) ≡ 0
  weight_no_query = cost_no_query weight c x t

-- What the expressions are worth that a row names, where expression r is worth g r.
use mathlib.Core.Bool.{cond}
use mathlib.Core.List.{List}
use Prim.Native.Nat.{ℕ, ◌+◌}
use Rattle.sheet.specs.Inner.Records.{expr_at, statement_row_at}
use Rattle.definition_room.proofs.Laws.Listed.{compr_kind}

module _ (t : List ℕ) (g : ℕ → ℕ) where
  -- The parts that an expression names, and the rest of its chain.
  unfoldable pub parts_at : ℕ → ℕ
  parts_at r =
      let e = expr_at t r in
      g e.first + (g e.second + (g (cond (compr_kind e.kind) 0 e.third) + g e.next))

  -- The expressions that a statement names.
  unfoldable pub wholes_at : ℕ → ℕ
  wholes_at s =
      let st = statement_row_at t s in
      g st.first + (g st.second + (g st.third + g st.with))

-- Where the places of each query begin, if those of all queries are kept one after the other: no two queries share one, and there are enough.
use mathlib.Core.Path.{◌≡◌, refl}
use mathlib.Core.List.{List, [], ◌∷◌}
use Prim.Native.Nat.{ℕ, zero, suc, ◌+◌, ◌-◌, ◌≤◌}
use native.Mathlib.Omega.{arith}
use lib.ListN.{length}
use Rattle.sheet.specs.declared.Counts.{Counts}
use Rattle.sheet.specs.Inner.Records.{Within}
use Rattle.base.specs.Limits.{most_statements}
use Rattle.sheet.specs.declared.Special.{Special}
use Rattle.sheet.specs.Faults.{first_line}
use Rattle.sheet_facts.proofs.Laws.Accepted.{fine-rows}
use Rattle.sheet.specs.Inner.Sheet.{sheet_of}
use Rattle.scope.specs.Statements.{Stmt, stmts_of}
use Rattle.definition_room.specs.Inner.Sizes.{total}
use Rattle.definition_room.specs.Inner.Sums.{sum_to}
use Rattle.definition_room.proofs.Laws.Sums.{sum_mono, sum_longer, sum_last}
use Rattle.definition_room.proofs.Laws.Bound.{costs_fit}
use Rattle.sheet.specs.Inner.Rows.{in_tables}

-- A list is as long as it costs, one an element.
length-total : {A : Type 0} (l : List A) → length l ≡ total (λ e. 1) l
length-total [] = refl
length-total (e ∷ l) = omega (arith, length-total l)

sum_ones : (n : ℕ) → sum_to (λ s. 1) n ≡ n
unfolding sum_to
sum_ones zero = refl
sum_ones (suc n) = omega (arith, sum_ones n)

module _ (c : Counts) (x : Special) (t : List ℕ) where
  -- How many statements query q has.
  abbrev pub count_of : ℕ → ℕ
  count_of q = length (stmts_of (sheet_of c x t) q)

  -- The place from which on those of query q are kept.
  unfoldable pub base : ℕ → ℕ
  base q = sum_to count_of (q - 1)

  -- All queries together have no more statements than the sheet.
  pub counts-fit : first_line c (in_tables t) ≡ 0 → sum_to count_of c.queries ≤ c.statements
  counts-fit fine =
      omega (
        arith,
        sum_mono count_of (λ q. total (λ (s : Stmt). 1) (stmts_of (sheet_of c x t) q)) c.queries
            (λ q a b. omega (arith, length-total (stmts_of (sheet_of c x t) q))),
        costs_fit c x t (fine-rows c (in_tables t) fine) (λ s. 1),
        sum_ones c.statements,
      )

  -- So 128 places are enough.
  pub base-fits : Within c → first_line c (in_tables t) ≡ 0 → (q : ℕ) → 1 ≤ q → q ≤ c.queries → base q + count_of q ≤ most_statements
  unfolding base
  base-fits few fine q l h =
      omega (arith, sum_last count_of q l, sum_longer count_of q c.queries h, counts-fit fine, few.few-statements)

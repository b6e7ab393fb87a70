-- A sheet without a line at fault has no row at fault.
use mathlib.Core.Path.{◌≡◌, subst}
use mathlib.Core.Bool.{Bool, true, false}
use mathlib.Core.Logic.{◌⊎◌, inl, inr, ⊎_elim}
use Prim.Native.Nat.{ℕ, zero, suc, ◌+◌, ◌≤◌, ◌<◌}
use native.Mathlib.Omega.{arith}
use lib.Dec.{eqb}
use borrow.Author.Tests.{eqb-true}
use Rattle.base.proofs.Laws.Truth.{bool_cases, eq_cases}
use Rattle.sheet.specs.Form.{built_ins_at, exprs_at, statements_at, queries_at, line_of, line_or}
use Rattle.sheet.proofs.Laws.SectionLaws.{line-some}
use Rattle.sheet.specs.declared.Counts.{Counts}
use Rattle.sheet.specs.Sheet.{Rows}
use Rattle.sheet.specs.Faults.{builtin_fault, expr_fault, statement_fault, query_fault, first_at_fault, listed, first_line}

pub record FineRows (c : Counts) (t : Rows) : Type 0 where
  pub fine-builtin : (r : ℕ) → 1 ≤ r → r ≤ c.builtins → builtin_fault c t r ≡ false
  pub fine-expr : (r : ℕ) → 1 ≤ r → r ≤ c.exprs → expr_fault c t r ≡ false
  pub fine-statement : (s : ℕ) → 1 ≤ s → s ≤ c.statements → statement_fault c t s ≡ false
  pub fine-query : (q : ℕ) → 1 ≤ q → q ≤ c.queries → query_fault c t q ≡ false

none_of : (fault : ℕ → Bool) (r n : ℕ) → 0 < r → first_at_fault fault r n ≡ 0 → (j : ℕ) → r ≤ j → j < r + n → fault j ≡ false
unfolding first_at_fault
none_of fault r zero p h j a b = absurd (omega arith)
none_of fault r (suc n) p h j a b = go (bool_cases (fault r)) (λ e. none_of fault (suc r) n (omega arith) e)
  where
    go : (fault r ≡ true) ⊎ (fault r ≡ false)
        → (first_at_fault fault (suc r) n ≡ 0 → (j : ℕ) → suc r ≤ j → j < suc r + n → fault j ≡ false) → fault j ≡ false
    go (inl q) rest = let z : r ≡ 0 = rw q at h in absurd (omega arith)
    go (inr q) rest =
        ⊎_elim (λ (e : r ≡ j). subst (λ (i : ℕ). fault i ≡ false) e q)
        (λ (ne : r ≡ j → ⊥). rest (rw q at h) j (omega arith) (omega arith)) (eq_cases r j)

none_from_1 : (fault : ℕ → Bool) (n : ℕ) → first_at_fault fault 1 n ≡ 0 → (j : ℕ) → 1 ≤ j → j ≤ n → fault j ≡ false
none_from_1 fault n h j a b = none_of fault 1 n (omega arith) h j a (omega arith)

module _ (c : Counts) where
  no_line : (k r other : ℕ) → line_or (listed c) k r other ≡ 0 → (r ≡ 0) × (other ≡ 0)
  no_line k r other h = go (bool_cases (eqb r 0))
    where
      go : (eqb r 0 ≡ true) ⊎ (eqb r 0 ≡ false) → (r ≡ 0) × (other ≡ 0)
      go (inl q) = (eqb-true r 0 q, rw q at h)
      go (inr q) = let z : line_of (listed c) k r ≡ 0 = rw q at h in absurd (omega (arith, line-some (listed c) k r))

  pub fine-rows : (t : Rows) → first_line c t ≡ 0 → FineRows c t
  unfolding first_line
  fine-rows t h =
      let a = no_line built_ins_at _ _ h in
      let b = no_line exprs_at _ _ a.1 in
      let d = no_line statements_at _ _ b.1 in
      let e = no_line queries_at _ _ d.1 in
      record {
        fine-builtin = none_from_1 (builtin_fault c t) c.builtins a.0;
        fine-expr = none_from_1 (expr_fault c t) c.exprs b.0;
        fine-statement = none_from_1 (statement_fault c t) c.statements d.0;
        fine-query = none_from_1 (query_fault c t) c.queries e.0;
      }

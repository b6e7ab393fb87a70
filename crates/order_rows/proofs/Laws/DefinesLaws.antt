-- The names that the rows define, and those that the list of definitions does.
use mathlib.Core.Path.{◌≡◌, refl, sym, ap, ◌∙◌}
use mathlib.Core.Bool.{true, false, ◌&&◌}
use mathlib.Core.List.{List}
use mathlib.Core.Logic.{⊎_elim}
use Prim.Native.Nat.{ℕ, zero, suc, ◌<◌}
use native.Mathlib.Omega.{arith}
use lib.Dec.{eqb}
use borrow.Author.Tests.{eqb-true, eq-eqb}
use Rattle.base.proofs.Laws.Truth.{bool_cases, bool_ext, not-both, eq_cases, and_intro, and_left, and_right, or_left, or_right, or_cases}
use Rattle.order.specs.Definitions.{Definition, defines}
use Rattle.order.proofs.Laws.Statements.{by-defines, defines-by}
use Rattle.order.specs.Call.{row_count, statement_at, var_at, definitions}
use Rattle.order_rows.proofs.Laws.RowLaws.{row_listed, listed-row}
use Rattle.order_rows.specs.Inner.Masks.{defines_in, defined_in}

module _ (w : ℕ) (ws : List ℕ) (s x : ℕ) where
  abbrev DefinesAt : ℕ → Type 0
  DefinesAt j = (statement_at w ws j ≡ s) × (var_at w ws j ≡ x)

  row-defines : (j k : ℕ) → j < k → DefinesAt j → defines_in w ws k s x ≡ true
  unfolding defines_in
  row-defines j zero h r = absurd (omega arith)
  row-defines j (suc k) h r =
      ⊎_elim
      (λ (e : j ≡ k).
      or_left _ _ (and_intro _ _ (eq-eqb _ s (ap (statement_at w ws) (sym e) ∙ r.0)) (eq-eqb _ x (ap (var_at w ws) (sym e) ∙ r.1))))
      (λ (ne : j ≡ k → ⊥). or_right (eqb (statement_at w ws k) s && eqb (var_at w ws k) x) _ (row-defines j k (omega arith) r))
      (eq_cases j k)

  defines-row : (k : ℕ) → defines_in w ws k s x ≡ true → (j : ℕ) × (j < k) × DefinesAt j
  unfolding defines_in
  defines-row zero h = absurd (not-both h refl)
  defines-row (suc k) h =
      ⊎_elim
      (λ (p : (eqb (statement_at w ws k) s && eqb (var_at w ws k) x) ≡ true).
      (k, omega arith, (eqb-true _ s (and_left _ _ p), eqb-true _ x (and_right (eqb (statement_at w ws k) s) _ p))))
      (λ (p : defines_in w ws k s x ≡ true). let r = defines-row k p in (r.0, omega (arith, r.1), r.2))
      (or_cases _ _ h)

  -- All rows together define what the list of definitions does.
  pub defines_in-all : defines_in w ws (row_count w ws) s x ≡ defines (definitions w ws) s x
  defines_in-all =
      bool_ext _ _ (λ (h : defines_in w ws (row_count w ws) s x ≡ true). let r = defines-row (row_count w ws) h in
      by-defines (definitions w ws) s x (record { listed = row_listed w ws r.0 r.1; statement = r.2.0; var = r.2.1 }))
      (λ (h : defines (definitions w ws) s x ≡ true). let d = defines-by (definitions w ws) s x h in
      let row = listed-row w ws d.1.listed in
      row-defines row.0 (row_count w ws) row.1
      (ap (λ (e : Definition). e.statement) row.2 ∙ d.1.statement, ap (λ (e : Definition). e.var) row.2 ∙ d.1.var))

  defines-defined : (k : ℕ) → defines_in w ws k s x ≡ true → defined_in w ws k x ≡ true
  unfolding defines_in defined_in
  defines-defined zero h = h
  defines-defined (suc k) h =
      ⊎_elim (λ (p : (eqb (statement_at w ws k) s && eqb (var_at w ws k) x) ≡ true). or_left _ _ (and_right (eqb (statement_at w ws k) s) _ p))
      (λ (p : defines_in w ws k s x ≡ true). or_right (eqb (var_at w ws k) x) _ (defines-defined k p)) (or_cases _ _ h)

  -- A name that no row defines, no statement does.
  pub defined_in-none : defined_in w ws (row_count w ws) x ≡ false → defines (definitions w ws) s x ≡ false
  defined_in-none none =
      ⊎_elim (λ (h : defines (definitions w ws) s x ≡ true). absurd (not-both (defines-defined (row_count w ws) (defines_in-all ∙ h)) none))
      (λ (h : defines (definitions w ws) s x ≡ false). h) (bool_cases (defines (definitions w ws) s x))

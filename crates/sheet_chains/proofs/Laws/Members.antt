-- Laws of `Members`.
use mathlib.Core.Path.{◌≡◌, refl, ap, ◌∙◌}
use mathlib.Core.Bool.{Bool, true, not, cond, ◌&&◌, ◌||◌}
use mathlib.Core.List.{List}
use Prim.Native.Nat.{ℕ, zero, suc, ◌+◌, ◌-◌, ◌≤◌, ◌<◌}
use native.Mathlib.Omega.{arith}
use lib.Dec.{eqb, leb, ltb}
use borrow.Author.Tests.{ltb-true, leb-true}
use Rattle.base.proofs.Laws.Truth.{and_left, and_right, and_on, or_on}
use Rattle.sheet.specs.declared.Counts.{Counts}
use Rattle.sheet.specs.Inner.Records.{expr_at}
use Rattle.sheet.specs.Nesting.{is_var_at, goes_on, vars_in, ends_in, all_vars, ends_odd}
use Rattle.sheet.specs.Inner.Rows.{in_tables}
use Rattle.sheet_chains.specs.Inner.Members.{ends_so}

pub odd_is : (c : Counts) (t : List ℕ) (r : ℕ) → ends_so c t true r ≡ ends_odd c (in_tables t) r
unfolding ends_so ends_odd
odd_is c t r = refl

-- What is asked of the members after row r: that they are Vars; that with row r they end after an odd number, or with `false` an even one.
abbrev pub rest_vars : Counts → List ℕ → ℕ → Bool
rest_vars c t r = not (goes_on c (in_tables t) r) || all_vars c (in_tables t) (expr_at t r).next

abbrev pub rest_ends : Counts → List ℕ → Bool → ℕ → Bool
rest_ends c t odd r = cond (eqb (expr_at t r).next 0) odd (goes_on c (in_tables t) r && ends_so c t (not odd) (expr_at t r).next)

module _ (c : Counts) (t : List ℕ) where
  pub later : (r : ℕ) → goes_on c (in_tables t) r ≡ true → r < (expr_at t r).next
  later r g = ltb-true r (expr_at t r).next (and_left (ltb r (expr_at t r).next) (leb (expr_at t r).next c.exprs) g)

  pub inside : (r : ℕ) → goes_on c (in_tables t) r ≡ true → (expr_at t r).next ≤ c.exprs
  inside r g = leb-true (expr_at t r).next c.exprs (and_right (ltb r (expr_at t r).next) (leb (expr_at t r).next c.exprs) g)

  -- ---- rows ascend, so that as many members as there are rows left are all

  vars-enough : (n m r : ℕ) → c.exprs ≤ n + r → c.exprs ≤ m + r → vars_in c (in_tables t) (suc n) r ≡ vars_in c (in_tables t) (suc m) r
  unfolding vars_in
  vars-enough zero m r h k =
      ap (λ (b : Bool). is_var_at c (in_tables t) r && b) (or_on (goes_on c (in_tables t) r) _ _ (λ g. absurd (omega (arith, later r g, inside r g))))
  vars-enough (suc n) zero r h k =
      ap (λ (b : Bool). is_var_at c (in_tables t) r && b) (or_on (goes_on c (in_tables t) r) _ _ (λ g. absurd (omega (arith, later r g, inside r g))))
  vars-enough (suc n) (suc m) r h k =
      ap (λ (b : Bool). is_var_at c (in_tables t) r && b)
      (or_on (goes_on c (in_tables t) r) _ _ (λ g. vars-enough n m (expr_at t r).next (omega (arith, later r g)) (omega (arith, later r g))))

  ends-enough : (n m r : ℕ) (odd : Bool) → c.exprs ≤ n + r → c.exprs ≤ m + r → ends_in c (in_tables t) (suc n) odd r ≡ ends_in c (in_tables t) (suc m) odd r
  unfolding ends_in
  ends-enough zero m r odd h k =
      ap (cond (eqb (expr_at t r).next 0) odd) (and_on (goes_on c (in_tables t) r) _ _ (λ g. absurd (omega (arith, later r g, inside r g))))
  ends-enough (suc n) zero r odd h k =
      ap (cond (eqb (expr_at t r).next 0) odd) (and_on (goes_on c (in_tables t) r) _ _ (λ g. absurd (omega (arith, later r g, inside r g))))
  ends-enough (suc n) (suc m) r odd h k =
      ap (cond (eqb (expr_at t r).next 0) odd)
      (and_on (goes_on c (in_tables t) r) _ _ (λ g. ends-enough n m (expr_at t r).next (not odd) (omega (arith, later r g)) (omega (arith, later r g))))

  -- ---- the first member and the rest

  vars-next : (r : ℕ) → goes_on c (in_tables t) r ≡ true → vars_in c (in_tables t) c.exprs (expr_at t r).next ≡ all_vars c (in_tables t) (expr_at t r).next
  unfolding all_vars
  vars-next r g =
      let e : c.exprs ≡ suc (c.exprs - 1) = omega (arith, later r g, inside r g) in
      ap (λ (n : ℕ). vars_in c (in_tables t) n (expr_at t r).next) e
      ∙ vars-enough (c.exprs - 1) c.exprs (expr_at t r).next (omega (arith, later r g)) (omega arith)

  vars_open : (r : ℕ) → all_vars c (in_tables t) r ≡ (is_var_at c (in_tables t) r && (not (goes_on c (in_tables t) r) || vars_in c (in_tables t) c.exprs (expr_at t r).next))
  unfolding all_vars vars_in
  vars_open r = refl

  pub vars-first : (r : ℕ) → all_vars c (in_tables t) r ≡ (is_var_at c (in_tables t) r && rest_vars c t r)
  vars-first r = vars_open r ∙ ap (λ (b : Bool). is_var_at c (in_tables t) r && b) (or_on (goes_on c (in_tables t) r) _ _ (vars-next r))

  ends_next : (odd : Bool) (r : ℕ) → goes_on c (in_tables t) r ≡ true
      → ends_in c (in_tables t) c.exprs odd (expr_at t r).next ≡ ends_so c t odd (expr_at t r).next
  unfolding ends_so
  ends_next odd r g =
      let e : c.exprs ≡ suc (c.exprs - 1) = omega (arith, later r g, inside r g) in
      ap (λ (n : ℕ). ends_in c (in_tables t) n odd (expr_at t r).next) e
      ∙ ends-enough (c.exprs - 1) c.exprs (expr_at t r).next odd (omega (arith, later r g)) (omega arith)

  ends_open : (odd : Bool) (r : ℕ)
      → ends_so c t odd r ≡ cond (eqb (expr_at t r).next 0) odd (goes_on c (in_tables t) r && ends_in c (in_tables t) c.exprs (not odd) (expr_at t r).next)
  unfolding ends_so ends_in
  ends_open odd r = refl

  pub ends-first : (odd : Bool) (r : ℕ) → ends_so c t odd r ≡ rest_ends c t odd r
  ends-first odd r =
      ends_open odd r ∙ ap (cond (eqb (expr_at t r).next 0) odd) (and_on (goes_on c (in_tables t) r) _ _ (ends_next (not odd) r))

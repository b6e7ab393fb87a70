-- Laws of `Numbers`.
use mathlib.Core.Path.{◌≡◌, refl, sym, ap, ◌∙◌}
use mathlib.Core.Bool.{Bool, true, false}
use mathlib.Core.List.{List}
use mathlib.Core.Logic.{◌⊎◌, inl, inr, ⊎_elim}
use Prim.Native.Nat.{ℕ, ◌+◌, ◌-◌, ◌≤◌, ◌<◌}
use native.Mathlib.Omega.{arith}
use lib.Dec.{eqb}
use lib.ListN.{get_or, set, length-set}
use lib.Seq.{get_or-set_same, get_or-set_other}
use borrow.Author.Tests.{eqb-true}
use Rattle.base.specs.Limits as limits
use Rattle.base.specs.Inner.Sizes as sizes
use Rattle.base.proofs.Laws.Truth.{bool_cases, eq_cases}
use Rattle.sheet.specs.declared.Counts.{Counts}
use Rattle.sheet.specs.Inner.Records.{expr_at}
use Rattle.sheet.specs.Nesting.{is_var_at, goes_on, all_vars, ends_odd}
use Rattle.sheet_chains.proofs.Laws.Members.{odd_is, rest_vars, rest_ends, later, inside, vars-first, ends-first}
use Rattle.sheet.specs.Inner.Rows.{in_tables}
use Rattle.sheet_chains.specs.declared.chain.Chain.{Chain}
use Rattle.sheet_chains.specs.Inner.Numbers.{chain_code, chain_in, comes_to, one_more, rest_by, chain_by, Chained}

-- ---- what a number says

chain-kept : (x : Chain) → chain_in (chain_code x) ≡ x
chain-kept x = go x.vars x.odd x.even
  where
    go : (vars odd even : Bool) → chain_in (chain_code (record { vars = vars; odd = odd; even = even })) ≡ record { vars = vars; odd = odd; even = even }
    go true true true = refl
    go true true false = refl
    go true false true = refl
    go true false false = refl
    go false true true = refl
    go false true false = refl
    go false false true = refl
    go false false false = refl

module _ (c : Counts) (t : List ℕ) (k : ℕ) (w : List ℕ) (h : Chained c t k w) where
  abbrev rest_of : ℕ → Chain
  rest_of r = record { vars = rest_vars c t r; odd = rest_ends c t false r; even = rest_ends c t true r }

  rest-is : (r : ℕ) → k ≤ r → rest_by c w r (expr_at t r).next ≡ rest_of r
  unfolding rest_by comes_to
  rest-is r l = go (bool_cases (eqb (expr_at t r).next 0)) (bool_cases (goes_on c (in_tables t) r))
    where
      go : (eqb (expr_at t r).next 0 ≡ true) ⊎ (eqb (expr_at t r).next 0 ≡ false) → (goes_on c (in_tables t) r ≡ true) ⊎ (goes_on c (in_tables t) r ≡ false)
          → rest_by c w r (expr_at t r).next ≡ rest_of r
      go (inl p) (inl q) = absurd (omega (arith, eqb-true (expr_at t r).next 0 p, later c t r q))
      go (inl p) (inr q) = rw (p, q)
      go (inr p) (inl q) =
          rw (p, q) (ap chain_in (h.number (expr_at t r).next (omega (arith, later c t r q)) (inside c t r q)) ∙ chain-kept (comes_to c t (expr_at t r).next))
      go (inr p) (inr q) = rw (p, q)

  -- A row from k on has its chain by the number of a later row.
  pub chain-is : (r : ℕ) → k ≤ r → chain_by c t w r ≡ comes_to c t r
  unfolding chain_by comes_to
  chain-is r l =
      rw (vars-first c t r, ends-first c t true r, ends-first c t false r) (ap (one_more (is_var_at c (in_tables t) r)) (rest-is r l))

  -- One row more.
  pub chained-more : (v : ℕ) → 1 ≤ k → k ≤ limits.most_expressions → v ≡ chain_code (chain_by c t w k) → Chained c t (k - 1) (set w (sizes.per_row + k) v)
  chained-more v l m e = record {
    room = omega (arith, length-set w (sizes.per_row + k) v, h.room);
    number = λ r p q. ⊎_elim
        (λ (s : r ≡ k).
        ap (λ (j : ℕ). get_or (set w (sizes.per_row + k) v) (sizes.per_row + j) 0) s ∙ get_or-set_same w (sizes.per_row + k) v 0 (omega (arith, h.room)) ∙ e
        ∙ ap chain_code (chain-is k (omega arith)) ∙ ap (λ (j : ℕ). chain_code (comes_to c t j)) (sym s))
        (λ (s : r ≡ k → ⊥).
        get_or-set_other w (sizes.per_row + k) (sizes.per_row + r) v 0 (λ z. s (omega arith)) ∙ h.number r (less r p s) q)
        (eq_cases r k);
  }
    where
      less : (r : ℕ) → k - 1 < r → (r ≡ k → ⊥) → k < r
      less r p s = omega arith

-- ---- what a chain that is made by the numbers of all rows says

module _ (c : Counts) (t w : List ℕ) (h : Chained c t 0 w) (r : ℕ) where
  pub chain-vars : (chain_by c t w r).vars ≡ all_vars c (in_tables t) r
  unfolding comes_to
  chain-vars = ap (λ (x : Chain). x.vars) (chain-is c t 0 w h r (omega arith))

  pub chain-odd : (chain_by c t w r).odd ≡ ends_odd c (in_tables t) r
  unfolding comes_to
  chain-odd = ap (λ (x : Chain). x.odd) (chain-is c t 0 w h r (omega arith)) ∙ odd_is c t r

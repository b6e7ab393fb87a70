-- What a chain comes to, as one number, and the numbers in memory: 1 where each member is a Var; and 2 where it ends after an odd number
-- of members, 4 after an even number.
use Rattle.std.specs.Prelude.{◌≡◌, Bool, true, false, cond, ◌&&◌, List, ℕ, ◌+◌, ◌/◌, ◌%◌, ◌≤◌, ◌<◌, eqb, leb, ltb, length, get_or}
use Rattle.base.specs.Inner.Sizes as sizes
use Rattle.sheet.specs.declared.Counts.{Counts}
use Rattle.sheet.specs.Inner.Records.{expr_at}
use Rattle.sheet.specs.Nesting.{is_var_at, all_vars}
use Rattle.sheet_chains.specs.declared.chain.Chain.{Chain}
use Rattle.sheet_chains.specs.Inner.Members.{ends_so}
use Rattle.sheet.specs.Inner.Rows.{in_tables}

abbrev pub chain_code : Chain → ℕ
chain_code x = cond x.vars 1 0 + (cond x.odd 2 0 + cond x.even 4 0)

-- What a number says.
abbrev pub chain_in : ℕ → Chain
chain_in n = record { vars = eqb (n % 2) 1; odd = eqb (n / 2 % 2) 1; even = eqb (n / 4 % 2) 1 }

-- What the chain from row r on comes to.
unfoldable pub comes_to : Counts → List ℕ → ℕ → Chain
comes_to c t r =
    record { vars = all_vars c (in_tables t) r; odd = ends_so c t true r; even = ends_so c t false r }

-- ---- one member more in front: odd and even change places

abbrev pub one_more : Bool → Chain → Chain
one_more var x = record { vars = var && x.vars; odd = x.even; even = x.odd }

-- ---- the numbers in memory: row r's stands r behind the marks

abbrev pub no_member : Chain
no_member = record { vars = true; odd = false; even = true }

abbrev pub no_end : Chain
no_end = record { vars = true; odd = false; even = false }

-- What comes after row r, whose `next` is this: nothing, which is all Vars and even; a later row's chain; or a chain that never ends.
unfoldable pub rest_by : Counts → List ℕ → ℕ → ℕ → Chain
rest_by c w r next =
    cond (eqb next 0) no_member (cond (ltb r next && leb next c.exprs) (chain_in (get_or w (sizes.per_row + next) 0)) no_end)

unfoldable pub chain_by : Counts → List ℕ → List ℕ → ℕ → Chain
chain_by c t w r = one_more (is_var_at c (in_tables t) r) (rest_by c w r (expr_at t r).next)

-- The rows after row k have their numbers.
pub record Chained (c : Counts) (t : List ℕ) (k : ℕ) (w : List ℕ) : Type 0 where
  pub room : sizes.per_chain ≤ length w
  pub number : (r : ℕ) → k < r → r ≤ c.exprs → get_or w (sizes.per_row + r) 0 ≡ chain_code (comes_to c t r)

-- All rows have them, and the marks are as before.
pub record Followed (c : Counts) (t before after : List ℕ) : Type 0 where
  pub chains : Chained c t 0 after
  pub marks : (j : ℕ) → j < sizes.per_row → get_or after j 0 ≡ get_or before j 0

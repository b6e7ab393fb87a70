-- Laws of `Known`.
use mathlib.Core.Path.{◌≡◌, ap, ◌∙◌}
use mathlib.Core.List.{List}
use Prim.Native.Nat.{ℕ, ◌/◌, ◌%◌, ◌≤◌, ◌<◌}
use native.Mathlib.Omega.{arith}
use lib.Dec.{eqb}
use lib.ListN.{length, get_or}
use Rattle.base.specs.Limits as limits
use Rattle.base.specs.Inner.Sizes as sizes
use Rattle.sheet.specs.declared.Counts.{Counts}
use Rattle.sheet.specs.Inner.Records.{Within}
use Rattle.sheet.specs.Naming.{expr_row, namers, named_so, in_chain, namings}
use Rattle.sheet.specs.Nesting.{enclosing}
use Rattle.sheet_marks.specs.Inner.Codes.{code_of}
use Rattle.sheet_marks.proofs.Laws.Codes.{code_so, code-member}
use Rattle.sheet_marks.specs.Inner.Homes.{SettledHomes}
use Rattle.sheet_chains.specs.Inner.Numbers.{Followed}
use Rattle.sheet.specs.Inner.Rows.{in_tables}
use Rattle.sheet_faults.specs.Inner.Known.{Known}

module _ (c : Counts) (t w : List ℕ) (known : Known c t w) (k : ℕ) where
  pub so_is : k < sizes.per_row → eqb (get_or w k 0 % 4) 1 ≡ named_so k (namers k (namings c (in_tables t)))
  so_is h =
      let e : get_or w k 0 % 4 ≡ code_of k (namers k (namings c (in_tables t))) % 4 = omega (arith, known.marks.low k h) in
      ap (λ (v : ℕ). eqb v 1) e ∙ code_so k (namers k (namings c (in_tables t)))

  pub member_is : k < sizes.per_row → eqb (get_or w k 0 / 4 % 2) 1 ≡ in_chain k (namers k (namings c (in_tables t)))
  member_is h =
      let e : get_or w k 0 / 4 % 2 ≡ code_of k (namers k (namings c (in_tables t))) / 4 % 2 = omega (arith, known.marks.low k h) in
      ap (λ (v : ℕ). eqb v 1) e ∙ code-member k (namers k (namings c (in_tables t)))

  pub query-is : limits.most_queries < k → k ≤ expr_row c.exprs → get_or w k 0 / 8 ≡ get_or (enclosing c (in_tables t)) k 0
  unfolding enclosing
  query-is h l = known.marks.homes k h l

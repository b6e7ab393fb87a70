-- In an accepted sheet the names of all rows lie below the limit.
use mathlib.Core.Path.{◌≡◌, refl}
use mathlib.Core.Bool.{Bool, true}
use mathlib.Core.List.{List, map}
use Prim.Native.Nat.{ℕ, zero, suc, ◌+◌, ◌-◌, ◌≤◌, ◌<◌}
use native.Mathlib.Omega.{arith}
use borrow.Author.Tests.{lt-ltb}
use Rattle.base.proofs.Laws.Truth.{and_intro}
use Rattle.base.specs.Lists.{all, counted, range}
use Rattle.sheet.specs.declared.Counts.{Counts}
use Rattle.sheet.specs.Inner.Records.{Within}
use Rattle.sheet.specs.declared.Special.{Special}
use Rattle.sheet.specs.Faults.{first_line}
use Rattle.sheet_facts.specs.Inner.Facts.{SheetFacts}
use Rattle.sheet_facts.proofs.Laws.Facts.{sheet-facts}
use Rattle.sheet.specs.Sheet.{name_bound}
use Rattle.sheet.specs.Inner.Sheet.{row_at, rows_to, sheet_of}
use Rattle.scope_walk.proofs.Laws.Onwards.{name-low, name-counted}
use Rattle.scope.specs.Inner.Below.{name_below}
use Rattle.definition_once.specs.Inner.Named.{NamesUnder, NamesBelow}
use Rattle.sheet.specs.Inner.Rows.{in_tables}

-- A test that each of the rows 1 to n passes, all of them pass.
rows_pass_lem : {A : Type 0} (p : A → Bool) (at : ℕ → A) (n : ℕ) → ((r : ℕ) → 1 ≤ r → r ≤ n → p (at r) ≡ true) → all p (rows_to at n) ≡ true
unfolding rows_to range
rows_pass_lem p at n h = go (n + 1 - 1) 1 (λ r l m. h r l (omega arith))
  where
    go : (k a : ℕ) → ((r : ℕ) → a ≤ r → r < a + k → p (at r) ≡ true) → all p (map at (counted a k)) ≡ true
    go zero a g = refl
    go (suc k) a g =
        and_intro (p (at a)) (all p (map at (counted (suc a) k))) (g a (omega arith) (omega arith))
        (go k (suc a) (λ r l m. g r (omega arith) (omega arith)))

-- The names of a sheet's rows are below n, where it has fewer names than n.
pub names-under : (n : ℕ) (c : Counts) (x : Special) (t : List ℕ) → Within c → SheetFacts c (in_tables t) → c.names < n → NamesUnder n (sheet_of c x t)
unfolding sheet_of
names-under n c x t few facts l =
    rows_pass_lem (name_below n) (row_at t) c.exprs (λ r a b. lt-ltb (row_at t r).name n (omega (arith, l, name-counted c t few facts r a b)))

pub facts-names : (c : Counts) (x : Special) (t : List ℕ) → Within c → SheetFacts c (in_tables t) → NamesBelow (sheet_of c x t)
unfolding sheet_of
facts-names c x t few facts =
    rows_pass_lem (name_below name_bound) (row_at t) c.exprs (λ r a b. lt-ltb (row_at t r).name name_bound (omega (arith, name-low c t few facts r a b)))

-- So what the theorems about recorded names ask of a sheet holds.
pub low-names : (c : Counts) (x : Special) (t : List ℕ) → Within c → first_line c (in_tables t) ≡ 0 → NamesBelow (sheet_of c x t)
low-names c x t few fine = facts-names c x t few (sheet-facts c (in_tables t) few fine)

-- What a question answers, by its first line at fault.
use mathlib.Core.Path.{◌≡◌, sym, ◌∙◌}
use mathlib.Core.Bool.{true, false}
use mathlib.Core.Logic.{◌⊎◌, inl, inr}
use Prim.Native.Nat.{ℕ, ◌<◌}
use native.Mathlib.Omega.{arith}
use lib.Dec.{eqb}
use borrow.Author.Tests.{eqb-true, eqb-false, eq-eqb, ne_eqb}
use Rattle.base.proofs.Laws.Truth.{bool_cases}
use Rattle.std.specs.Prelude.{Result, Ok, Err, IsErrAnd}
use Rattle.std.proofs.lemmas.Result.{err_from_is_err_and}
use Rattle.sheet.specs.Inner.Answers.{unless_fault}

module _ (fault : ℕ) where
  pub unless-none : fault ≡ 0 → Ok tt ≡ unless_fault fault
  unless-none z = sym (rw (eq-eqb fault 0 z))

  pub unless_line : (line : ℕ) → fault ≡ line → 0 < line → Err line ≡ unless_fault fault
  unless_line line e some = sym (rw (ne_eqb fault 0 (λ z. omega (arith, z, e))) (rw e))

  -- What a `?` hands out.
  pub unless-out : {line : ℕ} (r : Result Unit ℕ) → IsErrAnd r (λ y. y ≡ line) → fault ≡ line → 0 < line → r ≡ unless_fault fault
  unless-out {line} r h e some = let p = err_from_is_err_and r h in p.1 ∙ rw p.2 (unless_line line e some)

  -- And the fault, by what is answered.
  pub unless-passed : Ok tt ≡ unless_fault fault → fault ≡ 0
  unless-passed h = go (bool_cases (eqb fault 0))
    where
      go : (eqb fault 0 ≡ true) ⊎ (eqb fault 0 ≡ false) → fault ≡ 0
      go (inl e) = eqb-true fault 0 e
      go (inr e) = let q = rw e at h in absurd cc

  pub unless-failed : (line : ℕ) → Err line ≡ unless_fault fault → (fault ≡ line) × (0 < line)
  unless-failed line h = go (bool_cases (eqb fault 0))
    where
      go : (eqb fault 0 ≡ true) ⊎ (eqb fault 0 ≡ false) → (fault ≡ line) × (0 < line)
      go (inl e) = let q = rw e at h in absurd cc
      go (inr e) =
          let q = rw e at h in
          let is : fault ≡ line = cc in
          let some = eqb-false fault 0 e in
          (is, omega (arith, is, some))

-- Laws of namings: those of one row, as the list of all grows.
use mathlib.Core.Path.{◌≡◌, refl, sym, ap, ◌∙◌}
use mathlib.Core.Bool.{true, false, ◌&&◌, ◌||◌, or_assoc, and-false}
use mathlib.Core.List.Memᴰ
use mathlib.Core.List.{List, [], ◌∷◌, ◌++◌, Memᴰ}
use mathlib.Core.Logic.{◌⊎◌, inl, inr}
use Prim.Native.Nat.{ℕ, ◌≤◌, ◌<◌}
use lib.Dec.{eqb}
use borrow.Author.Tests.{le-ltb, lt-leb}
use Rattle.base.specs.Limits as limits
use Rattle.base.proofs.Laws.Truth.{bool_cases, not-both}
use Rattle.base.proofs.Laws.Lists.{filter-append}
use Rattle.sheet.specs.declared.Counts.{Counts}
use Rattle.sheet.specs.Naming.{Entry, target, Naming, namers, upwards, named_so, in_chain, entry_naming, row_namings}

pub namers-append : (k : ℕ) (xs ys : List Naming) → namers k (xs ++ ys) ≡ namers k xs ++ namers k ys
unfolding namers
namers-append k xs ys = filter-append (λ x. eqb x.to k) xs ys

pub in_chain-append : (k : ℕ) (xs ys : List Naming) → in_chain k (xs ++ ys) ≡ (in_chain k xs || in_chain k ys)
unfolding in_chain
in_chain-append k [] ys = refl
in_chain-append k (x ∷ xs) ys = rw (in_chain-append k xs ys) (sym (or_assoc (x.chain && upwards x.by k) (in_chain k xs) (in_chain k ys)))

-- ---- a row that is named so has one naming

pub only_naming : (k : ℕ) {x : Naming} (xs : List Naming) → named_so k xs ≡ true → Memᴰ x xs
    → (xs ≡ x ∷ []) × (upwards x.by k ≡ true)
only_naming k [] h m = absurd (not-both h refl)
only_naming k (y ∷ []) h m =
    let e = Memᴰ.eq_of_singleton m in
    (ap (λ (z : Naming). z ∷ []) (sym e), ap (λ (z : Naming). upwards z.by k) e ∙ h)
only_naming k (y ∷ z ∷ xs) h m = absurd (not-both h refl)

-- ---- later rows make no member of an earlier one

not-upwards : (by k : ℕ) → limits.most_queries < k → k ≤ by → upwards by k ≡ false
not-upwards by k h l = rw (lt-leb k limits.most_queries h, le-ltb by k l)

module _ (c : Counts) (by k : ℕ) (named : limits.most_queries < k) (late : k ≤ by) where
  entry_late : (e : Entry) → in_chain k (namers k (entry_naming c by e)) ≡ false
  unfolding entry_naming namers in_chain
  entry_late e = go (bool_cases (eqb (target c e.field e.value) 0)) (bool_cases (eqb (target c e.field e.value) k))
    where
      go : (eqb (target c e.field e.value) 0 ≡ true) ⊎ (eqb (target c e.field e.value) 0 ≡ false)
          → (eqb (target c e.field e.value) k ≡ true) ⊎ (eqb (target c e.field e.value) k ≡ false)
          → in_chain k (namers k (entry_naming c by e)) ≡ false
      go (inl p) q = rw p
      go (inr p) (inl q) = rw (p, q, not-upwards by k named late, and-false)
      go (inr p) (inr q) = rw (p, q)

  pub row_late : (es : List Entry) → in_chain k (namers k (row_namings c by es)) ≡ false
  unfolding row_namings namers in_chain
  row_late [] = refl
  row_late (e ∷ es) =
      ap (in_chain k) (namers-append k (entry_naming c by e) (row_namings c by es))
      ∙ in_chain-append k (namers k (entry_naming c by e)) (namers k (row_namings c by es)) ∙ rw (entry_late e, row_late es)

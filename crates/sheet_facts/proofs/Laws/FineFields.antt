-- Laws of `FineFields`.
use mathlib.Core.Path.{◌≡◌, ap, ◌∙◌}
use mathlib.Core.Bool.{true, false, ◌||◌}
use mathlib.Core.List.Memᴰ
use mathlib.Core.List.{List, [], ◌∷◌, Memᴰ}
use mathlib.Core.Logic.{◌⊎◌, inl, inr, ⊎_elim}
use Prim.Native.Nat.{ℕ}
use native.Mathlib.Omega.{arith}
use lib.Dec.{eqb, leb, ltb}
use borrow.Author.Tests.{eqb-true, eqb-false, leb-false, ltb-false, not-false}
use Rattle.base.proofs.Laws.Truth.{bool_cases, not-both, neither_left, neither_right}
use Rattle.sheet.specs.declared.Counts.{Counts}
use Rattle.base.specs.Limits.{nesting}
use Rattle.sheet.specs.Sheet.{Rows}
use Rattle.sheet.specs.Fields.{limit_of, for_queries}
use Rattle.sheet.specs.Naming.{Entry}
use Rattle.sheet.specs.Nesting.{level}
use Rattle.sheet.specs.Faults.{not_var, unpaired, misnested, field_fault, entries_fault}
use Rattle.sheet_facts.proofs.Laws.Neither.{not-second}
use Rattle.sheet_facts.specs.Inner.FineFields.{Fine, Nests}

module _ (c : Counts) (t : Rows) (q : ℕ) where
  empty-fine : (e : Entry) → e.value ≡ 0 → e.field.set ≡ false → Fine c t q e
  empty-fine e z s = record {
    is_set = λ p. absurd (not-both p s);
    in_range = omega arith;
    is-var = λ p v. absurd (omega arith);
    paired = λ p v. absurd (omega arith);
    nests = λ p v. absurd (omega arith);
  }

  full_fine : (e : Entry) → (e.value ≡ 0 → ⊥)
      → (ltb (limit_of c e.field.section) e.value || (not_var c t e.field e.value || (unpaired c t e.field e.value || misnested c t e.field e.value q))) ≡ false
      → Fine c t q e
  full_fine e ne h =
      let f = e.field in
      let v = e.value in
      let within = neither_left (ltb (limit_of c f.section) v) _ h in
      let rest = neither_right (ltb (limit_of c f.section) v) _ h in
      let rest2 = neither_right (not_var c t f v) _ rest in
      let nest = neither_right (unpaired c t f v) _ rest2 in
      record {
        is_set = λ p. omega arith;
        in_range = ltb-false (limit_of c f.section) v within;
        is-var = λ p s. not-false _ (not-second f.var _ (neither_left (not_var c t f v) _ rest) s);
        paired = λ p s. not-second f.pairs _ (neither_left (unpaired c t f v) _ rest2) s;
        nests = λ p s. nested v (not-second (for_queries f.section) _ nest (ap for_queries s));
      }
    where
      nested : (v : ℕ) → (leb v q || (eqb v 1 || leb nesting (level c t q))) ≡ false → Nests c t q v
      nested v n =
          let rest = neither_right (leb v q) _ n in
          let one = eqb-false v 1 (neither_left (eqb v 1) _ rest) in
          let large = leb-false v q (neither_left (leb v q) _ n) in
          record { larger = large; not_first = omega arith; shallow = leb-false nesting (level c t q) (neither_right (eqb v 1) _ rest) }

  fine-field : (e : Entry) → field_fault c t q e ≡ false → Fine c t q e
  unfolding field_fault
  fine-field e h = go (bool_cases (eqb e.value 0))
    where
      go : (eqb e.value 0 ≡ true) ⊎ (eqb e.value 0 ≡ false) → Fine c t q e
      go (inl z) = empty-fine e (eqb-true e.value 0 z) (rw z at h)
      go (inr z) = full_fine e (eqb-false e.value 0 z) (rw z at h)

  pub fine-fields : (es : List Entry) → entries_fault c t q es ≡ false → {e : Entry} → Memᴰ e es → Fine c t q e
  unfolding entries_fault
  fine-fields [] h m = absurd (Memᴰ.not-nil m)
  fine-fields (d ∷ es) h {e} m =
      ⊎_elim (λ (p : e ≡ d). fine-field e (ap (field_fault c t q) p ∙ neither_left (field_fault c t q d) _ h))
      (λ (p : Memᴰ e es). fine-fields es (neither_right (field_fault c t q d) _ h) p) (Memᴰ.cases_cons m)

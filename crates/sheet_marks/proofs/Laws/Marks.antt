-- Laws of `Marks`.
use mathlib.Core.Path.{◌≡◌, refl, sym, ap, ◌∙◌, subst}
use mathlib.Core.Bool.{true, false}
use mathlib.Core.List.{List, [], ◌∷◌, ◌++◌, append-nil, append_assoc}
use mathlib.Core.Logic.{◌⊎◌, inl, inr, ⊎_elim}
use Prim.Native.Nat.{ℕ, ◌≤◌}
use native.Mathlib.Omega.{arith}
use lib.Dec.{eqb, ltb}
use lib.ListN.{get_or, set, length-set}
use lib.Seq.{get_or-set_same, get_or-set_other}
use borrow.Author.Tests.{eqb-true, eqb-false, eq-eqb, ne_eqb, leb-true}
use Rattle.std.specs.Prelude.{Option, Some, None}
use Rattle.base.specs.Inner.Sizes as sizes
use Rattle.base.proofs.Laws.Truth.{bool_cases, and_right}
use Rattle.sheet.specs.declared.Counts.{Counts}
use Rattle.sheet.specs.Inner.Records.{Within}
use Rattle.sheet.specs.declared.fields.Section.{Section}
use Rattle.sheet.specs.declared.fields.Section.TheVariants as section
use Rattle.sheet.specs.declared.fields.Field.{Field}
use Rattle.sheet.specs.Fields.{limit_of}
use Rattle.sheet.specs.Naming.{Entry, row_in, in_range, target, Naming, namers, upwards, entry_naming, row_namings}
use Rattle.sheet.proofs.Laws.Laws.{namers-append}
use Rattle.sheet_marks.specs.Inner.Codes.{code_of, next_code}
use Rattle.sheet_marks.proofs.Laws.Codes.{code-snoc}
use Rattle.sheet_marks.specs.Inner.Marks.{Marks, name_work, row_work}

-- ---- the row that a field names is one of them

module _ (c : Counts) (within : Within c) where
  row-bound : (s : Option Section) (v : ℕ) → v ≤ limit_of c s → row_in s v ≤ sizes.named_rows
  row-bound None v h = omega arith
  row-bound (Some section.Name) v h = omega arith
  row-bound (Some section.Expression) v h = omega (arith, within.few-exprs)
  row-bound (Some section.Statement) v h = omega (arith, within.few-statements)
  row-bound (Some section.Query) v h = omega (arith, within.few-queries)

  pub target-bound : (f : Field) (v : ℕ) → target c f v ≤ sizes.named_rows
  unfolding target
  target-bound f v = go (bool_cases (in_range c f v))
    where
      go : (in_range c f v ≡ true) ⊎ (in_range c f v ≡ false) → target c f v ≤ sizes.named_rows
      go (inl p) = rw p (row-bound f.section v (leb-true v (limit_of c f.section) (and_right (ltb 0 v) _ p)))
      go (inr p) = rw p (omega arith)

-- ---- one naming more

namers-this : (k : ℕ) (x : Naming) → x.to ≡ k → namers k (x ∷ []) ≡ x ∷ []
unfolding namers
namers-this k x e = rw (eq-eqb x.to k e)

namers-other : (k : ℕ) (x : Naming) → (x.to ≡ k → ⊥) → namers k (x ∷ []) ≡ []
unfolding namers
namers-other k x e = rw (ne_eqb x.to k e)

module _ (ns : List Naming) (w : List ℕ) (m : Marks ns w) where
  -- A naming x of a row marks that row anew.
  marks-one : (x : Naming) (v : ℕ) → x.to ≤ sizes.named_rows → v ≡ next_code (get_or w x.to 0) (upwards x.by x.to) x.chain x.place
      → Marks (ns ++ (x ∷ [])) (set w x.to v)
  marks-one x v inside e =
      let r = m.room in
      record {
        room = omega (arith, length-set w x.to v);
        code = λ k h. ⊎_elim
            (λ (q : eqb x.to k ≡ true).
            let s = eqb-true x.to k q in
            subst (λ (j : ℕ). get_or (set w x.to v) j 0 ≡ code_of j (namers j (ns ++ (x ∷ [])))) s (same x v inside e))
            (λ (q : eqb x.to k ≡ false).
            let s = eqb-false x.to k q in
            get_or-set_other w x.to k v 0 (λ z. s (sym z)) ∙ m.code k h
            ∙ sym (ap (code_of k) (namers-append k ns (x ∷ []) ∙ ap (λ (l : List Naming). namers k ns ++ l) (namers-other k x s) ∙ append-nil (namers k ns))))
            (bool_cases (eqb x.to k));
      }
    where
      same : (x : Naming) (v : ℕ) → x.to ≤ sizes.named_rows → v ≡ next_code (get_or w x.to 0) (upwards x.by x.to) x.chain x.place
          → get_or (set w x.to v) x.to 0 ≡ code_of x.to (namers x.to (ns ++ (x ∷ [])))
      same x v inside e =
          let r = m.room in
          get_or-set_same w x.to v 0 (omega arith) ∙ e
          ∙ ap (λ (u : ℕ). next_code u (upwards x.by x.to) x.chain x.place) (m.code x.to (omega arith))
          ∙ sym (ap (code_of x.to) (namers-append x.to ns (x ∷ [])
          ∙ ap (λ (l : List Naming). namers x.to ns ++ l) (namers-this x.to x refl)) ∙ code-snoc x.to (namers x.to ns) x)

module _ (c : Counts) (within : Within c) (by : ℕ) where
  pub marks-name : (ns : List Naming) (w : List ℕ) (e : Entry) → Marks ns w → Marks (ns ++ entry_naming c by e) (name_work c by e w)
  unfolding entry_naming name_work
  marks-name ns w e m = go (bool_cases (eqb (target c e.field e.value) 0))
    where
      go : (eqb (target c e.field e.value) 0 ≡ true) ⊎ (eqb (target c e.field e.value) 0 ≡ false)
          → Marks (ns ++ entry_naming c by e) (name_work c by e w)
      go (inl p) = rw p (subst (λ (l : List Naming). Marks l w) (sym (append-nil ns)) m)
      go (inr p) =
          rw p (marks-one ns w m
          (record { by = by; to = target c e.field e.value; place = e.place; chain = e.field.chain }) _
          (target-bound c within e.field e.value) refl)

  pub marks-row : (es : List Entry) (ns : List Naming) (w : List ℕ) → Marks ns w → Marks (ns ++ row_namings c by es) (row_work c by es w)
  unfolding row_namings row_work
  marks-row [] ns w m = subst (λ (l : List Naming). Marks l w) (sym (append-nil ns)) m
  marks-row (e ∷ es) ns w m =
      subst (λ (l : List Naming). Marks l (row_work c by es (name_work c by e w))) (append_assoc ns (entry_naming c by e) (row_namings c by es))
      (marks-row es (ns ++ entry_naming c by e) (name_work c by e w) (marks-name ns w e m))

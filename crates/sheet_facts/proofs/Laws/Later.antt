-- In an accepted sheet a row names larger rows of its section alone.
use mathlib.Core.Path.{◌≡◌, refl, ap, ◌∙◌, subst}
use mathlib.Core.Bool.{true}
use mathlib.Core.List.{Memᴰ}
use Prim.Native.Nat.{ℕ, zero, suc, ◌≤◌, ◌<◌}
use native.Mathlib.Omega.{arith}
use lib.Dec.{eqb}
use borrow.Author.Tests.{eq-eqb, le-leb, lt-ltb}
use Rattle.sheet.specs.declared.fields.Section.{Section}
use Rattle.std.specs.Prelude.{Option}
use Rattle.base.specs.Limits as limits
use Rattle.base.proofs.Laws.Members.{mem_filter}
use Rattle.sheet.specs.declared.Counts.{Counts}
use Rattle.sheet.specs.Inner.Records.{Within}
use Rattle.sheet.specs.Sheet.{Rows}
use Rattle.sheet.specs.Fields.{expr_section, statement_section, limit_of}
use Rattle.sheet.specs.Naming.{Entry, statement_row, expr_row, row_in, target, expr_entries, statement_entries, Naming, namers, namings}
use Rattle.sheet.specs.Faults.{is_named_so, is_member}
use Rattle.sheet.proofs.Laws.Laws.{only_naming}
use Rattle.sheet_facts.proofs.Laws.Accepted.{FineRows}
use Rattle.sheet.proofs.Laws.Origins.{target_of, naming_of, statement-names, expr-names}
use Rattle.sheet_facts.proofs.Laws.Rows.{fine-expr_row, fine-statement_row}
use Rattle.sheet_facts.proofs.Laws.Enclosed.{up-below}

-- The row that a field in range names.
target_in : (c : Counts) (e : Entry) → 1 ≤ e.value → e.value ≤ limit_of c e.field.section → target_of c e ≡ row_in e.field.section e.value
unfolding target
target_in c e a b = rw (lt-ltb 0 e.value a, le-leb e.value (limit_of c e.field.section) b)

module _ (c : Counts) (t : Rows) (few : Within c) (ok : FineRows c t) where
  -- A row that is named so is named by a smaller one.
  larger : (k to : ℕ) (x : Naming) → x.by ≡ k → x.to ≡ to → limits.most_queries < to → Memᴰ x (namings c t) → is_named_so c t to ≡ true → k < to
  unfolding is_named_so namers
  larger k to x by e h m so =
      let m2 = mem_filter (λ y. eqb y.to to) (namings c t) m (eq-eqb x.to to e) in
      let up = (only_naming to (namers to (namings c t)) so m2).1 in
      subst (λ (j : ℕ). j < to) by (up-below x.by to h up)

  pub expr-later : (r : ℕ) → 1 ≤ r → r ≤ c.exprs → {e : Entry} → Memᴰ e (expr_entries c t (is_member c t r) r)
      → e.field.section ≡ expr_section → 1 ≤ e.value → r < e.value
  expr-later r a b {e} m s v =
      let row = fine-expr_row c t r (ok.fine-expr r a b) in
      let high : e.value ≤ c.exprs = subst (λ (k : Option Section). e.value ≤ limit_of c k) s (row.fields m).in_range in
      let to : target_of c e ≡ expr_row e.value = target_in c e v (row.fields m).in_range ∙ ap (λ (k : Option Section). row_in k e.value) s in
      let named : Memᴰ (naming_of c (expr_row r) e) (namings c t) = at_suc r a b m (λ z. omega arith) in
      let so = (fine-expr_row c t e.value (ok.fine-expr e.value v high)).named in
      let l = larger (expr_row r) (expr_row e.value) (naming_of c (expr_row r) e) refl to (omega arith) named so in
      omega arith
    where
      at_suc : (r : ℕ) → 1 ≤ r → r ≤ c.exprs → {e : Entry} → Memᴰ e (expr_entries c t (is_member c t r) r) → (target_of c e ≡ 0 → ⊥)
          → Memᴰ (naming_of c (expr_row r) e) (namings c t)
      at_suc zero a b m n = absurd (omega arith)
      at_suc (suc r) a b {e} m n = expr-names c t e n r b m

  pub statement-later : (s : ℕ) → 1 ≤ s → s ≤ c.statements → {e : Entry} → Memᴰ e (statement_entries c t s)
      → e.field.section ≡ statement_section → 1 ≤ e.value → s < e.value
  statement-later s a b {e} m sec v =
      let row = fine-statement_row c t s (ok.fine-statement s a b) in
      let high : e.value ≤ c.statements = subst (λ (k : Option Section). e.value ≤ limit_of c k) sec (row.fields m).in_range in
      let to : target_of c e ≡ statement_row e.value = target_in c e v (row.fields m).in_range ∙ ap (λ (k : Option Section). row_in k e.value) sec in
      let named : Memᴰ (naming_of c (statement_row s) e) (namings c t) = at_suc s a b m (λ z. omega arith) in
      let so = (fine-statement_row c t e.value (ok.fine-statement e.value v high)).named in
      let l = larger (statement_row s) (statement_row e.value) (naming_of c (statement_row s) e) refl to (omega arith) named so in
      omega arith
    where
      at_suc : (s : ℕ) → 1 ≤ s → s ≤ c.statements → {e : Entry} → Memᴰ e (statement_entries c t s) → (target_of c e ≡ 0 → ⊥)
          → Memᴰ (naming_of c (statement_row s) e) (namings c t)
      at_suc zero a b m n = absurd (omega arith)
      at_suc (suc s) a b {e} m n = statement-names c t e n s b m

-- Laws of `Facts`.
use mathlib.Core.Path.{◌≡◌, refl}
use mathlib.Core.Bool.{Bool, true, false}
use mathlib.Core.List.{Memᴰ}
use mathlib.Core.Logic.{inl, inr}
use Prim.Native.Nat.{ℕ, zero, suc, ◌≤◌, ◌<◌}
use native.Mathlib.Omega.{arith}
use Rattle.sheet.specs.declared.Counts.{Counts}
use Rattle.sheet.specs.Inner.Records.{Within}
use Rattle.sheet.specs.Sheet.{Rows}
use Rattle.sheet.specs.declared.fields.Field.{Field}
use Rattle.sheet.specs.Fields.{expr_section, limit_of, a_chain, a_statement, or0}
use Rattle.sheet.specs.Naming.{Entry, query_row, statement_row, expr_row, next_field, expr_entry, statement_entry, expr_entries, statement_entries, query_entries}
use Rattle.sheet.specs.Faults.{is_member, first_line}
use Rattle.sheet_facts.proofs.Laws.Accepted.{FineRows, fine-rows}
use Rattle.sheet_facts.proofs.Laws.Rows.{fine-expr_row, fine-statement_row, fine-query_row}
use Rattle.sheet_facts.proofs.Laws.Enclosed.{enclosed}
use Rattle.sheet_facts.proofs.Laws.Levels.{query-nested, first-level, next_level}
use Rattle.sheet_facts.proofs.Laws.Later.{expr-later, statement-later}
use Rattle.sheet_facts.specs.Inner.Facts.{Onward, Part, ExprFacts, StatementFacts, QueryFacts, SheetFacts}

module _ (c : Counts) (t : Rows) where
  module _ (few : Within c) (ok : FineRows c t) where
    onward : (n r next : ℕ) → next ≤ n → (1 ≤ next → r < next) → Onward c t n r next
    onward n r zero l f = inl refl
    onward n r (suc k) l f = inr (f (omega arith), l)

    -- A member's `next` is a field that may be 0, and any other's is 0.
    expr_onward : (b : Bool) (r v : ℕ) → v ≤ limit_of c (next_field b).section
        → ((next_field b).section ≡ expr_section → 1 ≤ v → r < v) → Onward c t c.exprs r v
    expr_onward true r v l f = onward c.exprs r v l (f refl)
    expr_onward false r v l f = inl (omega arith)

    part-facts : (r : ℕ) (a : 1 ≤ r) (b : r ≤ c.exprs) (f : Field) (v : ℕ)
        → Memᴰ (expr_entry c t r f v) (expr_entries c t (is_member c t r) r) → Part c t r f v
    part-facts r a b f v m =
        record { fine = (fine-expr_row c t r (ok.fine-expr r a b)).fields m; later = expr-later c t few ok r a b m }

    expr-facts : (r : ℕ) → 1 ≤ r → r ≤ c.exprs → ExprFacts c t r
    unfolding expr_entries
    expr-facts r a b =
        let row = fine-expr_row c t r (ok.fine-expr r a b) in
        let fourth = Memᴰ.tail (Memᴰ.tail (Memᴰ.tail (Memᴰ.tail (Memᴰ.head refl)))) in
        let last = part-facts r a b (next_field (is_member c t r)) (t.expr r).next fourth in
        record {
          kind_low = row.kind_low;
          kind_high = row.kind_high;
          lying = enclosed c t few ok (expr_row r) (inr (inr (omega arith, omega arith)));
          name = part-facts r a b _ _ (Memᴰ.head refl);
          in_first = part-facts r a b _ _ (Memᴰ.tail (Memᴰ.head refl));
          in_second = part-facts r a b _ _ (Memᴰ.tail (Memᴰ.tail (Memᴰ.head refl)));
          in_third = part-facts r a b _ _ (Memᴰ.tail (Memᴰ.tail (Memᴰ.tail (Memᴰ.head refl))));
          next = expr_onward (is_member c t r) r (t.expr r).next last.fine.in_range last.later;
        }

    statement-facts : (s : ℕ) → 1 ≤ s → s ≤ c.statements → StatementFacts c t s
    unfolding statement_entries
    statement-facts s a b =
        let row = fine-statement_row c t s (ok.fine-statement s a b) in
        let last = Memᴰ.tail (Memᴰ.tail (Memᴰ.tail (Memᴰ.tail (Memᴰ.tail (Memᴰ.head refl))))) in
        record {
          form-low = row.form-low;
          form-high = row.form-high;
          lying = enclosed c t few ok (statement_row s) (inr (inl (omega arith, omega arith)));
          in_query = row.fields (Memᴰ.head refl);
          in_first = row.fields (Memᴰ.tail (Memᴰ.head refl));
          in_second = row.fields (Memᴰ.tail (Memᴰ.tail (Memᴰ.head refl)));
          in_third = row.fields (Memᴰ.tail (Memᴰ.tail (Memᴰ.tail (Memᴰ.head refl))));
          in_with = (row.fields {e = statement_entry c t s (or0 a_chain) (t.statement s).with}
              (Memᴰ.tail (Memᴰ.tail (Memᴰ.tail (Memᴰ.tail (Memᴰ.head refl)))))).in_range;
          next = onward c.statements s (t.statement s).next
              (row.fields {e = statement_entry c t s (or0 a_statement) (t.statement s).next} last).in_range
              (statement-later c t few ok s a b {e = statement_entry c t s (or0 a_statement) (t.statement s).next} last refl);
        }

    query-facts : (q : ℕ) → 1 ≤ q → q ≤ c.queries → QueryFacts c t q
    unfolding query_entries
    query-facts q a b = record {
      in_first = ((fine-query_row c t q (ok.fine-query q a b)).fields {e = query_entry q} (Memᴰ.head refl)).in_range;
      nested = λ h. query-nested c t few ok q h b;
      next-deeper = λ h. next_level c t few ok q h b;
    }
      where
        query_entry : ℕ → Entry
        query_entry q = record { field = or0 a_statement; value = t.query q; place = query_row q }

  -- No line at fault, no row at fault.
  pub sheet-facts : Within c → first_line c t ≡ 0 → (SheetFacts c t)
  sheet-facts few none =
      let ok = fine-rows c t none in
      record { expr = expr-facts few ok; statement = statement-facts few ok; query = query-facts few ok; outer-level = first-level c t few ok }

-- Where the namings of an accepted sheet put their rows.
use mathlib.Core.Path.{◌≡◌, refl, subst}
use mathlib.Core.Bool.{Bool, true, false}
use mathlib.Core.List.{Memᴰ}
use Prim.Native.Nat.{ℕ, ◌≤◌}
use borrow.Author.Tests.{le-leb, lt-ltb}
use Rattle.sheet.specs.declared.fields.Section.{Section}
use Rattle.std.specs.Prelude.{Option}
use Rattle.base.proofs.Laws.Truth.{not-both}
use Rattle.sheet.specs.declared.Counts.{Counts}
use Rattle.sheet.specs.Sheet.{Rows}
use Rattle.sheet.specs.declared.fields.Field.{Field}
use Rattle.sheet.specs.Fields.{query_section, limit_of, a_query, kind_of}
use Rattle.sheet_fields.proofs.Laws.Tables.{HoldsQuery}
use Rattle.sheet.specs.Naming.{Entry, expr_row, target, place_of, next_field, expr_entry, expr_entries}
use Rattle.sheet.specs.Faults.{is_member}
use Rattle.sheet.proofs.Laws.PlaceLaws.{each}
use Rattle.sheet_facts.proofs.Laws.Rows.{FineExpr}
use Rattle.sheet_facts.proofs.Laws.Kinds.{Termed, termed_name, termed_first, termed_second, termed_third}

module _ (c : Counts) (t : Rows) where
  -- A comprehension's query, if it is set.
  target-query : (v : ℕ) → 1 ≤ v → v ≤ c.queries → target c a_query v ≡ v
  unfolding target
  target-query v a b = rw (lt-ltb 0 v a, le-leb v c.queries b)

  -- A part lies where its whole does, and a term in the comprehension's query.
  pub record LiesAt (r : ℕ) (e : Entry) : Type 0 where
    pub part : e.field.term ≡ false → e.place ≡ expr_row r
    pub term : e.field.term ≡ true → (1 ≤ e.place) × (e.place ≤ c.queries)
    pub no_query : e.field.section ≡ query_section → e.field.term ≡ false

  module _ (r : ℕ) (x : FineExpr c t r) where
    kind : ℕ
    kind = (t.expr r).kind

    -- Where the third is a query, it is set.
    third-set : HoldsQuery (kind_of kind).third → (1 ≤ (t.expr r).third) × ((t.expr r).third ≤ c.queries)
    unfolding kind expr_entries
    third-set e =
        let f = x.fields {e = expr_entry c t r (kind_of kind).third (t.expr r).third}
        (Memᴰ.tail (Memᴰ.tail (Memᴰ.tail (Memᴰ.head refl)))) in
        (f.is_set e.1, subst (λ (s : Option Section). (t.expr r).third ≤ limit_of c s) e.0 f.in_range)

    lies : (f : Field) (v : ℕ) → Termed kind f → LiesAt r (expr_entry c t r f v)
    unfolding place_of
    lies f v h = record {
      part = λ p. rw p;
      term = λ p. let s = third-set (h.third-is_query p) in rw (p, target-query (t.expr r).third s.0 s.1) s;
      no_query = h.query_is_no_term;
    }

    next-lies : (b : Bool) (v : ℕ) → LiesAt r (expr_entry c t r (next_field b) v)
    unfolding place_of
    next-lies true v = record { part = λ p. refl; term = λ p. absurd (not-both p refl); no_query = λ p. refl }
    next-lies false v = record { part = λ p. refl; term = λ p. absurd (not-both p refl); no_query = λ p. refl }

    pub expr-place : {e : Entry} → Memᴰ e (expr_entries c t (is_member c t r) r) → LiesAt r e
    unfolding expr_entries kind
    expr-place m =
        each (LiesAt r) _ (
          lies _ _ (termed_name kind),
          (
            lies _ _ (termed_first kind),
            (lies _ _ (termed_second kind), (lies _ _ (termed_third kind), (next-lies (is_member c t r) (t.expr r).next, tt))),
          ),
        ) m

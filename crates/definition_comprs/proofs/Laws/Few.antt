-- An expression has no more comprehensions than its sheet has queries: each row is named at most once, and an expression by an earlier one.
use mathlib.Core.Path.{◌≡◌, refl, sym, ap, ◌∙◌, subst}
use mathlib.Core.Bool.{Bool, true, false, cond}
use mathlib.Core.List.{List, [], ◌∷◌}
use mathlib.Core.Logic.{◌⊎◌, inl, inr}
use Prim.Native.Nat.{ℕ, zero, suc, ◌+◌, ◌-◌, ◌≤◌, ◌<◌}
use native.Mathlib.Omega.{arith}
use lib.Dec.{eqb, ltb}
use lib.ListN.{length}
use borrow.Author.Tests.{lt-ltb, le-ltb, eq-eqb, ne_eqb}
use Rattle.std.specs.Prelude.{Option}
use Rattle.sheet.specs.declared.fields.Section.{Section}
use Rattle.base.specs.Limits as limits
use Rattle.base.proofs.Laws.Truth.{bool_cases, lt_cases, eq_cases}
use Rattle.sheet.specs.declared.Row.{Row}
use Rattle.sheet.specs.Inner.Sheet.{row_at}
use Rattle.sheet.specs.Inner.Records.{expr_at}
use Rattle.sheet.specs.Inner.Rows.{in_tables}
use Rattle.sheet.specs.Fields.{limit_of, kind_of}
use Rattle.sheet.specs.Kinds.{is_compr}
use Rattle.sheet.specs.Naming.{Entry, expr_row, row_in, expr_entry, expr_entries, namings}
use Rattle.sheet.proofs.Laws.Origins.{target_of}
use Rattle.sheet_facts.proofs.Laws.Accepted.{FineRows, fine-rows}
use Rattle.scope.specs.Trees.{third_of}
use Rattle.scope.specs.Traverse.{Child, children_of}
use Rattle.scope.proofs.Laws.Children.{of_children}
use Rattle.scope_walk.specs.Inner.Kids.{kids_by, kids_of}
use Rattle.scope_walk.proofs.Laws.Kids.{compr_enters_nothing}
use Rattle.scope_walk.specs.Inner.Sheets.{counts_at, Accepted, expr_count, query_count}
use Rattle.scope_walk.specs.Inner.Exprs.{expr_by}
use Rattle.scope_walk.proofs.Laws.Descent.{OnwardTo}
use Rattle.scope_walk.proofs.Laws.RowTrees.{row_descends}
use Rattle.definition_room.specs.Inner.Sums.{sum_to}
use Rattle.definition_room.proofs.Laws.Homes.{compr_opens}
use Rattle.definition_room.proofs.Laws.Once.{expr-once, query-once}
use Rattle.definition_room.proofs.Laws.Sums.{sum_mono, sum_add, sum_at, valued, valued-at, named-once}
use Rattle.definition_room.proofs.Laws.Worth.{row_worth, expr_worth, entry_worth, worth-namings}
use Rattle.definition_room.proofs.Laws.Named.{expr_value, expr-worth, target_row}
use Rattle.definition_room.proofs.Laws.Parts.{parts_at}
use Rattle.definition_comprs.specs.Inner.Lists.{Lists, comprs_by, AtRow, AtRows, both_at, ListsBoth}
use Rattle.definition_comprs.proofs.Laws.Queries.{query-field}
use Rattle.definition_comprs.proofs.Laws.Lists.{no_comprs, row_counts_lem, lists_then, lists_in}

ones : (n : ℕ) → sum_to (λ r. 1) n ≡ n
unfolding sum_to
ones zero = refl
ones (suc n) = omega (arith, ones n)

one_or_none : {A : Type 0} (x : A) (b : Bool) → length (cond b (x ∷ []) []) ≡ cond b 1 0
one_or_none x true = refl
one_or_none x false = refl

-- What is entered is among the fields.
module _ (g : ℕ → ℕ) (none : g 0 ≡ 0) (w : Row) (n : ℕ) where
  abbrev Fits : ℕ → List Child → Type 0
  Fits third ks = g (kids_by ks w).first + (g (kids_by ks w).second + (g (kids_by ks w).third + n)) ≤ g w.first + (g w.second + (g third + n))

  kids_fit : g (kids_of w).first + (g (kids_of w).second + (g (kids_of w).third + n)) ≤ g w.first + (g w.second + (g (third_of w) + n))
  unfolding kids_of
  kids_fit = go (bool_cases (is_compr w))
    where
      go : (is_compr w ≡ true) ⊎ (is_compr w ≡ false) → Fits (third_of w) (children_of w)
      go (inl p) = subst (Fits (third_of w)) (sym (compr_enters_nothing w p)) (omega (arith, none))
      go (inr p) =
          let third : w.third ≡ third_of w = rw p in
          subst (λ (v : ℕ). Fits v (children_of w)) third
          (of_children (Fits w.third) (omega (arith, none)) (omega (arith, none)) (omega (arith, none)) (omega (arith, none)) (omega arith) w.kind)

module _ (t : List ℕ) (ok : Accepted t) where
  abbrev fine : FineRows (counts_at t) (in_tables t)
  fine = fine-rows (counts_at t) (in_tables t) ok.fine

  -- ---- comprehensions of the sheet

  -- Is row r one?
  abbrev here : ℕ → ℕ
  here r = cond (is_compr (row_at t r)) 1 0

  -- The queries but the first, each worth one.
  abbrev queries : ℕ → ℕ
  queries = valued 1 (λ r. 1) (query_count t - 1)

  -- A comprehension names one.
  names-query : (r : ℕ) → 1 ≤ r → r ≤ expr_count t → is_compr (row_at t r) ≡ true → 1 ≤ expr_worth (counts_at t) queries t r
  unfolding expr_worth row_worth expr_entries row_at
  names-query r a b is =
      let x = expr_at t r in
      let o = compr_opens (counts_at t) t ok.within ok.fine _ r a b refl is in
      let field = (query-field x.kind is).0 in
      let e : Entry = expr_entry (counts_at t) (in_tables t) r (kind_of x.kind).third x.third in
      let within : x.third ≤ limit_of (counts_at t) (kind_of x.kind).third.section = rw field o.in_sheet in
      let to : target_of (counts_at t) e ≡ x.third = target_row (counts_at t) (expr_row r) e (omega (arith, o.nests.not_first)) within ∙ ap (λ (i : Option Section). row_in i x.third) field in
      let same : 1 + (x.third - 1) ≡ x.third = omega (arith, o.nests.not_first) in
      omega (
        arith,
        entry_worth (counts_at t) queries (expr_row r) e x.third to (omega (arith, o.nests.not_first)),
        valued-at 1 (λ r. 1) (query_count t - 1) (x.third - 1) (omega (arith, o.nests.not_first)) (omega (arith, o.in_sheet)),
        ap queries same,
      )

  here-few : (r : ℕ) → 1 ≤ r → r ≤ expr_count t → here r ≤ expr_worth (counts_at t) queries t r
  here-few r a b = go (bool_cases (is_compr (row_at t r)))
    where
      go : (is_compr (row_at t r) ≡ true) ⊎ (is_compr (row_at t r) ≡ false) → here r ≤ expr_worth (counts_at t) queries t r
      go (inl is) = rw is (names-query r a b is)
      go (inr n) = rw n (omega arith)

  -- So there are no more than queries.
  all-few : sum_to here (expr_count t) ≤ query_count t
  all-few =
      omega (
        arith,
        sum_mono here (expr_worth (counts_at t) queries t) (expr_count t) here-few,
        worth-namings (counts_at t) queries t,
        named-once 1 (λ r. 1) (query_count t - 1) (namings (counts_at t) (in_tables t)) (λ r a b. query-once (counts_at t) t fine (1 + r) (omega arith) (omega arith)),
        ones (query_count t - 1),
      )

  -- ---- those of one expression

  -- How many are at a row.
  abbrev counts : ℕ → ℕ
  counts r = length (comprs_by t true r)

  counts-none : counts 0 ≡ 0
  counts-none = ap length (no_comprs t ok true 0 refl)

  -- They are the row itself, and those of the parts.
  counts-row : (r : ℕ) → 1 ≤ r → r ≤ expr_count t → counts r ≤ here r + parts_at t counts r
  unfolding parts_at row_at kids_of
  counts-row r a b =
      let w = row_at t r in
      omega (
        arith,
        row_counts_lem t ok r (λ z. omega arith) b w refl true (kids_of w) refl w.next refl,
        kids_fit counts counts-none w (counts w.next),
        one_or_none (expr_by t false r) (is_compr w),
      )

  module _ (row : ℕ) (there : 1 ≤ row) (high : row ≤ expr_count t) where
    -- Those at later rows, and at this one.
    later : ℕ → ℕ
    later r = cond (ltb row r) (counts r) 0

    itself : ℕ → ℕ
    itself r = cond (eqb r row) (counts row) 0

    later-none : later 0 ≡ 0
    unfolding later
    later-none = rw (le-ltb row 0 (omega arith))

    -- A part of this row, or of a later one, is a later row.
    part-later : (r v : ℕ) → row ≤ r → OnwardTo (expr_count t) r v → counts v ≤ later v
    unfolding later
    part-later r v l (inl z) = omega (arith, ap counts z, counts-none)
    part-later r v l (inr o) = rw (lt-ltb row v (omega (arith, o.0))) (omega arith)

    parts-later : (r : ℕ) → row ≤ r → r ≤ expr_count t → parts_at t counts r ≤ parts_at t later r
    unfolding parts_at row_at
    parts-later r l h =
        let d = row_descends (counts_at t) t ok.facts r (omega arith) h in
        omega (
          arith,
          part-later r _ l d.to-first,
          part-later r _ l d.to-second,
          part-later r _ l d.to-third,
          part-later r _ l d.to-next,
        )

    abbrev named : ℕ → ℕ
    named = expr_worth (counts_at t) (expr_value (counts_at t) later) t

    each_fits : (r : ℕ) → 1 ≤ r → r ≤ expr_count t → later r + itself r ≤ here r + named r
    unfolding later itself
    each_fits r a b = go (lt_cases r row) (eq_cases r row)
      where
        whole : row ≤ r → counts r ≤ here r + named r
        whole l = omega (arith, counts-row r a b, parts-later r l b, expr-worth (counts_at t) later t later-none fine r a b)

        go : (r < row) ⊎ (row ≤ r) → (r ≡ row) ⊎ (r ≡ row → ⊥) → cond (ltb row r) (counts r) 0 + cond (eqb r row) (counts row) 0 ≤ here r + named r
        go (inl l) e = rw (le-ltb row r (omega arith), ne_eqb r row (λ z. omega arith)) (omega arith)
        go (inr l) (inl e) = rw (le-ltb row r (omega arith), eq-eqb r row e) (omega (arith, whole l, ap counts e))
        go (inr l) (inr e) = rw (lt-ltb row r (omega arith), ne_eqb r row e) (omega (arith, whole l))

    counts-fit : counts row ≤ query_count t
    unfolding expr_value itself
    counts-fit =
        let own : counts row ≤ itself row = rw (eq-eqb row row refl) (omega arith) in
        omega (
          arith,
          own,
          sum_at itself (expr_count t) row there high,
          sum_add later itself (expr_count t),
          sum_mono (λ r. later r + itself r) (λ r. here r + named r) (expr_count t) each_fits,
          sum_add here named (expr_count t),
          worth-namings (counts_at t) (expr_value (counts_at t) later) t,
          named-once 160 later (expr_count t) (namings (counts_at t) (in_tables t)) (expr-once (counts_at t) t fine),
          all-few,
        )

    -- Without the rest of the chain there are no more.
    alone_fewer : (rest : Bool) → length (comprs_by t rest row) ≤ counts row
    alone_fewer true = omega arith
    alone_fewer false =
        let w = row_at t row in
        let some : row ≡ 0 → ⊥ = λ z. omega arith in
        omega (
          arith,
          row_counts_lem t ok row some high w refl false (kids_of w) refl 0 refl,
          row_counts_lem t ok row some high w refl true (kids_of w) refl w.next refl,
          counts-none,
        )

  pub few-comprs : (rest : Bool) (row : ℕ) → row ≤ expr_count t → length (comprs_by t rest row) ≤ limits.most_queries
  few-comprs rest row high = go (lt_cases 0 row)
    where
      go : (0 < row) ⊎ (row ≤ 0) → length (comprs_by t rest row) ≤ limits.most_queries
      go (inl l) = omega (arith, alone_fewer row l high rest, counts-fit row l high, ok.within.few-queries)
      go (inr l) = omega (arith, ap length (no_comprs t ok rest row (omega arith)))

-- ---- of two expressions

pub lists_both : (t : List ℕ) → Accepted t → (rest : Bool) (one two : ℕ) → one ≤ expr_count t → two ≤ expr_count t → (a b c : List ℕ) (mid end : ℕ)
    → Lists t (AtRow t one) (comprs_by t rest one) a 0 b mid → Lists t (AtRow t two) (comprs_by t true two) b mid c end → ListsBoth t rest one two c end
lists_both t ok rest one two low high a b c mid end h g =
    let Both = AtRows t one two in
    let first = lists_in t (AtRow t one) Both (λ q o. o.0) (comprs_by t rest one) a b 0 mid h in
    let second = lists_in t (AtRow t two) Both (λ q o. o.1) (comprs_by t true two) b c mid end g in
    let all = lists_then t Both (comprs_by t rest one) (comprs_by t true two) a b c 0 mid end first second in
    let n : end ≡ length (both_at t rest one two) = omega (arith, all.end_is) in
    record {
      fits = omega (arith, h.end_is, g.end_is, few-comprs t ok rest one low, few-comprs t ok true two high);
      expressions = rw n all.expressions;
      comprehensions = all.rows;
    }

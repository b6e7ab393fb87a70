-- Laws of `Asked`.
use mathlib.Core.Path.{◌≡◌, refl, ap, ap₂, ◌∙◌}
use mathlib.Core.Bool.{true, false, cond}
use mathlib.Core.List.{List, [], ◌∷◌, map}
use mathlib.Core.Logic.{◌⊎◌, inl, inr}
use Prim.Native.Nat.{ℕ, suc, ◌+◌, ◌≤◌}
use native.Mathlib.Omega.{arith}
use lib.Dec.{eqb, ltb}
use lib.ListN.{length, get_or, length-replicate}
use lib.Seq.{sets}
use borrow.Author.Tests.{ltb-false, eqb-true, eqb-false}
use Rattle.base.specs.Limits as limit
use Rattle.base.specs.Limits.{Limits}
use Rattle.base.proofs.Laws.Truth.{bool_cases}
use Rattle.names_width.specs.declared.Width.{Width}
use Rattle.names_width.specs.Widths.{limits}
use Rattle.names_width.proofs.Laws.Laws as widths
use Rattle.sheet.specs.Text.{bytes}
use Rattle.sheet.specs.Form.{line_of, same}
use Rattle.sheet.proofs.Laws.SectionLaws.{line-some}
use Rattle.sheet.specs.Questions.{name_row, most_rows, over_line, no_query_line, count_fault, form_fault, counts_fault, section_rows, row_counts, row_of_name, sheet_names}
use Rattle.sheet.specs.Tables.{tables}
use Rattle.sheet_form.specs.Inner.Reads.{SheetIs}
use Rattle.sheet.specs.declared.Counts.{Counts}
use Rattle.sheet.specs.Inner.Records.{Within}
use Rattle.sheet.specs.declared.Special.{Special}
use Rattle.sheet_names.specs.Inner.Names.{SpecialRead}
use Rattle.sheet.specs.Inner.Rows.{in_tables}
use Rattle.sheet.specs.Faults.{listed, first_line}
use Rattle.sheet.specs.Verdict.{empty_tables, read_counts, fields_fault, head_of, read_special, read_tables}
use Rattle.sheet_read.proofs.Laws.ReadRows.{fields-in_tables}
use Rattle.sheet_read.specs.Inner.Asked.{Small}

-- ---- counts in bounds

pub over_line-none : (ks : List ℕ) (k most : ℕ) (more : List ℕ) → over_line ks k (most ∷ more) ≡ 0
    → (get_or ks k 0 ≤ most) × (over_line ks (suc k) more ≡ 0)
unfolding over_line
over_line-none ks k most more h = go (bool_cases (ltb most (get_or ks k 0)))
  where
    go : (ltb most (get_or ks k 0) ≡ true) ⊎ (ltb most (get_or ks k 0) ≡ false) → (get_or ks k 0 ≤ most) × (over_line ks (suc k) more ≡ 0)
    go (inl p) = let z : line_of ks k (most + 1) ≡ 0 = rw p at h in absurd (omega (arith, line-some ks k (most + 1)))
    go (inr p) = (ltb-false most (get_or ks k 0) p, rw p at h)

-- No section has too many rows, and there is a query.
pub counts-fine : (lim : Limits) (ks : List ℕ) → count_fault lim ks ≡ 0 → (over_line ks 0 (most_rows lim) ≡ 0) × (no_query_line ks ≡ 0)
unfolding count_fault
counts-fine lim ks h = go (bool_cases (eqb (over_line ks 0 (most_rows lim)) 0))
  where
    go : (eqb (over_line ks 0 (most_rows lim)) 0 ≡ true) ⊎ (eqb (over_line ks 0 (most_rows lim)) 0 ≡ false)
        → (over_line ks 0 (most_rows lim) ≡ 0) × (no_query_line ks ≡ 0)
    go (inl p) = (eqb-true _ 0 p, rw p at h)
    go (inr p) = let z : over_line ks 0 (most_rows lim) ≡ 0 = rw p at h in absurd (eqb-false _ 0 p z)

-- As many names as the limits say, at most.
pub names_in : (lim : Limits) (ks : List ℕ) → count_fault lim ks ≡ 0 → get_or ks 0 0 ≤ lim.names
names_in lim ks h = (over_line-none ks 0 lim.names _ (counts-fine lim ks h).0).0

no_query : (ks : List ℕ) → no_query_line ks ≡ 0 → get_or ks 4 0 ≡ 0 → ⊥
unfolding no_query_line
no_query ks h z = let l : line_of ks 4 0 ≡ 0 = rw z at h in absurd (omega (arith, line-some ks 4 0))

-- The counts of rows in five sections.
abbrev pub as_counts : List ℕ → Counts
as_counts ks = record {
  names = get_or ks 0 0;
  builtins = get_or ks 1 0;
  exprs = get_or ks 2 0;
  statements = get_or ks 3 0;
  queries = get_or ks 4 0;
}

-- Whatever the width, the bounds between the questions are kept.
pub counts-within : (w : Width) (ks : List ℕ) → count_fault (limits w) ks ≡ 0 → Within (as_counts ks)
counts-within w ks h =
    let none = counts-fine (limits w) ks h in
    let first = over_line-none ks 0 _ _ none.0 in
    let second = over_line-none ks 1 _ _ first.1 in
    let third = over_line-none ks 2 _ _ second.1 in
    let fourth = over_line-none ks 3 _ _ third.1 in
    let fifth = over_line-none ks 4 _ _ fourth.1 in
    let some = no_query ks none.1 in
    record {
      few-names = omega (arith, first.0, widths.few-names w);
      few-builtins = second.0;
      few-exprs = third.0;
      few-statements = fourth.0;
      few-queries = fifth.0;
      some-query = omega arith;
    }

-- ---- the special names' rows

name_row-low : (n : ℕ) (w : List ℕ) (ls : List (List ℕ)) → name_row (suc n) w ls ≤ n + length ls
unfolding name_row
name_row-low n w [] = omega arith
name_row-low n w (l ∷ ls) = go (bool_cases (same l w)) (name_row-low (suc n) w ls)
  where
    go : (same l w ≡ true) ⊎ (same l w ≡ false) → name_row (suc (suc n)) w ls ≤ suc n + length ls
        → cond (same l w) (suc n) (name_row (suc (suc n)) w ls) ≤ n + suc (length ls)
    go (inl p) h = rw p (omega arith)
    go (inr p) h = rw p (omega arith)

first_count : (rs : List (List (List ℕ))) → get_or (map length rs) 0 0 ≡ length (get_or rs 0 [])
first_count [] = refl
first_count (ls ∷ rs) = refl

module _ (s : List ℕ) (few : get_or (row_counts s) 0 0 ≤ (limit.library).names) where
  row_low : (w : List ℕ) → row_of_name s w ≤ (limit.library).names
  unfolding row_of_name
  row_low w = let h = name_row-low 0 w (sheet_names s) in omega (arith, first_count (section_rows s))

  pub small : (x : Special) → SpecialRead s x → Small x
  small x r = record {
    blank = rw r.blank (row_low (bytes "_"));
    input = rw r.input (row_low (bytes "input"));
    «data» = rw r.«data» (row_low (bytes "data"));
  }

-- ---- what is read

pub blank-room : (d : List ℕ) → d ≡ empty_tables → limit.table_entries ≤ length d
unfolding empty_tables
blank-room d is = let n : length d ≡ limit.table_entries = ap length is ∙ length-replicate {A = ℕ} limit.table_entries 0 in omega arith

module _ (s d : List ℕ) (c : Counts) (e : List ℕ) (is : d ≡ empty_tables) (k : SheetIs s d c e) where
  pub counts_are : c ≡ read_counts s
  counts_are = ap as_counts k.count

  pub asked_few_names : c.names ≤ (limit.library).names → get_or (row_counts s) 0 0 ≤ (limit.library).names
  asked_few_names h = let n : c.names ≡ get_or (row_counts s) 0 0 = ap (λ (ks : List ℕ). get_or ks 0 0) k.count in omega arith

  rows_are : e ≡ tables s empty_tables
  rows_are = k.table ∙ ap (tables s) is

  pub counts_fault-is : (lim : Limits) → count_fault lim (listed c) ≡ counts_fault lim s
  unfolding counts_fault
  counts_fault-is lim = ap (count_fault lim) k.count

  -- With the head in front.
  module _ (x : Special) (special : SpecialRead s x) (t : List ℕ) (headed : t ≡ sets e 0 (head_of c x)) where
    pub tables_are : t ≡ read_tables s
    unfolding read_tables
    tables_are =
        headed
        ∙ rw (special.blank, special.input, special.«data») (ap₂ (λ (l : List ℕ) (c : Counts). sets l 0 (head_of c (read_special s))) rows_are counts_are)

    pub fields_fault-is : (w : Width) → form_fault s ≡ 0 → counts_fault (limits w) s ≡ 0 → first_line c (in_tables t) ≡ fields_fault s
    unfolding counts_fault
    fields_fault-is w formed counted =
        ap₂ (λ (c : Counts) (d : List ℕ). first_line c (in_tables d)) counts_are tables_are ∙ fields-in_tables s formed (counts-within w (row_counts s) counted)

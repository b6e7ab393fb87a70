-- A sheet that is read stands in the tables, and the tables are accepted.
use mathlib.Core.Path.{◌≡◌, sym, ap, subst, ◌∙◌}
use mathlib.Core.Bool.{true, false, ◌&&◌}
use mathlib.Core.List.{List, ◌++◌}
use mathlib.Core.Logic.{◌⊎◌, inl, inr}
use Prim.Native.Nat.{ℕ, ◌≤◌}
use native.Mathlib.Omega.{arith}
use lib.Dec.{leb}
use lib.ListN.{length, get_or, drop, length-replicate}
use lib.Seq.{sets-eq, length-sets}
use borrow.Author.Tests.{leb-true}
use Rattle.base.specs.Limits as limit
use Rattle.base.proofs.Laws.Truth.{bool_cases, and_left, and_right}
use Rattle.names_width.specs.declared.Width.{Width}
use Rattle.names_width.specs.Widths.{limits}
use Rattle.names_width.specs.Inner.Widths.{names, work}
use Rattle.sheet.specs.Tables.{tables}
use Rattle.sheet.proofs.Laws.TableLaws.{length-put_sections}
use Rattle.sheet.specs.declared.Counts.{Counts}
use Rattle.sheet.specs.Inner.Records.{Within}
use Rattle.sheet.specs.Inner.Rows.{in_tables}
use Rattle.sheet.specs.Faults.{first_line}
use Rattle.sheet_facts.proofs.Laws.Facts.{sheet-facts}
use Rattle.std.specs.Prelude.{Ok, Err}
use Rattle.sheet.specs.declared.Refusal.TheVariants.{NoRoom}
use Rattle.sheet.specs.Verdict.{empty_tables, head_of, read_counts, read_special, read_tables, Outcome, verdict}
use Rattle.sheet_read.proofs.Laws.Passed.{verdict_read}
use Rattle.sheet.specs.Sheet.{sheet_in}
use Rattle.sheet.specs.Inner.Sheet.{sheet_of}
use Rattle.scope_walk.specs.Inner.Sheets.{counts_at, sheet_at, Accepted}

module _ (s : List ℕ) where
  rows_long : length (tables s empty_tables) ≡ limit.table_entries
  unfolding tables empty_tables
  rows_long = length-put_sections _ _ empty_tables ∙ length-replicate {A = ℕ} limit.table_entries 0

  pub tables-long : length (read_tables s) ≡ limit.table_entries
  unfolding read_tables
  tables-long = length-sets (tables s empty_tables) 0 (head_of (read_counts s) (read_special s)) ∙ rows_long

  headed : read_tables s ≡ head_of (read_counts s) (read_special s) ++ drop 8 (tables s empty_tables)
  unfolding read_tables
  headed = sets-eq (head_of (read_counts s) (read_special s)) (tables s empty_tables) 0 (omega (arith, rows_long))

  counts_same : counts_at (read_tables s) ≡ read_counts s
  counts_same = ap counts_at headed

  -- The head says how many rows there are, and the special names.
  at_head : sheet_at (read_tables s) ≡ sheet_of (read_counts s) (read_special s) (read_tables s)
  unfolding sheet_at
  at_head = rw headed

  module _ (w : Width) (room long : ℕ) (h : verdict (limits w) s room long ≡ Ok tt) where
    -- Question 1.
    pub enough : (limit.table_entries ≤ room) × (work w ≤ long)
    unfolding verdict
    enough = go (bool_cases (leb limit.table_entries room && leb (work w) long))
      where
        go : ((leb limit.table_entries room && leb (work w) long) ≡ true) ⊎ ((leb limit.table_entries room && leb (work w) long) ≡ false) → (limit.table_entries ≤ room) × (work w ≤ long)
        go (inl e) = (leb-true limit.table_entries room (and_left _ _ e), leb-true (work w) long (and_right (leb limit.table_entries room) _ e))
        go (inr e) = let f : ◌≡◌ {A = Outcome} (Err NoRoom) (Ok tt) = rw e at h in absurd cc

    -- Question 5.
    pub read_few_names : get_or (read_tables s) 0 0 ≤ names w
    read_few_names = subst (λ (c : Counts). c.names ≤ names w) (sym counts_same) (verdict_read w s room long h).few-names

    -- The sheet in the tables is the one that the bytes give.
    pub sheet-same : sheet_at (read_tables s) ≡ sheet_in s
    sheet-same = at_head ∙ (verdict_read w s room long h).sheet-is

    pub read_accepted : Accepted (read_tables s)
    read_accepted =
        let p = verdict_read w s room long h in
        let few : Within (counts_at (read_tables s)) = subst Within (sym counts_same) p.few in
        let fine : first_line (counts_at (read_tables s)) (in_tables (read_tables s)) ≡ 0 = ap (λ (c : Counts). first_line c (in_tables (read_tables s))) counts_same ∙ p.fine in
        record { room = omega (arith, tables-long); within = few; facts = sheet-facts _ _ few fine; fine = fine }

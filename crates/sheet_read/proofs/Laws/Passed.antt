-- A sheet that is read has passed the questions: its counts are in bounds, and no row is at fault.
use mathlib.Core.Path.{◌≡◌, ◌∙◌}
use mathlib.Core.Bool.{true, false, cond, ◌&&◌}
use mathlib.Core.List.{List}
use mathlib.Core.Logic.{◌⊎◌, inl, inr}
use Prim.Native.Nat.{ℕ, ◌≤◌}
use lib.Dec.{eqb, leb}
use borrow.Author.Tests.{eqb-true}
use Rattle.base.specs.Limits as limit
use Rattle.base.specs.Limits.{Limits}
use Rattle.base.proofs.Laws.Truth.{bool_cases}
use Rattle.names_width.specs.declared.Width.{Width}
use Rattle.names_width.specs.Widths.{limits}
use Rattle.names_width.specs.Inner.Widths.{work}
use Rattle.sheet.specs.Questions.{short_enough, form_fault, names_fault, counts_fault, row_counts}
use Rattle.sheet.specs.Inner.Records.{Within}
use Rattle.sheet.specs.Inner.Rows.{in_tables}
use Rattle.sheet.specs.Faults.{first_line}
use Rattle.sheet.specs.Sheet.{sheet_in}
use Rattle.sheet.specs.Inner.Sheet.{sheet_of}
use Rattle.std.specs.Prelude.{Ok, Err}
use Rattle.sheet.specs.declared.Refusal.TheVariants.{NoRoom, TooLong, BadForm, BadName, BadCount, BadField}
use Rattle.sheet.specs.Verdict.{Outcome, read_counts, read_special, read_tables, fields_fault, asked, verdict}
use Rattle.sheet_read.proofs.Laws.Asked.{counts-within, names_in}
use Rattle.sheet_read.proofs.Laws.ReadRows.{fields-in_tables, sheet_in-tables}

pub record Passed (lim : Limits) (s : List ℕ) : Type 0 where
  pub few : Within (read_counts s)
  pub few-names : (read_counts s).names ≤ lim.names
  pub fine : first_line (read_counts s) (in_tables (read_tables s)) ≡ 0
  pub sheet-is : sheet_of (read_counts s) (read_special s) (read_tables s) ≡ sheet_in s

module _ (w : Width) (s : List ℕ) where
  passed : form_fault s ≡ 0 → counts_fault (limits w) s ≡ 0 → fields_fault s ≡ 0 → Passed (limits w) s
  unfolding counts_fault
  passed formed counted held =
      let few = counts-within w (row_counts s) counted in
      record {
        few = few;
        few-names = names_in (limits w) (row_counts s) counted;
        fine = fields-in_tables s formed few ∙ held;
        sheet-is = sheet_in-tables s formed few;
      }

  asked_read : asked (limits w) s ≡ Ok (tt {0}) → Passed (limits w) s
  unfolding asked
  asked_read h = short (bool_cases (short_enough s))
    where
      last : form_fault s ≡ 0 → (eqb (counts_fault (limits w) s) 0 ≡ true) → (cond (eqb (fields_fault s) 0) (Ok (tt {0})) (Err (BadField (fields_fault s)))) ≡ Ok (tt {0})
          → (eqb (fields_fault s) 0 ≡ true) ⊎ (eqb (fields_fault s) 0 ≡ false) → Passed (limits w) s
      last z c g (inl e) = passed z (eqb-true (counts_fault (limits w) s) 0 c) (eqb-true (fields_fault s) 0 e)
      last z c g (inr e) = let f : ◌≡◌ {A = Outcome} (Err (BadField (fields_fault s))) (Ok (tt {0})) = rw e at g in absurd cc

      fifth : form_fault s ≡ 0 → (cond (eqb (counts_fault (limits w) s) 0) (cond (eqb (fields_fault s) 0) (Ok (tt {0})) (Err (BadField (fields_fault s)))) (Err (BadCount (counts_fault (limits w) s)))) ≡ Ok (tt {0})
          → (eqb (counts_fault (limits w) s) 0 ≡ true) ⊎ (eqb (counts_fault (limits w) s) 0 ≡ false) → Passed (limits w) s
      fifth z g (inl e) = last z e (rw e at g) (bool_cases (eqb (fields_fault s) 0))
      fifth z g (inr e) = let f : ◌≡◌ {A = Outcome} (Err (BadCount (counts_fault (limits w) s))) (Ok (tt {0})) = rw e at g in absurd cc

      rest : Outcome
      rest = cond (eqb (counts_fault (limits w) s) 0) (cond (eqb (fields_fault s) 0) (Ok (tt {0})) (Err (BadField (fields_fault s)))) (Err (BadCount (counts_fault (limits w) s)))

      fourth : form_fault s ≡ 0 → (cond (eqb (names_fault s) 0) rest (Err (BadName (names_fault s)))) ≡ Ok (tt {0})
          → (eqb (names_fault s) 0 ≡ true) ⊎ (eqb (names_fault s) 0 ≡ false) → Passed (limits w) s
      fourth z g (inl e) = fifth z (rw e at g) (bool_cases (eqb (counts_fault (limits w) s) 0))
      fourth z g (inr e) = let f : ◌≡◌ {A = Outcome} (Err (BadName (names_fault s))) (Ok (tt {0})) = rw e at g in absurd cc

      third : (cond (eqb (form_fault s) 0) (cond (eqb (names_fault s) 0) rest (Err (BadName (names_fault s)))) (Err (BadForm (form_fault s)))) ≡ Ok (tt {0})
          → (eqb (form_fault s) 0 ≡ true) ⊎ (eqb (form_fault s) 0 ≡ false) → Passed (limits w) s
      third g (inl e) = fourth (eqb-true (form_fault s) 0 e) (rw e at g) (bool_cases (eqb (names_fault s) 0))
      third g (inr e) = let f : ◌≡◌ {A = Outcome} (Err (BadForm (form_fault s))) (Ok (tt {0})) = rw e at g in absurd cc

      short : (short_enough s ≡ true) ⊎ (short_enough s ≡ false) → Passed (limits w) s
      short (inl e) = third (rw e at h) (bool_cases (eqb (form_fault s) 0))
      short (inr e) = let f : ◌≡◌ {A = Outcome} (Err TooLong) (Ok (tt {0})) = rw e at h in absurd cc

  pub verdict_read : (room long : ℕ) → verdict (limits w) s room long ≡ Ok (tt {0}) → Passed (limits w) s
  unfolding verdict
  verdict_read room long h = go (bool_cases (leb limit.table_entries room && leb (work w) long))
    where
      go : ((leb limit.table_entries room && leb (work w) long) ≡ true) ⊎ ((leb limit.table_entries room && leb (work w) long) ≡ false) → Passed (limits w) s
      go (inl e) = asked_read (rw e at h)
      go (inr e) = let f : ◌≡◌ {A = Outcome} (Err NoRoom) (Ok (tt {0})) = rw e at h in absurd cc

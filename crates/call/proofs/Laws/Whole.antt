-- The whole call as the code makes it: each way out, by what the questions put to the sheet left.
use mathlib.Core.Path.{◌≡◌, refl, sym, ap, subst, ◌∙◌}
use mathlib.Core.List.{List, ◌++◌}
use Prim.Native.Nat.{ℕ, ◌-◌, ◌≤◌}
use native.Mathlib.Omega.{arith}
use lib.ListN.{length, get_or, take, replicate, length-append, length-replicate}
use lib.Seq.{take_at}
use Rattle.base.specs.Limits as limit
use Rattle.base.specs.Limits.{Limits}
use Rattle.names_width.specs.declared.Width.{Width}
use Rattle.names_width.specs.Widths.{limits}
use Rattle.names_width.specs.Inner.Widths.{names, work}
use Rattle.std.specs.Prelude.{Ok, Err}
use Rattle.sheet.specs.declared.Refusal.{Refusal}
use Rattle.sheet.specs.Verdict as questions
use Rattle.sheet.specs.Verdict.{Outcome, read_tables, verdict}
use Rattle.sheet_read.specs.Inner.Asked.{SheetTaken}
use Rattle.sheet_read.proofs.Laws.LineBounds.{line-fits}
use Rattle.sheet.specs.Sheet.{Sheet, sheet_in}
use Rattle.original.specs.Inner.AnalysedOnce.{analysed_once}
use Rattle.original.proofs.Laws.AnalysedOnce.{analysed-once}
use Rattle.answer.specs.Call.{analysed, after_reading, result_of, left_by, left}
use Rattle.scope_walk.specs.Inner.Sheets.{sheet_at, Accepted, name_count}
use Rattle.call.specs.declared.replies.Reply.{Reply}
use Rattle.call.specs.Inner.Replies.{refusal_reply, as_left, Replies}
use Rattle.call.proofs.Laws.Replies.{refusal_replies}
use Rattle.call.proofs.Laws.ReadSheet.{tables-long, sheet-same, enough, read_few_names, read_accepted}

-- ---- zeros

pub zeros_again : (b : List ℕ) (n : ℕ) → b ≡ replicate n 0 → b ≡ replicate (length b) 0
zeros_again b n is =
    let e : length b ≡ n = ap length is ∙ length-replicate {A = ℕ} n 0 in
    is ∙ ap (λ (k : ℕ). replicate k 0) (sym e)

-- ---- the ways out

-- One of the questions 1 to 6 refuses the sheet.
module _ (w : Width) (s : List ℕ) (room long : ℕ) (f : Refusal) (t : List ℕ) (k : SheetTaken (limits w) s room long (Err f) t) where
  pub line_low : questions.refusal_line f ≤ 65535
  line_low = subst (λ (x : Outcome). questions.fault_line x ≤ 65535) (sym k.came-to) (line-fits w s room long)

  pub whole-refuses : (most : ℕ) (r : Reply) → r ≡ refusal_reply f → (a : List ℕ) → a ≡ replicate most 0
      → Replies most (result_of (limits w) s room long most) r a
  unfolding result_of
  whole-refuses most r e a z entries words =
      ap (λ (x : Reply). as_left x (replicate entries 0) (replicate words 0) a) e
      ∙ ap (as_left (refusal_reply f) (replicate entries 0) (replicate words 0)) z
      ∙ refusal_replies s most f entries words
      ∙ ap (λ (x : Outcome). left_by entries words most (after_reading s most x)) k.came-to

-- The sheet is read.
module _ (w : Width) (s : List ℕ) (room long : ℕ) (t : List ℕ) (k : SheetTaken (limits w) s room long (Ok tt) t) where
  is_read_lem : verdict (limits w) s room long ≡ Ok tt
  is_read_lem = sym k.came-to

  tables_are : t ≡ read_tables s ++ replicate (room - limit.table_entries) 0
  tables_are = k.tabled refl

  pub tables-enough : limit.table_entries ≤ length t
  tables-enough = omega (arith, ap length tables_are, length-append (read_tables s) (replicate (room - limit.table_entries) 0), tables-long s)

  pub work-enough : work w ≤ long
  work-enough = (enough s w room long is_read_lem).1

  lent-tables : take limit.table_entries t ≡ read_tables s
  lent-tables = ap (take limit.table_entries) tables_are ∙ take_at (read_tables s) (replicate (room - limit.table_entries) 0) limit.table_entries (tables-long s)

  pub lent-accepted : Accepted (take limit.table_entries t)
  lent-accepted = subst Accepted (sym lent-tables) (read_accepted s w room long is_read_lem)

  pub lent-names : name_count (take limit.table_entries t) ≤ names w
  lent-names = subst (λ (l : List ℕ). get_or l 0 0 ≤ names w) (sym lent-tables) (read_few_names s w room long is_read_lem)

  lent-sheet : sheet_at (take limit.table_entries t) ≡ sheet_in s
  lent-sheet = ap sheet_at lent-tables ∙ sheet-same s w room long is_read_lem

  once : (most : ℕ) → analysed_once (sheet_at (take limit.table_entries t)) most ≡ analysed (sheet_at (take limit.table_entries t)) most
  unfolding sheet_at
  once most = sym (analysed-once _ _ (take limit.table_entries t) lent-accepted.within lent-accepted.fine most)

  -- The other questions are put.
  pub call_answers : (most : ℕ) (r : Reply) (a : List ℕ) → Replies most (analysed_once (sheet_at (take limit.table_entries t)) most) r a
      → Replies most (result_of (limits w) s room long most) r a
  unfolding result_of
  call_answers most r a replied entries words =
      replied entries words
      ∙ ap (left_by entries words most) (once most)
      ∙ ap (λ (g : Sheet). left_by entries words most (analysed g most)) lent-sheet
      ∙ ap (λ (g : Outcome). left_by entries words most (after_reading s most g)) (sym is_read_lem)

-- The lent bytes are as many as they were; then tables and work are cleared.
pub whole-leaves : (lim : Limits) (s : List ℕ) (room long most : ℕ) (n : ℕ) → n ≡ most → (r : Reply) (a : List ℕ) → Replies n (result_of lim s room long n) r a
    → (t w : List ℕ) → t ≡ replicate room 0 → w ≡ replicate long 0 → as_left r t w a ≡ left lim s room long most
unfolding left
whole-leaves lim s room long most n is r a replied t w x y =
    ap (λ (l : List ℕ). as_left r l w a) x
    ∙ ap (λ (l : List ℕ). as_left r (replicate room 0) l a) y
    ∙ subst (λ (m : ℕ). Replies m (result_of lim s room long m) r a) is replied room long

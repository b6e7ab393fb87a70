-- Number and line of an outcome fit 16 bits.
use mathlib.Core.Path.{◌≡◌, refl, subst}
use mathlib.Core.Bool.{Bool, true, false, cond, ◌&&◌}
use mathlib.Core.List.{List, [], ◌∷◌}
use mathlib.Core.Logic.{◌⊎◌, inl, inr}
use Prim.Native.Nat.{ℕ, zero, suc, ◌+◌, ◌≤◌}
use native.Mathlib.Omega.{arith}
use lib.Dec.{eqb, leb, ltb}
use lib.ListN.{length, get_or}
use borrow.Author.Tests.{ltb-false, leb-true, eqb-true}
use Rattle.base.specs.Limits as limit
use Rattle.base.proofs.Laws.Truth.{bool_cases}
use Rattle.names_width.specs.declared.Width.{Width}
use Rattle.names_width.specs.Widths.{limits}
use Rattle.names_width.specs.Inner.Widths.{work}
use Rattle.names_width.proofs.Laws.Laws.{few-names}
use Rattle.sheet.specs.Form.{built_ins_at, exprs_at, statements_at, queries_at, line_of, line_or}
use Rattle.sheet.proofs.Laws.SectionLaws.{line_row, line-next}
use Rattle.sheet.specs.Questions.{most_rows, over_line, no_query_line, count_fault, form_fault, names_fault, counts_fault, short_enough, row_counts}
use Rattle.sheet.specs.declared.Counts.{Counts}
use Rattle.sheet.specs.Inner.Records.{Within}
use Rattle.sheet.specs.Sheet.{Rows}
use Rattle.sheet.specs.Faults.{builtin_fault, expr_fault, statement_fault, query_fault, first_at_fault, listed, first_line}
use Rattle.std.specs.Prelude.{Ok, Err}
use Rattle.sheet.specs.declared.Refusal.{Refusal}
use Rattle.sheet.specs.declared.Refusal.TheVariants.{NoRoom, TooLong, BadForm, BadName, BadCount, BadField}
use Rattle.sheet.specs.Verdict as Verdict
use Rattle.sheet.specs.Verdict.{fields_fault, asked, verdict}
use Rattle.sheet_read.proofs.Laws.ReadRows.{counts_same}
use Rattle.sheet_read.proofs.Laws.Asked.{over_line-none, counts-within}
use Rattle.sheet_read.proofs.Laws.TextLines.{form-low, names_fault-low}

-- ---- question 5

-- The most lines up to the last row of sections with so many rows each.
abbrev most : ℕ → List ℕ → ℕ
most n [] = n
most n (m ∷ ms) = most (n + m + 2) ms

most-from : (ms : List ℕ) (n : ℕ) → n ≤ most n ms
most-from [] n = omega arith
most-from (m ∷ ms) n = omega (arith, most-from ms (n + m + 2))

-- Up to the heading of these sections there are at most n lines.
over-low : (ks : List ℕ) (k : ℕ) (ms : List ℕ) (n : ℕ) → line_of ks k 0 ≤ n → over_line ks k ms ≤ most n ms
unfolding over_line
over-low ks k [] n h = omega arith
over-low ks k (m ∷ ms) n h = go (bool_cases (ltb m (get_or ks k 0))) (λ g. over-low ks (suc k) ms (n + m + 2) g)
  where
    go : (ltb m (get_or ks k 0) ≡ true) ⊎ (ltb m (get_or ks k 0) ≡ false)
        → (line_of ks (suc k) 0 ≤ n + m + 2 → over_line ks (suc k) ms ≤ most (n + m + 2) ms)
        → cond (ltb m (get_or ks k 0)) (line_of ks k (m + 1)) (over_line ks (suc k) ms) ≤ most (n + m + 2) ms
    go (inl p) f = rw p (omega (arith, line_row ks k (m + 1), most-from ms (n + m + 2)))
    go (inr p) f =
        let few = ltb-false m (get_or ks k 0) p in
        rw p (f (omega (arith, line-next ks k 0)))

first-heading : (ks : List ℕ) → line_of ks 0 0 ≤ 1
unfolding line_of
first-heading ks = omega arith

module _ (w : Width) (ks : List ℕ) where
  abbrev over : ℕ
  over = over_line ks 0 (most_rows (limits w))

  -- The last heading, behind four sections that have not too many rows.
  last-low : over ≡ 0 → line_of ks 4 0 ≤ 1259
  unfolding line_of
  last-low none =
      let first = over_line-none ks 0 _ _ none in
      let second = over_line-none ks 1 _ _ first.1 in
      let third = over_line-none ks 2 _ _ second.1 in
      let fourth = over_line-none ks 3 _ _ third.1 in
      omega (
        arith,
        first.0,
        second.0,
        third.0,
        fourth.0,
        line-next ks 0 0,
        line-next ks 1 0,
        line-next ks 2 0,
        line-next ks 3 0,
        few-names w,
      )

  counts-low : count_fault (limits w) ks ≤ 1259
  unfolding count_fault no_query_line
  counts-low = go (bool_cases (eqb over 0)) (bool_cases (eqb (get_or ks 4 0) 0))
    where
      go : (eqb over 0 ≡ true) ⊎ (eqb over 0 ≡ false)
          → (eqb (get_or ks 4 0) 0 ≡ true) ⊎ (eqb (get_or ks 4 0) 0 ≡ false)
          → cond (eqb over 0) (cond (eqb (get_or ks 4 0) 0) (line_of ks 4 0) 0) over ≤ 1259
      go (inl p) (inl q) = rw (p, q) (last-low (eqb-true _ 0 p))
      go (inl p) (inr q) = rw (p, q) (omega arith)
      go (inr p) q = rw p (omega (arith, over-low ks 0 (most_rows (limits w)) 1 (first-heading ks), few-names w))

-- ---- question 6

first-low : (f : ℕ → Bool) (r n : ℕ) → first_at_fault f (suc r) n ≤ r + n
unfolding first_at_fault
first-low f r zero = omega arith
first-low f r (suc n) = go (bool_cases (f (suc r))) (first-low f (suc r) n)
  where
    go : (f (suc r) ≡ true) ⊎ (f (suc r) ≡ false) → first_at_fault f (suc (suc r)) n ≤ suc r + n
        → cond (f (suc r)) (suc r) (first_at_fault f (suc (suc r)) n) ≤ r + suc n
    go (inl p) h = rw p (omega arith)
    go (inr p) h = rw p (omega arith)

line_or-low : (ks : List ℕ) (k r other most : ℕ) → line_of ks k r ≤ most → other ≤ most → line_or ks k r other ≤ most
line_or-low ks k r other most h g = go (bool_cases (eqb r 0))
  where
    go : (eqb r 0 ≡ true) ⊎ (eqb r 0 ≡ false) → cond (eqb r 0) other (line_of ks k r) ≤ most
    go (inl p) = rw p g
    go (inr p) = rw p h

fields-low : (c : Counts) (t : Rows) → Within c → first_line c t ≤ 1256
unfolding first_line line_of
fields-low c t w =
    let b = first_at_fault (builtin_fault c t) 1 c.builtins in
    let e = first_at_fault (expr_fault c t) 1 c.exprs in
    let s = first_at_fault (statement_fault c t) 1 c.statements in
    let q = first_at_fault (query_fault c t) 1 c.queries in
    let from-queries = line_or (listed c) queries_at q 0 in
    let from-statements = line_or (listed c) statements_at s from-queries in
    let from-exprs = line_or (listed c) exprs_at e from-statements in
    line_or-low (listed c) built_ins_at b from-exprs 1256 (omega (arith, w, first-low (builtin_fault c t) 0 c.builtins))
    (line_or-low (listed c) exprs_at e from-statements 1256 (omega (arith, w, first-low (expr_fault c t) 0 c.exprs))
    (line_or-low (listed c) statements_at s from-queries 1256 (omega (arith, w, first-low (statement_fault c t) 0 c.statements))
    (line_or-low (listed c) queries_at q 0 1256 (omega (arith, w, first-low (query_fault c t) 0 c.queries)) (omega arith))))

-- ---- all of them

either_low : (b : Bool) (x y : Verdict.Outcome) → (b ≡ true → Verdict.fault_line x ≤ 65535) → (b ≡ false → Verdict.fault_line y ≤ 65535)
    → Verdict.fault_line (cond b x y) ≤ 65535
either_low true x y f g = f refl
either_low false x y f g = g refl

module _ (w : Width) (s : List ℕ) where
  fields_fault-low : counts_fault (limits w) s ≡ 0 → fields_fault s ≤ 1256
  unfolding fields_fault counts_fault
  fields_fault-low counted =
      fields-low _ _ (subst Within (counts_same s) (counts-within w (row_counts s) counted))

  counts_fault-low : counts_fault (limits w) s ≤ 1259
  unfolding counts_fault
  counts_fault-low = counts-low w (row_counts s)

  asked_low : Verdict.fault_line (asked (limits w) s) ≤ 65535
  unfolding asked
  asked_low =
      either_low (short_enough s) _ (Err TooLong) (λ short.
      let few = leb-true (length s) 32768 short in
      either_low (eqb (form_fault s) 0) _ (Err (BadForm (form_fault s))) (λ formed.
      either_low (eqb (names_fault s) 0) _ (Err (BadName (names_fault s))) (λ named.
      either_low (eqb (counts_fault (limits w) s) 0) _ (Err (BadCount (counts_fault (limits w) s))) (λ counted.
      either_low (eqb (fields_fault s) 0) (Ok tt) (Err (BadField (fields_fault s))) (λ held. omega arith)
      (λ some. let low = fields_fault-low (eqb-true _ 0 counted) in omega arith))
      (λ some. let low = counts_fault-low in omega arith))
      (λ some. let low = names_fault-low s in omega arith))
      (λ some. let low = form-low s in omega arith))
      (λ long. omega arith)

  pub line-fits : (room long : ℕ) → Verdict.fault_line (verdict (limits w) s room long) ≤ 65535
  unfolding verdict
  line-fits room long =
      either_low (leb limit.table_entries room && leb (work w) long) (asked (limits w) s) (Err NoRoom) (λ enough. asked_low) (λ few. omega arith)

-- The number of a refusal fits as well.
pub number_fits : (r : Refusal) → Verdict.refusal_number r ≤ 6
number_fits NoRoom = omega arith
number_fits TooLong = omega arith
number_fits (BadForm l) = omega arith
number_fits (BadName l) = omega arith
number_fits (BadCount l) = omega arith
number_fits (BadField l) = omega arith

-- Laws of `Demand2`.
use mathlib.Core.Path.{◌≡◌, refl, sym, ap, ◌∙◌}
use mathlib.Core.Bool.{Bool, true, false, cond, ◌&&◌}
use mathlib.Core.List.{List, [], ◌∷◌, ◌++◌}
use mathlib.Core.Logic.{◌↔◌}
use Prim.Native.Nat.{ℕ, ◌-◌}
use native.Mathlib.Omega.{arith}
use lib.Dec.{eqb, leb}
use lib.ListN.{length, replicate}
use Rattle.base.specs.Limits.{Limits}
use Rattle.base.specs.Limits as least
use Rattle.names_width.specs.declared.Width.{Width}
use Rattle.names_width.specs.Widths.{limits}
use Rattle.base.specs.Lists.{elem}
use Rattle.base.proofs.Laws.Truth.{and_intro, and_left, and_right, not-both}
use Rattle.sheet.specs.Questions.{short_enough, form_fault, names_fault, counts_fault}
use Rattle.sheet.specs.Sheet.{sheet_in}
use Rattle.std.specs.Prelude.{Ok}
use Rattle.sheet.specs.Verdict.{fields_fault, asked, left_tables, verdict}
use Rattle.definition.specs.States.{Fault, sound, undefined, used_before, lengths, index_variable}
use Rattle.definition.specs.RustWay.{analyze_query_snippet}
use Rattle.answer.specs.Call.{Result, Left, refused, answered, left_by, left}
use Rattle.nokchbem.specs.Calls.{left_number, read_number, AnalyzeCall, ReadCall}
use Rattle.promises.specs.Demand2.{Question, finishes, first_no, text, questions, all_yes, Equals}
use Rattle.promises.proofs.Laws.Questions.{asked-in_turn}
use Rattle.promises.specs.Demand1.{Position, of_the_whole, of_the_sheet, of_the_walk, whole, at-line, at-span, number_in}
use Rattle.promises.proofs.Laws.Demand1.{analyze_refuses_or_succeeds, read_refuses_or_succeeds}
use Rattle.promises.specs.Demand1 as one

yes-text : (l : List Question) (t : List ℕ) → all_yes l ≡ true → first_no l t ≡ answered t
unfolding first_no
yes-text [] t h = refl
yes-text (q ∷ l) t h = rw (and_left q.yes (all_yes l) h) (yes-text l t (and_right q.yes (all_yes l) h))

text-yes : (l : List Question) (t u : List ℕ) → first_no l t ≡ answered u → all_yes l ≡ true
unfolding first_no
text-yes [] t u h = refl
text-yes (q ∷ l) t u h = go q.yes refl h (λ g. text-yes l t u g)
  where
    go : (b : Bool) → q.yes ≡ b → cond b (first_no l t) (refused q.number q.line q.col) ≡ answered u
        → (first_no l t ≡ answered u → all_yes l ≡ true) → all_yes (q ∷ l) ≡ true
    go true e g rest = and_intro q.yes (all_yes l) e (rest g)
    go false e g rest = let z : ◌≡◌ {A = ℕ} 0 1 = cc in absurd (omega arith)

finished-sound : (f : Fault) → (finishes f).yes ≡ true → f ≡ sound
finished-sound sound h = refl
finished-sound (undefined l c) h = absurd (not-both h refl)
finished-sound (used_before l c) h = absurd (not-both h refl)
finished-sound (lengths l c) h = absurd (not-both h refl)
finished-sound index_variable h = absurd (not-both h refl)

-- No refusal has the number 0.
some_number : {n l c : ℕ} → Position n l c → n ≡ 0 → ⊥
some_number {n} (whole h) z = absurd (not-both (ap (λ (m : ℕ). elem m of_the_whole) (sym z) ∙ h) refl)
some_number {n} (at-line h l) z = absurd (not-both (ap (λ (m : ℕ). elem m of_the_sheet) (sym z) ∙ h) refl)
some_number {n} (at-span h) z = absurd (not-both (ap (λ (m : ℕ). elem m of_the_walk) (sym z) ∙ h) refl)

module _ {lim : Limits} {s : List ℕ} {tables work room r : ℕ} {t w a : List ℕ} (call : AnalyzeCall lim s tables work room r t w a) where
  -- What it returns and leaves is a function of the bytes and of how long the lent buffers are: it depends on nothing else, and on nothing that
  -- stood in them before.
  pub analyze-leaves : Equals (left lim s tables work room) r t w a
  analyze-leaves = record { number = call.returned; tables = call.tabled; work = call.worked; answer = call.answered }

  -- That function puts the questions of document 01 in their order: it is what the first one says whose answer is no, and the text if there is none.
  pub analyze-asks : Equals (left_by tables work room (first_no (questions lim s tables work room) (text s))) r t w a
  unfolding left
  analyze-asks =
      let e = ap (left_by tables work room) (asked-in_turn lim s tables work room) in record {
        number = call.returned ∙ ap left_number e;
        tables = call.tabled ∙ ap (λ (l : Left). l.tables) e;
        work = call.worked ∙ ap (λ (l : Left). l.work) e;
        answer = call.answered ∙ ap (λ (l : Left). l.answer) e;
      }

  -- Exactly what the definitions refuse is refused: 0 is returned where every answer is yes, and nowhere else.
  pub analyze-accepts : (r ≡ 0) ↔ (all_yes (questions lim s tables work room) ≡ true)
  unfolding left
  analyze-accepts = (
    λ z. accepted z (analyze_refuses_or_succeeds call),
    λ h.
        call.returned
        ∙ ap (λ (o : Result). left_number (left_by tables work room o)) (asked-in_turn lim s tables work room ∙ yes-text (questions lim s tables work room) (text s) h),
  )
    where
      accepted : r ≡ 0 → one.Analyzed call → all_yes (questions lim s tables work room) ≡ true
      accepted z (one.succeeds u rz fits is tz wz az) = text-yes (questions lim s tables work room) (text s) u (sym (asked-in_turn lim s tables work room) ∙ is)
      accepted z (one.refuses n l c p at is tz wz az) = absurd (some_number at (sym p.the_number ∙ ap number_in z))

  -- Then the answer is the text of the definitions, with zeros behind it.
  pub analyze-text : r ≡ 0 → a ≡ text s ++ replicate (room - length (text s)) 0
  unfolding left
  analyze-text z =
      call.answered
      ∙ ap (λ (o : Result). (left_by tables work room o).answer)
      (asked-in_turn lim s tables work room ∙ yes-text (questions lim s tables work room) (text s) (analyze-accepts.0 z))

  -- And the sheet is one that is read, and that the walk finishes without an error.
  pub analyze-reads : r ≡ 0 → (verdict lim s tables work ≡ Ok tt) × ((analyze_query_snippet (sheet_in s)).fault ≡ sound)
  unfolding verdict asked
  analyze-reads z =
      let h1 = analyze-accepts.0 z in
      let h2 = and_right (leb least.table_entries tables && leb lim.work work) _ h1 in
      let h3 = and_right (short_enough s) _ h2 in
      let h4 = and_right (eqb (form_fault s) 0) _ h3 in
      let h5 = and_right (eqb (names_fault s) 0) _ h4 in
      let h6 = and_right (eqb (counts_fault lim s) 0) _ h5 in
      let h7 = and_right (eqb (fields_fault s) 0) _ h6 in (
        rw (
          and_left (leb least.table_entries tables && leb lim.work work) _ h1,
          and_left (short_enough s) _ h2,
          and_left (eqb (form_fault s) 0) _ h3,
          and_left (eqb (names_fault s) 0) _ h4,
          and_left (eqb (counts_fault lim s) 0) _ h5,
          and_left (eqb (fields_fault s) 0) _ h6,
        ),
        finished-sound (analyze_query_snippet (sheet_in s)).fault (and_left (finishes (analyze_query_snippet (sheet_in s)).fault).yes _ h7),
      )

-- ---- `nokchbem_read`

module _ (v : Width) {s : List ℕ} {tables work r : ℕ} {t w : List ℕ} (call : ReadCall (limits v) s tables work r t w) where
  -- What it returns and leaves is a function of the same, and exactly the sheets that questions 1 to 6 refuse are refused.
  pub read_leaves : (r ≡ read_number (verdict (limits v) s tables work)) × (t ≡ left_tables s tables (verdict (limits v) s tables work)) × (w ≡ replicate work 0)
  read_leaves = (call.returned, call.tabled, call.worked)

  pub read_accepts : (r ≡ 0) ↔ (verdict (limits v) s tables work ≡ Ok tt)
  read_accepts = (λ z. accepted z (read_refuses_or_succeeds v call), λ e. call.returned ∙ rw e)
    where
      accepted : r ≡ 0 → one.HasRead v call → verdict (limits v) s tables work ≡ Ok tt
      accepted z (one.succeeds rz is tz wz) = is
      accepted z (one.refuses n l p at tz wz) = absurd (some_number at (sym p.the_number ∙ ap number_in z))

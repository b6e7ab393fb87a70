-- Laws of `Demand1`.
use mathlib.Core.Path.{◌≡◌, refl, sym, ap, ◌∙◌, subst}
use mathlib.Core.List.{List}
use Prim.Native.Nat.{ℕ, ◌≤◌}
use native.Mathlib.Omega.{arith}
use Rattle.base.specs.Limits.{Limits}
use Rattle.names_width.specs.declared.Width.{Width}
use Rattle.names_width.specs.Widths.{limits}
use Rattle.order.specs.Call.{refusal}
use Rattle.std.specs.Prelude.{Ok, Err}
use Rattle.sheet.specs.Verdict as read
use Rattle.sheet.specs.Verdict.{Outcome, left_tables, verdict}
use Rattle.sheet_read.proofs.Laws.LineBounds.{line-fits}
use Rattle.answer.specs.Call.{Result, refused, answered, left_by, left, result_of}
use Rattle.nokchbem.specs.Calls.{AnalyzeCall, ReadCall}
use Rattle.promises.specs.Demand1.{Position, Parts, Analyzed, succeeds, refuses, HasRead}
use Rattle.promises.specs.Inner.Positions.{Outcomes, refusal-at, a-text}
use Rattle.promises.proofs.Laws.Positions.{outcomes}

parts : (n l c : ℕ) → l ≤ 65535 → c ≤ 65535 → Parts (refusal n l c) n l c
parts n l c a b = record { the_number = omega arith; the_line = omega arith; the_col = omega arith }

-- ---- `nokchbem_analyze`, and the printing program's call

-- Whatever it was called with, with whatever limits, s with so many entries of tables, words of work and bytes for the answer, and whatever it returned and left.
module _ {lim : Limits} {s : List ℕ} {tables work room r : ℕ} {t w a : List ℕ} (call : AnalyzeCall lim s tables work room r t w a) where
  -- Number, line and column can be read back from what is returned: they are those of the definition.
  pub analyze-parts : Parts r (left lim s tables work room).number (left lim s tables work room).line (left lim s tables work room).col
  analyze-parts =
      subst (λ (n : ℕ). Parts n (left lim s tables work room).number (left lim s tables work room).line (left lim s tables work room).col) (sym call.returned)
      (parts (left lim s tables work room).number (left lim s tables work room).line (left lim s tables work room).col call.line-fits call.col-fits)

  pub analyze_refuses_or_succeeds : (Analyzed call)
  unfolding left
  analyze_refuses_or_succeeds = go (result_of lim s tables work room) refl (outcomes lim s tables work room) analyze-parts
    where
      go : (o : Result) → result_of lim s tables work room ≡ o → Outcomes room o
          → Parts r (left_by tables work room (result_of lim s tables work room)).number (left_by tables work room (result_of lim s tables work room)).line (left_by tables work room (result_of lim s tables work room)).col
          → (Analyzed call)
      go (answered text) e (a-text fits) p =
          succeeds text (call.returned ∙ rw e) fits e (call.tabled ∙ rw e) (call.worked ∙ rw e) (call.answered ∙ rw e)
      go (refused n l c) e (refusal-at at) p =
          refuses n l c (rw e at p) at e (call.tabled ∙ rw e) (call.worked ∙ rw e) (call.answered ∙ rw e)

-- ---- `nokchbem_read`

position_of : {room n l c : ℕ} → Outcomes room (refused n l c) → Position n l c
position_of (refusal-at at) = at

module _ (v : Width) {s : List ℕ} {tables work r : ℕ} {t w : List ℕ} (call : ReadCall (limits v) s tables work r t w) where
  pub read_refuses_or_succeeds : (HasRead v call)
  unfolding result_of
  read_refuses_or_succeeds = go (verdict (limits v) s tables work) refl
    where
      at : (o : Outcome) → verdict (limits v) s tables work ≡ o → Parts r (read.number o) (read.fault_line o) 0
      at o e =
          subst (λ (v : Outcome). Parts r (read.number v) (read.fault_line v) 0) e
          (subst (λ (n : ℕ). Parts n (read.number (verdict (limits v) s tables work)) (read.fault_line (verdict (limits v) s tables work)) 0) (sym call.returned)
          (parts (read.number (verdict (limits v) s tables work)) (read.fault_line (verdict (limits v) s tables work)) 0 (line-fits v s tables work) (omega arith)))

      go : (o : Outcome) → verdict (limits v) s tables work ≡ o → (HasRead v call)
      go (Ok x) e = succeeds (call.returned ∙ rw e) e (call.tabled ∙ rw e) call.worked
      go (Err f) e =
          refuses (read.refusal_number f) (read.refusal_line f) (at (Err f) e) (position_of (rw e at (outcomes (limits v) s tables work 0)))
          (call.tabled ∙ ap (left_tables s tables) e) call.worked

-- Laws of `Positions`.
use mathlib.Core.Path.{◌≡◌, refl, sym, subst}
use mathlib.Core.Bool.{Bool, true, false, cond}
use mathlib.Core.List.{List, [], ◌∷◌}
use Prim.Native.Nat.{ℕ, ◌≤◌}
use native.Mathlib.Omega.{arith}
use lib.Dec.{eqb, leb}
use lib.ListN.{length}
use borrow.Author.Tests.{eqb-false, leb-true}
use Rattle.base.specs.Limits.{Limits}
use Rattle.base.specs.Refusals as refusals
use Rattle.sheet.specs.Questions.{form_fault, names_fault, counts_fault}
use Rattle.sheet.specs.Sheet.{sheet_in}
use Rattle.sheet.specs.Verdict.{fields_fault}
use Rattle.definition.specs.States.{Fault, sound, undefined, used_before, lengths, index_variable}
use Rattle.definition.specs.RustWay.{analyze_query_snippet}
use Rattle.answer.specs.Call.{refused, answered, result_of}
use Rattle.promises.specs.Demand2.{Question, ask, finishes, first_no, text}
use Rattle.promises.proofs.Laws.Questions.{asked-in_turn}
use Rattle.promises.specs.Demand1.{Position, whole, at-line, at-span}
use Rattle.promises.specs.Inner.Positions.{Outcomes, refusal-at, a-text}

-- ---- there are no others

module _ (room : ℕ) where
  one_more_lem : (q : Question) (others : List Question) (t : List ℕ) → (q.yes ≡ false → Position q.number q.line q.col)
      → Outcomes room (first_no others t) → Outcomes room (first_no (q ∷ others) t)
  unfolding first_no
  one_more_lem q others t at rest = go q.yes at
    where
      go : (b : Bool) → (b ≡ false → Position q.number q.line q.col) → Outcomes room (cond b (first_no others t) (refused q.number q.line q.col))
      go true at = rest
      go false at = refusal-at (at refl)

  last : (t : List ℕ) → Outcomes room (first_no (ask (leb (length t) room) refusals.text_too_long 0 0 ∷ []) t)
  unfolding first_no
  last t = go (leb (length t) room) refl
    where
      go : (b : Bool) → leb (length t) room ≡ b → Outcomes room (cond b (answered t) (refused refusals.text_too_long 0 0))
      go true e = a-text (leb-true (length t) room e)
      go false e = refusal-at (whole refl)

  walk_at : (f : Fault) → (finishes f).yes ≡ false → Position (finishes f).number (finishes f).line (finishes f).col
  walk_at sound e = let z : ◌≡◌ {A = Bool} true false = e in absurd (never z)
    where
      never : true ≡ false → ⊥
      never z = let n : ◌≡◌ {A = ℕ} 0 1 = cc in omega arith
  walk_at (undefined l c) e = at-span refl
  walk_at (used_before l c) e = at-span refl
  walk_at (lengths l c) e = at-span refl
  walk_at index_variable e = whole refl

some-line : (l : ℕ) → eqb l 0 ≡ false → 1 ≤ l
some-line l e = let no = eqb-false l 0 e in omega arith

pub outcomes : (lim : Limits) (s : List ℕ) (tables work room : ℕ) → Outcomes room (result_of lim s tables work room)
outcomes lim s tables work room =
    subst (Outcomes room) (sym (asked-in_turn lim s tables work room))
    (one_more_lem room _ _ _ (λ e. whole refl)
    (one_more_lem room _ _ _ (λ e. whole refl)
    (one_more_lem room _ _ _ (λ e. at-line refl (some-line (form_fault s) e))
    (one_more_lem room _ _ _ (λ e. at-line refl (some-line (names_fault s) e))
    (one_more_lem room _ _ _ (λ e. at-line refl (some-line (counts_fault lim s) e))
    (one_more_lem room _ _ _ (λ e. at-line refl (some-line (fields_fault s) e))
    (one_more_lem room (finishes (analyze_query_snippet (sheet_in s)).fault) _ _ (walk_at room (analyze_query_snippet (sheet_in s)).fault)
    (last room (text s)))))))))

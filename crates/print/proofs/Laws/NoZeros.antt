-- No byte of an answer's text is a zero, and no refusal has the number 0.
use mathlib.Core.Path.{◌≡◌, refl}
use mathlib.Core.Bool.{Bool, true, false, cond}
use mathlib.Core.List.{List, [], ◌∷◌, ◌++◌}
use mathlib.Core.Logic.{◌⊎◌, inl, inr}
use Prim.Native.Nat.{ℕ, zero, suc, ◌+◌, ◌/◌, ◌%◌, ◌≤◌}
use Prim.Native.String.{String}
use native.Mathlib.Omega.{arith}
use lib.Dec.{ltb, leb}
use lib.ListN.{length}
use borrow.Author.Tests.{lt-ltb}
use Rattle.base.specs.Limits.{Limits}
use Rattle.base.specs.Refusals as refusals
use Rattle.base.proofs.Laws.Truth.{bool_cases, and_intro, and_left, and_right}
use Rattle.base.specs.Lists.{all, concat_map}
use Rattle.sheet.specs.Text.{bytes}
use Rattle.answer.specs.Text.{digits, row_line, section, answer_text}
use Rattle.sheet.specs.Sheet.{Sheet, sheet_in}
use Rattle.std.specs.Prelude.{Ok, Err}
use Rattle.sheet.specs.declared.Refusal.TheVariants.{NoRoom, TooLong, BadForm, BadName, BadCount, BadField}
use Rattle.sheet.specs.Verdict.{Outcome, verdict}
use Rattle.definition.specs.States.{Fault, sound, undefined, used_before, lengths, index_variable, Run, QuerySchedule}
use Rattle.definition.specs.RustWay.{analyze_query_snippet}
use Rattle.answer.specs.Call.{Result, refused, answered, fitting, finished, analysed, after_reading, result_of}

abbrev pub no_zeros : List ℕ → Bool
no_zeros l = all (ltb 0) l

-- ---- texts

append-none : (k l : List ℕ) → no_zeros k ≡ true → no_zeros l ≡ true → no_zeros (k ++ l) ≡ true
append-none [] l p q = q
append-none (x ∷ k) l p q =
    and_intro (ltb 0 x) _ (and_left (ltb 0 x) _ p) (append-none k l (and_right (ltb 0 x) _ p) q)

one_none : (x : ℕ) → 1 ≤ x → no_zeros (x ∷ []) ≡ true
one_none x h = and_intro (ltb 0 x) _ (lt-ltb 0 x h) refl

digits-none : (most n : ℕ) → no_zeros (digits most n) ≡ true
unfolding digits
digits-none zero n = refl
digits-none (suc most) n = go (bool_cases (ltb n 10)) (digits-none most (n / 10))
  where
    go : (ltb n 10 ≡ true) ⊎ (ltb n 10 ≡ false) → no_zeros (digits most (n / 10)) ≡ true
        → no_zeros (cond (ltb n 10) ((48 + n) ∷ []) (digits most (n / 10) ++ ((48 + n % 10) ∷ []))) ≡ true
    go (inl p) h = rw p (one_none (48 + n) (omega arith))
    go (inr p) h = rw p (append-none (digits most (n / 10)) ((48 + n % 10) ∷ []) h (one_none (48 + n % 10) (omega arith)))

line-none : (row : List ℕ) → no_zeros (row_line row) ≡ true
line-none [] = refl
line-none (x ∷ []) = append-none (digits 5 x) _ (digits-none 5 x) refl
line-none (x ∷ (y ∷ row)) = append-none (digits 5 x) _ (digits-none 5 x) (line-none (y ∷ row))

lines_none : (rows : List (List ℕ)) → no_zeros (concat_map row_line rows) ≡ true
lines_none [] = refl
lines_none (row ∷ rows) = append-none (row_line row) _ (line-none row) (lines_none rows)

section-none : (heading : String) (rows : List (List ℕ)) → no_zeros (bytes heading) ≡ true → no_zeros (section heading rows) ≡ true
unfolding section
section-none heading rows h = append-none (bytes heading) _ h (append-none (concat_map row_line rows) _ (lines_none rows) refl)

answer-none : (n : ℕ) (schedules : List QuerySchedule) → no_zeros (answer_text n schedules) ≡ true
unfolding answer_text bytes
answer-none n schedules =
    append-none (section "query placed input" _) _ (section-none "query placed input" _ refl)
    (append-none (section "query place index reached" _) _ (section-none "query place index reached" _ refl)
    (section-none "query set name line col" _ refl))

-- ---- results

abbrev pub Told : Result → Type 0
Told (refused n l c) = 1 ≤ n
Told (answered text) = no_zeros text ≡ true

fitting_told : (room : ℕ) (text : List ℕ) → no_zeros text ≡ true → Told (fitting room text)
fitting_told room text h = go (leb (length text) room)
  where
    go : (b : Bool) → Told (cond b (answered text) (refused refusals.text_too_long 0 0))
    go true = h
    go false = omega arith

finished_told : (n room : ℕ) (r : Run) (f : Fault) → Told (finished n room r f)
finished_told n room r sound = fitting_told room (answer_text n r.schedules) (answer-none n r.schedules)
finished_told n room r (undefined l c) = omega arith
finished_told n room r (used_before l c) = omega arith
finished_told n room r (lengths l c) = omega arith
finished_told n room r index_variable = omega arith

analysed_told : (sheet : Sheet) (room : ℕ) → Told (analysed sheet room)
unfolding analysed
analysed_told sheet room = finished_told _ room (analyze_query_snippet sheet) (analyze_query_snippet sheet).fault

after_told : (s : List ℕ) (room : ℕ) (r : Outcome) → Told (after_reading s room r)
after_told s room (Ok x) = analysed_told (sheet_in s) room
after_told s room (Err NoRoom) = omega arith
after_told s room (Err TooLong) = omega arith
after_told s room (Err (BadForm l)) = omega arith
after_told s room (Err (BadName l)) = omega arith
after_told s room (Err (BadCount l)) = omega arith
after_told s room (Err (BadField l)) = omega arith

pub result_told : (lim : Limits) (s : List ℕ) (tables work room : ℕ) → Told (result_of lim s tables work room)
unfolding result_of
result_told lim s tables work room = after_told s room (verdict lim s tables work)

-- Questions 7 and 8 as the code puts them: each way out, by what the analysis and the writer say.
use mathlib.Core.Path.{◌≡◌, sym, ap, subst, ◌∙◌}
use mathlib.Core.List.{List, [], ◌++◌}
use Prim.Native.Nat.{ℕ, ◌-◌, ◌≤◌, ◌<◌}
use native.Mathlib.Omega.{arith}
use lib.ListN.{length, take, drop, replicate, length-drop}
use lib.Seq.{take-length}
use Rattle.std.specs.Prelude.{Option, None, Some}
use Rattle.base.specs.Refusals as refusals
use Rattle.names_width.specs.declared.Width.{Width}
use Rattle.names_width.specs.declared.Width.TheVariants.{Two, Eight}
use Rattle.names_width.specs.Inner.Widths.{work}
use Rattle.answer_blocks.specs.Inner.Layout.{answers_size}
use Rattle.answer_write.specs.declared.Text.{Text}
use Rattle.answer_write.specs.Inner.Writes.{Wrote, Puts}
use Rattle.answer_text.specs.Inner.Sections.{PutsAnswer}
use Rattle.answer_write.proofs.Laws.Writes.{starts, fits_whole, fits_not}
use Rattle.sheet.specs.Inner.Records.{first_at}
use Rattle.scope_walk.proofs.Laws.RowTrees.{rows-length}
use Rattle.sheet.specs.Inner.Sheet.{sheet_of}
use Rattle.definition.specs.States.{sound, Run, QuerySchedule}
use Rattle.definition_once.specs.Inner.OnceWay.{analyze_query_snippet_once}
use Rattle.definition.specs.States as spec
use Rattle.answer.specs.Text.{answer_text}
use Rattle.answer.specs.Call.{fitting, finished}
use Rattle.original.specs.Inner.AnalysedOnce.{analysed_once}
use Rattle.answer_text.specs.Inner.Stored.{Stored}
use Rattle.answer_text.specs.Inner.Sound.{SoundBlocks}
use Rattle.answer_text.proofs.Laws.Sound.{stored-sound}
use Rattle.scope_walk.specs.Inner.Sheets.{sheet_at, query_count}
use Rattle.definition_state.specs.declared.Fault.{Fault}
use Rattle.definition_state.specs.Inner.Faults.{meaning}
use Rattle.definition_state.specs.Inner.Table.{answers_of}
use Rattle.call.specs.declared.replies.Reply.{Reply}
use Rattle.definition_cycle.specs.Inner.Analysed.{Analysed}
use Rattle.call.specs.Inner.Replies.{fault_reply, Replies}
use Rattle.call.proofs.Laws.Replies.{fault_replies, fits_replies, not_replies}

-- ---- the lent words

-- Work has room for all answers.
pub answers_in : (v : Width) → answers_size v ≤ work v
answers_in Two = omega arith
answers_in Eight = omega arith

-- The last k words.
abbrev pub lent_answers : ℕ → List ℕ → List ℕ
lent_answers k w = take (length w - (length w - k)) (drop (length w - k) w)

pub lent-answers : (v : Width) (k : ℕ) → k ≡ answers_size v → (w : List ℕ) → lent_answers k w ≡ answers_of v w
lent-answers v k is w =
    ap (λ (n : ℕ). take n (drop (length w - k) w)) (sym (length-drop (length w - k) w)) ∙ take-length (drop (length w - k) w)
    ∙ ap (λ (n : ℕ). drop (length w - n) w) is

-- ---- question 8

-- What is put into a text that is empty yet.
pub put_from : (v : Width) (w : List ℕ) (n : ℕ) (b : List ℕ) (t u : Text) → t.bytes.now ≡ b → t.end ≡ 0 → PutsAnswer v w n t u
    → (l : List QuerySchedule) → Stored v w l → Puts b 0 (answer_text n l) u.bytes.now u.end
put_from v w n b t u is start put l stored =
    subst (λ (x : List ℕ). Puts x 0 (answer_text n l) u.bytes.now u.end) is
    (subst (λ (m : ℕ). Puts t.bytes.now m (answer_text n l) u.bytes.now u.end) start (put.puts l stored))

module _ (v : Width) (k : ℕ) (is : k ≡ answers_size v) (w : List ℕ) (n : ℕ) (b : List ℕ) (zeros : b ≡ replicate (length b) 0) (c : List ℕ) (r : ℕ)
    (put : (l : List QuerySchedule) → Stored v (lent_answers k w) l → Puts b 0 (answer_text n l) c r) (schedules : List QuerySchedule) (stored : Stored v (answers_of v w) schedules) where
  puts : Puts b 0 (answer_text n schedules) c r
  puts = put schedules (subst (λ (l : List ℕ). Stored v l schedules) (sym (lent-answers v k is w)) stored)

  wrote : Wrote c (answer_text n schedules) r
  wrote = puts.1 [] (subst (λ (l : List ℕ). Wrote l [] 0) (sym zeros) (starts (length b)))

  pub answer-fits : r ≤ length c → Replies (length b) (fitting (length b) (answer_text n schedules)) (record { number = 0; line = 0; col = 0 }) c
  answer-fits h =
      let whole = fits_whole c (answer_text n schedules) r wrote h in
      let text = answer_text n schedules in
      let left : c ≡ text ++ replicate (length b - length text) 0 = whole.1 ∙ ap (λ (m : ℕ). text ++ replicate (m - length text) 0) puts.0 in
      subst (Replies (length b) (fitting (length b) text) (record { number = 0; line = 0; col = 0 })) (sym left)
      (fits_replies (length b) text (omega (arith, whole.0, puts.0)))

  pub fits-none : length c < r → (e : List ℕ) → e ≡ replicate (length c) 0
      → Replies (length b) (fitting (length b) (answer_text n schedules)) (record { number = refusals.text_too_long; line = 0; col = 0 }) e
  fits-none h e cleared =
      let text = answer_text n schedules in
      let over = fits_not c text r wrote h in
      subst (Replies (length b) (fitting (length b) text) (record { number = refusals.text_too_long; line = 0; col = 0 }))
      (sym (cleared ∙ ap (λ (m : ℕ). replicate m 0) puts.0)) (not_replies (length b) text (omega (arith, puts.0)))

-- ---- question 7

module _ (v : Width) (t w : List ℕ) (end : Option Fault) (a : Analysed v t w end) where
  abbrev run : Run
  run = analyze_query_snippet_once (sheet_at t)

  pub fault-answered : (f : Fault) → end ≡ Some f → (room : ℕ) (r : Reply) → r ≡ fault_reply f → (b : List ℕ) → b ≡ replicate room 0
      → Replies room (analysed_once (sheet_at t) room) r b
  unfolding analysed_once
  fault-answered f is room r e b z =
      let n = length (sheet_at t).queries in
      subst (λ (x : Reply). Replies room (finished n room run run.fault) x b) (sym e)
      (subst (Replies room (finished n room run run.fault) (fault_reply f)) (sym z)
      (subst (λ (x : spec.Fault). Replies room (finished n room run x) (fault_reply f) (replicate room 0)) (ap meaning (sym is) ∙ a.fault) (fault_replies n room run f)))

  module _ (h : end ≡ None) where
    ends : run.fault ≡ sound
    ends = sym a.fault ∙ ap meaning h

    pub answers-sound : SoundBlocks v (answers_of v w)
    answers-sound = stored-sound v (answers_of v w) run.schedules (a.stored ends)

    queries-count : length (sheet_at t).queries ≡ query_count t
    unfolding sheet_at sheet_of
    queries-count = rows-length (first_at t) (query_count t)

    -- The writer says what it does for any schedules that are stored.
    pub answering : (room : ℕ) (r : Reply) (b : List ℕ)
        → ((schedules : List QuerySchedule) → Stored v (answers_of v w) schedules → Replies room (fitting room (answer_text (query_count t) schedules)) r b)
        → Replies room (analysed_once (sheet_at t) room) r b
    unfolding analysed_once
    answering room r b k =
        subst (λ (x : spec.Fault). Replies room (finished (length (sheet_at t).queries) room run x) r b) (sym ends)
        (subst (λ (n : ℕ). Replies room (fitting room (answer_text n run.schedules)) r b) (sym queries-count) (k run.schedules (a.stored ends)))

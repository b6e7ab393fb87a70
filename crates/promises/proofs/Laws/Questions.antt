-- Laws of `Questions`.
use mathlib.Core.Path.{◌≡◌, refl}
use mathlib.Core.Bool.{Bool, true, false, cond, ◌&&◌}
use mathlib.Core.List.{List, [], ◌∷◌}
use Prim.Native.Nat.{ℕ}
use lib.Dec.{eqb, leb}
use lib.ListN.{length}
use Rattle.base.specs.Limits as limits
use Rattle.base.specs.Limits.{Limits}
use Rattle.base.specs.Refusals as refusals
use Rattle.sheet.specs.Questions.{short_enough, form_fault, names_fault, counts_fault}
use Rattle.std.specs.Prelude.{Ok, Err}
use Rattle.sheet.specs.declared.Refusal.TheVariants.{NoRoom, TooLong, BadForm, BadName, BadCount, BadField}
use Rattle.sheet.specs.Verdict.{fields_fault, asked, verdict}
use Rattle.sheet.specs.Sheet.{sheet_in}
use Rattle.definition.specs.States.{Fault, sound, undefined, used_before, lengths, index_variable}
use Rattle.definition.specs.RustWay.{analyze_query_snippet}
use Rattle.answer.specs.Call.{finished, analysed, after_reading, result_of}
use Rattle.promises.specs.Demand2.{ask, finishes, first_no, text, questions}

-- The sheet s, with the call's limits, and so many entries of tables, words of work and bytes for the answer.
module _ (lim : Limits) (s : List ℕ) (tables work room : ℕ) where
  -- ---- the definition of the call asks them

  last_two : (f : Fault)
      → finished (length (sheet_in s).queries) room (analyze_query_snippet (sheet_in s)) f ≡ first_no (finishes f ∷ ask (leb (length (text s)) room) refusals.text_too_long 0 0 ∷ []) (text s)
  unfolding first_no
  last_two sound = refl
  last_two (undefined l c) = refl
  last_two (used_before l c) = refl
  last_two (lengths l c) = refl
  last_two index_variable = refl

  pub asked-in_turn : result_of lim s tables work room ≡ first_no (questions lim s tables work room) (text s)
  unfolding result_of verdict asked analysed first_no
  asked-in_turn =
      go (leb limits.table_entries tables && leb lim.work work) (short_enough s) (eqb (form_fault s) 0) (eqb (names_fault s) 0) (eqb (counts_fault lim s) 0)
      (eqb (fields_fault s) 0)
    where
      go : (a b c d e f : Bool)
          → after_reading s room
          (cond a (cond b (cond c (cond d (cond e (cond f (Ok tt) (Err (BadField (fields_fault s)))) (Err (BadCount (counts_fault lim s)))) (Err (BadName (names_fault s)))) (Err (BadForm (form_fault s)))) (Err TooLong))
          (Err NoRoom))
          ≡ first_no
          (ask a refusals.no_room 0 0 ∷ ask b refusals.too_long 0 0 ∷ ask c refusals.bad_form (form_fault s) 0 ∷ ask d refusals.bad_name (names_fault s) 0 ∷ ask e refusals.bad_count (counts_fault lim s) 0 ∷ ask f refusals.bad_field (fields_fault s) 0
          ∷ finishes (analyze_query_snippet (sheet_in s)).fault ∷ ask (leb (length (text s)) room) refusals.text_too_long 0 0 ∷ [])
          (text s)
      go false b c d e f = refl
      go true false c d e f = refl
      go true true false d e f = refl
      go true true true false e f = refl
      go true true true true false f = refl
      go true true true true true false = refl
      go true true true true true true = last_two (analyze_query_snippet (sheet_in s)).fault

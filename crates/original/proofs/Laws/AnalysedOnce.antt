-- Laws of `Once`.
use mathlib.Core.Path.{◌≡◌, refl, ap, ◌∙◌}
use mathlib.Core.List.{List}
use Prim.Native.Nat.{ℕ, suc}
use Rattle.base.specs.Lists.{range, concat_map}
use Rattle.sheet.specs.declared.Counts.{Counts}
use Rattle.sheet.specs.Inner.Records.{Within}
use Rattle.sheet.specs.Inner.Rows.{in_tables}
use Rattle.sheet.specs.declared.Special.{Special}
use Rattle.sheet.specs.Faults.{first_line}
use Rattle.sheet.specs.Inner.Sheet.{sheet_of}
use Rattle.definition.specs.States.{Fault, sound, undefined, used_before, lengths, index_variable, QuerySchedule, Run, schedule_of}
use Rattle.definition.specs.RustWay.{analyze_query_snippet}
use Rattle.definition_once.specs.Inner.OnceWay.{analyze_query_snippet_once, schedule_once}
use Rattle.original.proofs.Laws.Accepted.{accepted-fault, accepted-schedules}
use Rattle.answer.specs.Text.{query_rows, place_rows, set_rows, all_rows, answer_text}
use Rattle.answer.specs.Call.{fitting, finished, analysed}
use Rattle.original.specs.Inner.AnalysedOnce.{analysed_once}

-- A text tells of the schedule of each query, and of nothing else in a table.
text_same : (n : ℕ) (T U : List QuerySchedule) → ((q : ℕ) → schedule_of T q ≡ schedule_of U q) → answer_text n T ≡ answer_text n U
unfolding answer_text all_rows
text_same n T U same =
    let go : (rows : ℕ → _ → List (List ℕ)) → concat_map (λ q. rows q (schedule_of T q)) (range 1 (suc n)) ≡ concat_map (λ q. rows q (schedule_of U q)) (range 1 (suc n)) =
    λ rows i. concat_map (λ q. rows q (same q i)) (range 1 (suc n)) in
    rw (go query_rows, go place_rows, go set_rows)

finished-same : (n room : ℕ) (r o : Run) (f g : Fault) → f ≡ g → (g ≡ sound → (q : ℕ) → schedule_of r.schedules q ≡ schedule_of o.schedules q)
    → finished n room r f ≡ finished n room o g
finished-same n room r o f g e same = ap (finished n room r) e ∙ go g same
  where
    go : (g : Fault) → (g ≡ sound → (q : ℕ) → schedule_of r.schedules q ≡ schedule_of o.schedules q) → finished n room r g ≡ finished n room o g
    go sound same = ap (fitting room) (text_same n r.schedules o.schedules (same refl))
    go (undefined l c) same = refl
    go (used_before l c) same = refl
    go (lengths l c) same = refl
    go index_variable same = refl

pub analysed-once : (c : Counts) (x : Special) (t : List ℕ) → Within c → first_line c (in_tables t) ≡ 0
    → (room : ℕ) → analysed (sheet_of c x t) room ≡ analysed_once (sheet_of c x t) room
unfolding analysed analysed_once schedule_once
analysed-once c x t few none room =
    finished-same _ room (analyze_query_snippet (sheet_of c x t)) (analyze_query_snippet_once (sheet_of c x t)) _ _
    (accepted-fault c x t few none) (accepted-schedules c x t few none)

-- Laws of `Agree`.
use mathlib.Core.Path.{◌≡◌, sym, ap₂, subst₂, ◌∙◌}
use mathlib.Core.Bool.{Bool, ◌&&◌}
use mathlib.Core.List.{List, map}
use Prim.Native.Nat.{ℕ, ◌/◌, ◌%◌}
use lib.Dec.{eqb, leb}
use Rattle.base.specs.Limits as limits
use Rattle.base.specs.Limits.{library}
use Rattle.base.specs.Lists.{all}
use Rattle.order.specs.Definitions as turns
use Rattle.order.specs.Call.{definitions, within, accepts}
use Rattle.order_records.specs.declared.Definition.{Definition}
use Rattle.order_records.specs.Records.{rows_of_records, definition_of, accepts_records}
use Rattle.order_records.proofs.Laws.RowLaws.{records_rows_length, rows-define}
use Rattle.order_records.proofs.Laws.Question.{accepts-rows}
use Rattle.nokchbem.specs.Calls.{ScheduleCall, RecordsCall}
use Rattle.promises.specs.Scheduler.{Leaves, SameList}

module _ (n room marks : ℕ) {r : ℕ} {o m : List ℕ} where
  pub flat_leaves : (ws : List ℕ) → ScheduleCall ws n room marks r o m → Leaves (accepts library ws n room marks) (definitions 10 ws) n room marks r o m
  flat_leaves ws s = record { returned = s.returned; ordered = s.ordered; marked = s.marked }

  -- The call over records, in terms of the records alone.
  pub records_leave : (ds : List Definition) → RecordsCall ds n room marks r o m
      → Leaves (accepts_records ds n room marks) (map definition_of ds) n room marks r o m
  records_leave ds s =
      subst₂ (λ (a : Bool) (defs : List turns.Definition). Leaves a defs n room marks r o m) (accepts-rows ds n room marks) (rows-define ds)
      (flat_leaves (rows_of_records ds) s)

same_question : (ws : List ℕ) (ds : List Definition) (n room marks : ℕ) → SameList ws ds → accepts library ws n room marks ≡ accepts_records ds n room marks
unfolding accepts
same_question ws ds n room marks l =
    ap₂
    (λ (k : ℕ) (defs : List turns.Definition).
    eqb (k % 10) 0 && (leb n limits.most_statements && (leb (k / 10) limits.most_definitions && (leb n room && (leb n marks && all (within library n) defs)))))
    (l.long ∙ sym (records_rows_length ds)) (l.define ∙ sym (rows-define ds))
    ∙ accepts-rows ds n room marks

-- The two calls return and leave the same on the same list.
pub calls_agree : (ws : List ℕ) (ds : List Definition) → SameList ws ds → (n room marks : ℕ) {r r' : ℕ} {o o' m m' : List ℕ}
    → ScheduleCall ws n room marks r o m → RecordsCall ds n room marks r' o' m' → (r ≡ r') × (o ≡ o') × (m ≡ m')
calls_agree ws ds l n room marks {r} {r'} {o} {o'} {m} {m'} flat records =
    let s = subst₂ (λ (a : Bool) (defs : List turns.Definition). Leaves a defs n room marks r o m)
    (same_question ws ds n room marks l) l.define (flat_leaves n room marks ws flat) in
    let t = records_leave n room marks ds records in
    (s.returned ∙ sym t.returned, s.ordered ∙ sym t.ordered, s.marked ∙ sym t.marked)

-- Laws of `Scheduler`.
use mathlib.Core.Path.{◌≡◌, refl, sym, ap, ◌∙◌, subst}
use mathlib.Core.Bool.{Bool, true, false}
use mathlib.Core.List.{List, ◌++◌, map}
use Prim.Native.Nat.{ℕ, ◌-◌, ◌%◌}
use native.Mathlib.Omega.{arith}
use lib.Dec.{eqb, ltb, leb}
use lib.ListN.{length, replicate}
use borrow.Author.Tests.{leb-true}
use Rattle.base.proofs.Laws.Truth.{and_right}
use Rattle.base.specs.Limits as limits
use Rattle.base.specs.Limits.{library}
use Rattle.base.specs.Lists.{all, range}
use Rattle.base.proofs.Laws.Members.{all_mem}
use Rattle.order.specs.Definitions as turns
use Rattle.order.specs.Definitions.{Named}
use Rattle.order.specs.Turns.{placed, mark}
use Rattle.order.proofs.Laws.Shared.{plain_walks}
use Rattle.order.specs.Call.{row_count, definitions, within, accepts, schedule_number, outcome}
use Rattle.order_records.specs.declared.Definition.{Definition}
use Rattle.order_records.specs.Records.{definition_of, accepts_records}
use Rattle.nokchbem.specs.Calls.{ScheduleCall, RecordsCall}
use Rattle.promises.specs.Scheduler.{Leaves, Refused, ListMeaning}
use Rattle.promises.proofs.Laws.Agree.{flat_leaves, records_leave}
use Rattle.promises.proofs.Laws.Listing.{mark-one, mark-none}

-- ---- of any list

named-below : (n : ℕ) (defs : List turns.Definition) → all (within library n) defs ≡ true → Named defs limits.per_name
named-below n defs h d m =
    let v = leb-true d.var library.names (and_right (ltb d.statement n) (leb d.var library.names) (all_mem (within library n) defs h m)) in
    omega arith

-- The number returned of a list that is taken is the mark placed.
number-mark : (b : Bool) → schedule_number (outcome true b) ≡ mark b
number-mark true = refl
number-mark false = refl

one_or_none : (b : Bool) → (mark b ≡ 1 → ⊥) → mark b ≡ 0
one_or_none true e = absurd (e refl)
one_or_none false e = refl

module _ (defs : List turns.Definition) (n room marks : ℕ) {r : ℕ} {o m : List ℕ} where
  refused : Leaves false defs n room marks r o m → Refused room marks r o m
  refused l = record {
    parts = record { the_number = rw l.returned; the_line = rw l.returned; the_col = rw l.returned };
    no_order = l.ordered;
    no_marks = l.marked;
  }

  meaning : Named defs limits.per_name → Leaves true defs n room marks r o m → ListMeaning defs n room marks r o m
  meaning named l =
      let p = plain_walks defs n limits.per_name named in
      let is : r ≡ mark (placed defs n limits.per_name) = l.returned ∙ number-mark (placed defs n limits.per_name) in
      let has : r ≡ 1 → placed defs n limits.per_name ≡ true = λ e. mark-one _ (sym is ∙ e) in
      let behind : List ℕ → List ℕ = λ q. q ++ replicate (room - n) 0 in
      record {
        marked = λ π ρ others perm moved picks ended.
            l.marked
            ∙ ap (λ (g : ℕ → Bool). map (λ i. mark (g i)) (range 0 n) ++ replicate (marks - n) 0)
            (λ d i. p.shared π ρ others perm moved picks ended i d);
        placed_exactly = (λ e. p.walkable.0 (has e), λ q. is ∙ ap mark (p.walkable.1 q));
        no_other = λ e. is ∙ one_or_none (placed defs n limits.per_name) (λ f. e (is ∙ f));
        order_of_turns = λ e.
            let t = p.in_turns (has e) in
            let h = p.order-placed (has e) in
            (l.ordered ∙ ap behind t, rw t at h.0, rw t at h.1);
        order_as_written = λ e. l.ordered ∙ ap behind (p.order-unplaced (mark-none _ (sym is ∙ e)));
      }

-- ---- `nokchbem_schedule`

module _ {ws : List ℕ} {n room marks r : ℕ} {o m : List ℕ} (call : ScheduleCall ws n room marks r o m) where
  -- Exactly the lists that the question refuses are refused.
  pub schedule_refuses : accepts library ws n room marks ≡ false → Refused room marks r o m
  schedule_refuses h =
      refused (definitions 10 ws) n room marks
      (subst (λ (b : Bool). Leaves b (definitions 10 ws) n room marks r o m) h (flat_leaves n room marks ws call))

  -- Every other list has its meaning.
  pub schedule_means : accepts library ws n room marks ≡ true → ListMeaning (definitions 10 ws) n room marks r o m
  unfolding accepts
  schedule_means h =
      meaning (definitions 10 ws) n room marks (named-below n (definitions 10 ws) (asked h))
      (subst (λ (b : Bool). Leaves b (definitions 10 ws) n room marks r o m) h (flat_leaves n room marks ws call))
    where
      asked : accepts library ws n room marks ≡ true → all (within library n) (definitions 10 ws) ≡ true
      asked a =
          and_right (leb n marks) _ (and_right (leb n room) _ (and_right (leb (row_count 10 ws) limits.most_definitions) _ (and_right (leb n limits.most_statements) _ (and_right (eqb (length ws % 10) 0) _ a))))

-- ---- `nokchbem_schedule_records`

module _ (ds : List Definition) {n room marks r : ℕ} {o m : List ℕ} (call : RecordsCall ds n room marks r o m) where
  pub records_refuse : accepts_records ds n room marks ≡ false → Refused room marks r o m
  records_refuse h =
      refused (map definition_of ds) n room marks
      (subst (λ (b : Bool). Leaves b (map definition_of ds) n room marks r o m) h (records_leave n room marks ds call))

  pub records_mean : accepts_records ds n room marks ≡ true → ListMeaning (map definition_of ds) n room marks r o m
  unfolding accepts_records
  records_mean h =
      meaning (map definition_of ds) n room marks (named-below n (map definition_of ds) (asked h))
      (subst (λ (b : Bool). Leaves b (map definition_of ds) n room marks r o m) h (records_leave n room marks ds call))
    where
      asked : accepts_records ds n room marks ≡ true → all (within library n) (map definition_of ds) ≡ true
      asked a = and_right (leb n marks) _ (and_right (leb n room) _ (and_right (leb (length ds) limits.most_definitions) _ (and_right (leb n limits.most_statements) _ a)))

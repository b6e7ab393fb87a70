-- Laws of `Pending`.
use mathlib.Core.Path.{◌≡◌, refl, sym, ◌∙◌}
use mathlib.Core.Bool.{Bool, true, false}
use mathlib.Core.List.{List}
use mathlib.Core.Option.{Option, none, some}
use Prim.Native.Nat.{ℕ, ◌≤◌}
use native.Mathlib.Omega.{arith}
use borrow.Author.Tests.{ne_eqb}
use Rattle.base.specs.Limits as limits
use Rattle.names_width.specs.declared.Width.{Width}
use Rattle.answer_blocks.specs.Inner.Layout.{word_at}
use Rattle.sheet.specs.declared.Row.{Row}
use Rattle.sheet.specs.Kinds.{is_compr}
use Rattle.definition.specs.States.{QuerySchedule, schedule_of}
use Rattle.answer_text.specs.Inner.Stored.{StoredAt, Stored}
use Rattle.definition_state.specs.declared.Progress.{Progress}
use Rattle.definition_state.specs.Inner.Faults.{is_sound}
use Rattle.definition_state.specs.Inner.Table.{answers_of}
use Rattle.definition_comprs.specs.Inner.Pending.{unscheduled_at, pending_at}

-- ---- the ways out of the code

module _ (v : Width) (work : List ℕ) (q state : ℕ) (is : state ≡ word_at v (answers_of v work) q 0) where
  pub not-analysed : state ≡ 0 → q ≡ unscheduled_at v work q
  not-analysed z = rw (sym is, z)

  pub not_pending : (state ≡ 0 → ⊥) → 0 ≡ unscheduled_at v work q
  not_pending ne = rw (sym is, ne_eqb state 0 ne)

module _ (p : Progress) (w : Row) (work : List ℕ) (b : Bool) (is : b ≡ is_compr w) where
  pub no_compr : b ≡ false → 0 ≡ pending_at p w work
  no_compr f = rw (sym is, f)

  module _ (c : b ≡ true) (d : Bool) (sounds : d ≡ is_sound p.fault) where
    pub fault_not_pending : d ≡ false → 0 ≡ pending_at p w work
    fault_not_pending f = rw (sym is, c, sym sounds, f)

    pub pending_asked : d ≡ true → (r : ℕ) → r ≡ unscheduled_at p.width work w.third → r ≡ pending_at p w work
    pending_asked s r e = rw (sym is, c, sym sounds, s) e

-- ---- what it says of the schedules

module _ (v : Width) (work : List ℕ) (schedules : List QuerySchedule) (stored : Stored v (answers_of v work) schedules) (q : ℕ) (from : 1 ≤ q) (to : q ≤ limits.most_queries) where
  some_schedule : unscheduled_at v work q ≡ 0 → (a : QuerySchedule) × (schedule_of schedules q ≡ some a)
  some_schedule z = go (schedule_of schedules q) (stored q from to)
    where
      go : (o : Option QuerySchedule) → StoredAt v (answers_of v work) q o → (a : QuerySchedule) × (o ≡ some a)
      go none h = let e : unscheduled_at v work q ≡ q = rw h in absurd (omega (arith, e, z))
      go (some a) h = (a, refl)

  no_schedule : (unscheduled_at v work q ≡ 0 → ⊥) → (unscheduled_at v work q ≡ q) × (schedule_of schedules q ≡ none)
  no_schedule ne = go (schedule_of schedules q) (stored q from to)
    where
      go : (o : Option QuerySchedule) → StoredAt v (answers_of v work) q o → (unscheduled_at v work q ≡ q) × (o ≡ none)
      go none h = (rw h, refl)
      go (some a) h =
          let some : word_at v (answers_of v work) q 0 ≡ 0 → ⊥ = λ z. absurd (omega (arith, z, h.placed)) in
          let e : unscheduled_at v work q ≡ 0 = rw (ne_eqb (word_at v (answers_of v work) q 0) 0 some) in
          absurd (ne e)

module _ (p : Progress) (w : Row) (work : List ℕ) (schedules : List QuerySchedule) (stored : Stored p.width (answers_of p.width work) schedules)
    (from : 1 ≤ w.third) (to : w.third ≤ limits.most_queries) (is : is_compr w ≡ true) (sound : is_sound p.fault ≡ true) where
  asks : pending_at p w work ≡ unscheduled_at p.width work w.third
  asks = rw (is, sound)

  pub pending_scheduled : pending_at p w work ≡ 0 → (a : QuerySchedule) × (schedule_of schedules w.third ≡ some a)
  pending_scheduled z = some_schedule p.width work schedules stored w.third from to (sym asks ∙ z)

  pub pending : (pending_at p w work ≡ 0 → ⊥) → (pending_at p w work ≡ w.third) × (schedule_of schedules w.third ≡ none)
  pending ne =
      let h = no_schedule p.width work schedules stored w.third from to (λ z. ne (asks ∙ z)) in
      (asks ∙ h.0, h.1)

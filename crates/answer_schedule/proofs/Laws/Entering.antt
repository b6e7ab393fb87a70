-- The schedule of a query enters the table by what the scheduler and the store leave.
use mathlib.Core.Path.{◌≡◌, refl, sym, ap, ◌∙◌, subst}
use mathlib.Core.Bool.{Bool}
use mathlib.Core.List.Memᴰ
use mathlib.Core.List.{List, ◌∷◌, Memᴰ}
use mathlib.Core.Logic.{◌⊎◌, inl, inr, ⊎_elim}
use mathlib.Core.Option.{Option, none, some}
use Prim.Native.Nat.{ℕ, ◌+◌, ◌-◌, ◌*◌, ◌≤◌, ◌<◌}
use native.Mathlib.Omega.{arith}
use lib.Dec.{eqb}
use lib.ListN.{length, get_or, take}
use borrow.Author.Tests.{eqb-true}
use Rattle.base.specs.Limits as limit
use Rattle.base.proofs.Laws.Truth.{lt_cases}
use Rattle.names_width.specs.declared.Width.{Width}
use Rattle.names_width.specs.Widths.{limits}
use Rattle.names_width.specs.Inner.Widths.{set_words, row_words}
use Rattle.answer_blocks.specs.Inner.Layout.{answers_size, word_at}
use Rattle.order.specs.Turns as turns
use Rattle.order.specs.Call.{definitions}
use Rattle.order_bounds.specs.Inner.Answers as bounds
use Rattle.order_schedule.specs.Inner.Call.{Arranged}
use Rattle.sheet.specs.Sheet.{name_bound}
use Rattle.definition.specs.States.{QuerySchedule, schedule_of}
use Rattle.order.specs.Turns.{mark}
use Rattle.base.proofs.Laws.ListLaws.{find-some}
use Rattle.definition_room.specs.Inner.Adds.{FitsSchedule}
use Rattle.scope_state.specs.declared.Scope.{Scope}
use Rattle.scope_walk.specs.Inner.Sheets.{sheet_at, Accepted, query_count}
use Rattle.answer_text.specs.Inner.Stored.{PlaceIn, StoredAt, Stored}
use Rattle.answer_store.specs.Inner.Words.{place_word}
use Rattle.answer_store.proofs.Laws.Kept.{Gives, ApartFrom, stored_next, bases_stay, span_in_lem}
use Rattle.definition_state.proofs.Laws.HeldExact.{Exact, held_exact}
use Rattle.definition_state.proofs.Laws.Narrow.{locals-fit, unscoped-fit, inputs-fit}
use Rattle.definition_state.specs.Inner.Table.{answers_of, Low, count_at, base_at, Table}
use Rattle.answer_schedule.proofs.Laws.Counts.{count_past}
use Rattle.answer_schedule.proofs.Laws.Bases.{base_apart, Roomy}
use Rattle.answer_schedule.proofs.Laws.SameOrder.{AllAmong, same-placed}
use Rattle.answer_schedule.proofs.Laws.RowsOf.{rows-within, within-rows, rows-accepted}
use Rattle.answer_schedule.proofs.Laws.Places.{place_in}
use Rattle.answer_schedule.specs.Inner.Concluded.{AnswerWritten, Ending, Schedulable, Concluded}

-- A query's rows are a list that the scheduler takes.
pub schedulable : (v : Width) (t w : List ℕ) (q : ℕ) (k : Scope) (l : List ℕ) (c : ℕ) (a : QuerySchedule) → row_words v * c ≤ length w → Ending v t w q k l c a
    → Schedulable v t w q c
schedulable v t w q k l c a long f =
    let small : count_at t q ≤ limit.most_statements = omega (arith, f.whole, f.bounds.few-statements) in
    rows-accepted v w c long a.definitions (held_exact v w c a.definitions f.rows f.low.used) (omega (arith, f.few, f.bounds.few-definitions))
    (count_at t q) limit.most_statements limit.most_statements small small small (λ d m. omega (arith, f.bounds.stated d m, f.whole)) f.bounds.named

-- The rows as the scheduler is lent them, where a row has m words, and there are n statements.
module _ (v : Width) (w : List ℕ) (m c n : ℕ) (is : m ≡ row_words v) where
  pub lent-taken : (t : List ℕ) (q : ℕ) → n ≡ count_at t q → Schedulable v t w q c → bounds.AcceptedList (limits v) (take (m * c) w) n limit.most_statements limit.most_statements
  lent-taken t q count a = rw (is, count) a

  pub lent_arranged : (all : Bool) (order reached : List ℕ) → Arranged (limits v) (take (m * c) w) n limit.most_statements limit.most_statements all order reached
      → Arranged (limits v) (take (row_words v * c) w) n limit.most_statements limit.most_statements all order reached
  lent_arranged all order reached = subst (λ (y : ℕ). Arranged (limits v) (take (y * c) w) n limit.most_statements limit.most_statements all order reached) is

module _ (v : Width) (t : List ℕ) (ok : Accepted t) (roomy : Roomy t) (w : List ℕ) (q : ℕ) (low : 1 ≤ q) (high : q ≤ query_count t) where
  -- The places of the other queries in the table lie elsewhere.
  apart : (schedules : List QuerySchedule) → Table v t w schedules → ApartFrom v (answers_of v w) q (word_at v (answers_of v w) q 3) (count_at t q)
  apart schedules table p from to other analysed some-place = go (schedule_of schedules p) refl (table.stored p from to)
    where
      beside : count_at t p ≡ word_at v (answers_of v w) p 2 → (p ≤ query_count t)
          → (word_at v (answers_of v w) p 3 + word_at v (answers_of v w) p 2 ≤ word_at v (answers_of v w) q 3)
          ⊎ (word_at v (answers_of v w) q 3 + count_at t q ≤ word_at v (answers_of v w) p 3)
      beside count within = side (lt_cases p q)
        where
          side : (p < q) ⊎ (q ≤ p)
              → (word_at v (answers_of v w) p 3 + word_at v (answers_of v w) p 2 ≤ word_at v (answers_of v w) q 3)
              ⊎ (word_at v (answers_of v w) q 3 + count_at t q ≤ word_at v (answers_of v w) p 3)
          side (inl h) = inl (omega (arith, table.based p from within, table.based q low high, count, base_apart t p q from h))
          side (inr h) = inr (omega (arith, table.based p from within, table.based q low high, base_apart t q p low (omega (arith, h, other))))

      go : (o : Option QuerySchedule) → schedule_of schedules p ≡ o → StoredAt v (answers_of v w) p o
          → (word_at v (answers_of v w) p 3 + word_at v (answers_of v w) p 2 ≤ word_at v (answers_of v w) q 3)
          ⊎ (word_at v (answers_of v w) q 3 + count_at t q ≤ word_at v (answers_of v w) p 3)
      go none e s = absurd (omega (arith, s, analysed))
      go (some b) e s =
          let r = find-some (λ (x : QuerySchedule). eqb x.query p) schedules e in
          let count : count_at t p ≡ word_at v (answers_of v w) p 2 =
          ap (count_at t) (sym (eqb-true b.query p r.1)) ∙ sym (table.fits b r.0).whole ∙ sym s.count in
          ⊎_elim (λ (h : p < query_count t + 1). beside count (omega arith))
          (λ (h : query_count t + 1 ≤ p). absurd (omega (arith, count, count_past t ok p (omega arith), some-place)))
          (lt_cases p (query_count t + 1))

  module _ (k : Scope) (l : List ℕ) (c : ℕ) (room : row_words v * c + answers_size v ≤ length w) (n : ℕ) (count : n ≡ count_at t q) (all : Bool)
      (order reached : List ℕ) (s : Arranged (limits v) (take (row_words v * c) w) n limit.most_statements limit.most_statements all order reached) where
    -- What is stored is of the schedule.
    gives : (a : QuerySchedule) → Ending v t w q k l c a → Gives v a k l n all order reached
    gives a f = record {
      sets = f.scope.sets;
      locals = locals-fit v k a.scope f.scope.sets f.low.scope;
      unscoped = unscoped-fit v k a.scope f.scope.sets f.low.scope;
      inputs = inputs-fit v k a.scope f.scope.sets f.low.scope;
      spans = λ x p is. span_in_lem (f.scope.placed x p is);
      counted = e;
      all =
          s.came-to ∙ same-placed (definitions (row_words v) (take (row_words v * c) w)) a.definitions up down n name_bound
          ∙ ap (λ (m : ℕ). turns.placed a.definitions m name_bound) (sym e);
      places = λ j h.
          subst (λ (m : ℕ).
          let i = get_or (turns.order a.definitions m name_bound) j 0 in
          PlaceIn (place_word order reached j) i (mark (turns.reached a.definitions m name_bound i)))
          (sym e) (place_in (limits v) (take (row_words v * c) w) n limit.most_statements limit.most_statements all order reached s (omega (arith, e, f.bounds.few-statements)) a.definitions up down j h);
    }
      where
        e : a.count ≡ n
        e = f.whole ∙ sym count

        exact : Exact v w c a.definitions
        exact = held_exact v w c a.definitions f.rows f.low.used

        up : AllAmong (definitions (row_words v) (take (row_words v * c) w)) a.definitions
        up = rows-within v w c (omega (arith, room)) a.definitions exact

        down : AllAmong a.definitions (definitions (row_words v) (take (row_words v * c) w))
        down = within-rows v w c (omega (arith, room)) a.definitions exact

    pub concluded : (y : List ℕ) → y ≡ answers_of v w → (p : List ℕ)
        → AnswerWritten v y q k l n all order reached p → (u : List ℕ) → answers_of v u ≡ p → length u ≡ length w
        → ((j : ℕ) → j < length w - answers_size v → get_or u j 0 ≡ get_or w j 0) → Concluded v t w q k l c u
    concluded y lent p stores u is long front = record { front = front; enters = enters }
      where
        written : AnswerWritten v (answers_of v w) q k l n all order reached p
        written = subst (λ (x : List ℕ). AnswerWritten v x q k l n all order reached p) lent stores

        few : query_count t ≤ limit.most_queries
        few = ok.within.few-queries

        enters : (a : QuerySchedule) (schedules : List QuerySchedule) → Ending v t w q k l c a → Table v t w schedules → Table v t u (a ∷ schedules)
        enters a schedules f table = record {
          enough = omega (arith, long, table.enough);
          stored =
              subst (λ (x : List ℕ). Stored v x (a ∷ schedules)) (sym is)
              (stored_next v (answers_of v w) q k l n (word_at v (answers_of v w) q 3) all order reached low (omega (arith, high, few)) within
              written.between written.block p written.places schedules table.stored
              (subst (ApartFrom v (answers_of v w) q (word_at v (answers_of v w) q 3)) (sym count) (apart schedules table)) a f.query (gives a f));
          based = λ x from to.
              subst (λ (y : List ℕ). word_at v y x 3 ≡ base_at t x) (sym is)
              (bases_stay v (answers_of v w) q k l n (word_at v (answers_of v w) q 3) all order reached low (omega (arith, high, few)) within
              written.between written.block p written.places refl x from (omega (arith, to, few)) ∙ table.based x from to);
          fits = λ b m.
              ⊎_elim (λ (e : b ≡ a). subst (FitsSchedule (sheet_at t)) (sym e) f.fits) (λ (i : Memᴰ b schedules). table.fits b i)
              (Memᴰ.cases_cons m);
          narrow = table.narrow;
          low = λ b m.
              ⊎_elim (λ (e : b ≡ a). subst (λ (x : QuerySchedule). Low (64 * set_words v) x.scope x.definitions) (sym e) f.low)
              (λ (i : Memᴰ b schedules). table.low b i) (Memᴰ.cases_cons m);
        }
          where
            within : word_at v (answers_of v w) q 3 + n ≤ limit.most_statements
            within = omega (arith, table.based q low high, roomy q low high, count)

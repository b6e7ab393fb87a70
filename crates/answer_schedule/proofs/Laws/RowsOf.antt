-- The scheduler is given the rows of a query's definitions, which list them in some order, and some of them again.
use mathlib.Core.Path.{◌≡◌, sym, ◌∙◌, subst}
use mathlib.Core.List.{List, Memᴰ}
use Prim.Native.Nat.{ℕ, ◌*◌, ◌/◌, ◌≤◌, ◌<◌}
use native.Mathlib.Nat.{mul-le-mul_left, mul-suc}
use native.Mathlib.Omega.{arith}
use lib.ListN.{length, take}
use lib.Seq.{get_or-take, length-take-le}
use Rattle.base.specs.Limits as limit
use Rattle.names_width.specs.declared.Width.{Width}
use Rattle.names_width.specs.declared.Width.TheVariants.{Two, Eight}
use Rattle.names_width.specs.Widths.{limits}
use Rattle.names_width.specs.Inner.Widths.{names, row_words}
use Rattle.names_width.proofs.Laws.Laws.{row_two}
use Rattle.order.specs.Definitions.{Definition}
use Rattle.order.specs.Call.{row_count, definition_at, definitions}
use Rattle.order_rows.proofs.Laws.RowLaws.{row_listed, listed-row, row_same}
use Rattle.order_bounds.specs.Inner.Answers.{AcceptedList}
use Rattle.definition_state.proofs.Laws.HeldExact.{Exact}
use Rattle.answer_schedule.proofs.Laws.SameOrder.{AllAmong}

-- So many words are whole rows.
rows_are : (v : Width) (c n : ℕ) → n ≡ row_words v * c → n / row_words v ≡ c
rows_are Two c n e = omega arith
rows_are Eight c n e = omega arith

module _ (v : Width) (w : List ℕ) (c : ℕ) (long : row_words v * c ≤ length w) (defs : List Definition) (exact : Exact v w c defs) where
  rows_long : length (take (row_words v * c) w) ≡ row_words v * c
  rows_long = length-take-le (row_words v * c) w long

  rows-counted : row_count (row_words v) (take (row_words v * c) w) ≡ c
  rows-counted = rows_are v c _ rows_long

  same : (j : ℕ) → j < c → definition_at (row_words v) (take (row_words v * c) w) j ≡ definition_at (row_words v) w j
  same j l =
      row_same (row_words v) (row_two v) (take (row_words v * c) w) w j
      (λ i a b. get_or-take (row_words v * c) w i 0 (omega (arith, b, mul-le-mul_left (row_words v) l, mul-suc (row_words v) j)))

  pub rows-within : AllAmong (definitions (row_words v) (take (row_words v * c) w)) defs
  rows-within d m =
      let r = listed-row (row_words v) (take (row_words v * c) w) m in
      let l : r.0 < c = omega (arith, r.1, rows-counted) in
      subst (λ (e : Definition). Memᴰ e defs) (sym (same r.0 l) ∙ r.2) (exact.each r.0 l)

  pub within-rows : AllAmong defs (definitions (row_words v) (take (row_words v * c) w))
  within-rows d m =
      let r = exact.all d m in
      subst (λ (e : Definition). Memᴰ e (definitions (row_words v) (take (row_words v * c) w))) (same r.0 r.1 ∙ r.2)
      (row_listed (row_words v) (take (row_words v * c) w) r.0 (omega (arith, r.1, rows-counted)))

  -- The scheduler takes them.
  pub rows-accepted : c ≤ limit.most_definitions → (n room marks : ℕ) → n ≤ limit.most_statements → n ≤ room → n ≤ marks
      → ((d : Definition) → Memᴰ d defs → d.statement < n) → ((d : Definition) → Memᴰ d defs → d.var ≤ names v)
      → AcceptedList (limits v) (take (row_words v * c) w) n room marks
  rows-accepted few n room marks small ordered marked stated named = record {
    few = small;
    fits = omega (arith, rows-counted);
    ordered = ordered;
    marked = marked;
    stated = λ k l. stated (definition_at (row_words v) (take (row_words v * c) w) k) (listed k l);
    named = λ k l. named (definition_at (row_words v) (take (row_words v * c) w) k) (listed k l);
  }
    where
      listed : (k : ℕ) → k < row_count (row_words v) (take (row_words v * c) w) → Memᴰ (definition_at (row_words v) (take (row_words v * c) w) k) defs
      listed k l = rows-within _ (row_listed (row_words v) (take (row_words v * c) w) k l)

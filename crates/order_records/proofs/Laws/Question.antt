-- Laws of `Question`.
use mathlib.Core.Path.{◌≡◌}
use mathlib.Core.Bool.{true, false}
use mathlib.Core.List.{List}
use mathlib.Core.Logic.{⊎_elim}
use Prim.Native.Nat.{ℕ, ◌<◌}
use native.Mathlib.Omega.{arith}
use lib.ListN.{length, replicate}
use borrow.Author.Tests.{eq-eqb}
use Rattle.base.specs.Limits as limits
use Rattle.base.specs.Limits.{library}
use Rattle.base.proofs.Laws.Truth.{bool_cases}
use Rattle.order.specs.Call.{accepts}
use Rattle.order_bounds.proofs.Laws.Answers.{list-accepted}
use Rattle.order_schedule.specs.Inner.Call.{Scheduled}
use Rattle.order_schedule.proofs.Laws.Leaves.{refused}
use Rattle.order.specs.declared.Refused.TheVariants.{BadList}
use Rattle.std.specs.Prelude.{Err}
use Rattle.order_records.specs.declared.Definition.{Definition}
use Rattle.order_records.specs.Records.{rows_of_records, accepts_records}
use Rattle.order_records.proofs.Laws.RowLaws.{rows_whole, rows-count, rows-define}

module _ (ds : List Definition) (n room marks : ℕ) where
  -- The flat call's question of their rows is the same.
  pub accepts-rows : accepts library (rows_of_records ds) n room marks ≡ accepts_records ds n room marks
  unfolding accepts accepts_records
  accepts-rows = rw (eq-eqb _ 0 (rows_whole ds), rows-count ds, rows-define ds)

  pub too_many : limits.most_definitions < length ds → Scheduled library (rows_of_records ds) n room marks (Err BadList) (replicate room 0) (replicate marks 0)
  too_many h =
      refused library (rows_of_records ds) n room marks
      (⊎_elim (λ (a : accepts library (rows_of_records ds) n room marks ≡ true). absurd (omega (arith, (list-accepted library (rows_of_records ds) n room marks a).fits, rows-count ds, h)))
      (λ (f : accepts library (rows_of_records ds) n room marks ≡ false). f) (bool_cases (accepts library (rows_of_records ds) n room marks)))

-- In every sheet that passes question 6 each query stands at one place. So the Rust's analysis of it, which analyses a query again wherever
-- it meets its comprehension, has the same fault and the same schedules as the code's way.
use mathlib.Core.Path.{◌≡◌}
use mathlib.Core.Bool.{true}
use mathlib.Core.List.{List, []}
use Prim.Native.Nat.{ℕ}
use native.Mathlib.Omega.{arith}
use Rattle.sheet.specs.declared.Counts.{Counts}
use Rattle.sheet.specs.Inner.Records.{Within}
use Rattle.base.specs.Limits.{nesting}
use Rattle.sheet.specs.declared.Special.{Special}
use Rattle.sheet.specs.Faults.{first_line}
use Rattle.sheet_facts.proofs.Laws.Accepted.{fine-rows}
use Rattle.sheet_facts.proofs.Laws.Facts.{sheet-facts}
use Rattle.sheet.specs.Inner.Sheet.{sheet_of}
use Rattle.definition.specs.States.{sound, schedule_of}
use Rattle.definition.specs.RustWay.{analyze_query_snippet}
use Rattle.definition_once.specs.Inner.OnceWay.{analyze_query_snippet_once, schedule_once}
use Rattle.original.specs.Inner.Places.{family}
use Rattle.original.specs.Inner.QueryRepeats.{queries_once}
use Rattle.original.proofs.Laws.QueryRepeats.{rust_fault, rust_schedules}
use Rattle.original.proofs.Laws.Counting.{once-distinct}
use Rattle.original.proofs.Laws.Times.{times, times-few, family-few}
use Rattle.original.proofs.Laws.RowSums.{first_at-most}
use Rattle.sheet.specs.Inner.Rows.{in_tables}

module _ (c : Counts) (x : Special) (t : List ℕ) (few : Within c) (none : first_line c (in_tables t) ≡ 0) where
  -- Each query stands at one place.
  pub accepted-once : queries_once (sheet_of c x t) ≡ true
  unfolding queries_once
  accepted-once =
      let sheet = sheet_of c x t in
      once-distinct (family nesting sheet 1 [])
      (λ k. omega (
        arith,
        family-few k sheet nesting 1 [],
        first_at-most c x t (sheet-facts c (in_tables t) few none) (fine-rows c (in_tables t) none) (times k sheet nesting) few.some-query k (times-few k sheet nesting),
      ))

  -- The Rust's fault is that of the code's way.
  pub accepted-fault : (analyze_query_snippet (sheet_of c x t)).fault ≡ (analyze_query_snippet_once (sheet_of c x t)).fault
  accepted-fault = rust_fault (sheet_of c x t) accepted-once

  -- Without a fault each query's schedule in the Rust's table, the last that it wrote, is that of the code's way.
  pub accepted-schedules : (analyze_query_snippet_once (sheet_of c x t)).fault ≡ sound
      → (q : ℕ) → schedule_of (analyze_query_snippet (sheet_of c x t)).schedules q ≡ schedule_once (sheet_of c x t) q
  accepted-schedules = rust_schedules (sheet_of c x t) accepted-once

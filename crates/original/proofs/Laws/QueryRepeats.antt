-- Laws of `QueryRepeats`.
use mathlib.Core.Path.{◌≡◌, refl, sym, ap, ◌∙◌}
use mathlib.Core.Bool.{true}
use mathlib.Core.List.{List, [], append-nil}
use Prim.Native.Nat.{ℕ}
use Rattle.base.proofs.Laws.Truth.{not-both}
use Rattle.base.specs.Limits.{nesting}
use Rattle.sheet.specs.Sheet.{Sheet}
use Rattle.definition.specs.States.{sound, QuerySchedule, schedule_of}
use Rattle.definition.specs.RustWay.{analyze_query_snippet}
use Rattle.definition_once.specs.Inner.OnceWay.{analyze_query_snippet_once, schedule_once}
use Rattle.original.specs.Inner.Beside.{no_fault}
use Rattle.original.proofs.Laws.OnceRust.{AgreeRuns, stopped, agreed, analyze_agree}
use Rattle.original.specs.Inner.QueryRepeats.{queries_once}

-- Both analyses of a sheet agree.
snippet_agree : (sheet : Sheet) → queries_once sheet ≡ true → AgreeRuns [] (analyze_query_snippet_once sheet) (analyze_query_snippet sheet)
unfolding queries_once analyze_query_snippet_once analyze_query_snippet
snippet_agree sheet h = analyze_agree nesting sheet [] 1 [] [] h (λ x m. refl)

-- The Rust's fault is that of the code's way.
pub rust_fault : (sheet : Sheet) → queries_once sheet ≡ true → (analyze_query_snippet sheet).fault ≡ (analyze_query_snippet_once sheet).fault
rust_fault sheet h = go (snippet_agree sheet h)
  where
    go : AgreeRuns [] (analyze_query_snippet_once sheet) (analyze_query_snippet sheet)
        → (analyze_query_snippet sheet).fault ≡ (analyze_query_snippet_once sheet).fault
    go (stopped p q) = sym p
    go (agreed p q same) = q ∙ sym p

-- Without a fault each query's schedule in the Rust's table, the last that it wrote, is that of the code's way: scope, count and definitions.
pub rust_schedules : (sheet : Sheet) → queries_once sheet ≡ true → (analyze_query_snippet_once sheet).fault ≡ sound
    → (q : ℕ) → schedule_of (analyze_query_snippet sheet).schedules q ≡ schedule_once sheet q
unfolding schedule_once
rust_schedules sheet h s q = go (snippet_agree sheet h)
  where
    go : AgreeRuns [] (analyze_query_snippet_once sheet) (analyze_query_snippet sheet)
        → schedule_of (analyze_query_snippet sheet).schedules q ≡ schedule_of (analyze_query_snippet_once sheet).schedules q
    go (stopped p n) = absurd (not-both refl (sym (ap no_fault s) ∙ n))
    go (agreed p n same) =
        ap (λ (l : List QuerySchedule). schedule_of l q) (sym (append-nil (analyze_query_snippet sheet).schedules)) ∙ sym (same q)

-- A sheet that passes questions 1 to 6: its names lie below the bound, and what the analysis leaves of a query is what the form that analyses
-- each query once leaves of it.
use mathlib.Core.Path.{◌≡◌, sym, ◌∙◌, subst}
use mathlib.Core.List.{List, []}
use Prim.Native.Nat.{ℕ, ◌+◌}
use Rattle.names_width.specs.declared.Width.{Width}
use Rattle.names_width.specs.Widths.{limits}
use Rattle.sheet.specs.Sheet.{Sheet, sheet_in}
use Rattle.std.specs.Prelude.{Ok}
use Rattle.sheet.specs.Verdict.{read_counts, read_special, read_tables, verdict}
use Rattle.sheet_read.proofs.Laws.Passed.{verdict_read}
use Rattle.definition.specs.States.{sound}
use Rattle.definition.specs.RustWay.{analyze_query_snippet, schedule_in, analyze}
use Rattle.definition_once.specs.Inner.OnceWay.{schedule_once}
use Rattle.definition_once.specs.Inner.Named.{NamesBelow}
use Rattle.definition_room.proofs.Laws.LowNames.{low-names}
use Rattle.original.proofs.Laws.Accepted.{accepted-fault, accepted-schedules}
use Rattle.answer.specs.Call.{analysed}
use Rattle.original.specs.Inner.AnalysedOnce.{analysed_once}
use Rattle.original.proofs.Laws.AnalysedOnce.{analysed-once}
use Rattle.base.specs.Limits.{nesting}
use Rattle.original.specs.Inner.MoreLevels.{Alike}
use Rattle.original.proofs.Laws.LevelsSuffice as depth

module _ (v : Width) (s : List ℕ) (tables work : ℕ) (read : verdict (limits v) s tables work ≡ Ok tt) where
  pub read_names : NamesBelow (sheet_in s)
  read_names =
      let p = verdict_read v s tables work read in
      subst NamesBelow p.sheet-is (low-names (read_counts s) (read_special s) (read_tables s) p.few p.fine)

  pub read_schedules : (analyze_query_snippet (sheet_in s)).fault ≡ sound → (q : ℕ) → schedule_in (sheet_in s) q ≡ schedule_once (sheet_in s) q
  unfolding schedule_in
  read_schedules =
      let p = verdict_read v s tables work read in
      subst (λ (sheet : Sheet). (analyze_query_snippet sheet).fault ≡ sound → (q : ℕ) → schedule_in sheet q ≡ schedule_once sheet q) p.sheet-is
      (λ h q.
      accepted-schedules (read_counts s) (read_special s) (read_tables s) p.few p.fine
      (sym (accepted-fault (read_counts s) (read_special s) (read_tables s) p.few p.fine) ∙ h) q)

-- ---- each query once

-- The code analyses each query once, where the definition does so wherever it meets a comprehension: on every sheet that is read, both come to the
-- same text and to the same fault.
pub once_is_enough : (v : Width) (s : List ℕ) (tables work : ℕ) → verdict (limits v) s tables work ≡ Ok tt → (room : ℕ) → analysed (sheet_in s) room ≡ analysed_once (sheet_in s) room
once_is_enough v s tables work read room =
    let p = verdict_read v s tables work read in
    subst (λ (sheet : Sheet). analysed sheet room ≡ analysed_once sheet room) p.sheet-is
    (analysed-once (read_counts s) (read_special s) (read_tables s) p.few p.fine room)

-- Of every sheet that is read: with more levels, the answer's text and the fault are the same, and so is what every query recorded.
module _ (v : Width) (s : List ℕ) (tables work : ℕ) (read : verdict (limits v) s tables work ≡ Ok tt) (more : ℕ) where
  pub levels_alike : Alike (analyze nesting (sheet_in s) [] 1 []) (analyze (nesting + more) (sheet_in s) [] 1 [])
  levels_alike =
      let p = verdict_read v s tables work read in
      subst (λ (sheet : Sheet). Alike (analyze nesting sheet [] 1 []) (analyze (nesting + more) sheet [] 1 [])) p.sheet-is
      (depth.more_levels_alike (read_counts s) (read_special s) (read_tables s) p.few p.fine more)

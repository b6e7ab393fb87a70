-- Laws of `Levels`.
use mathlib.Core.Path.{◌≡◌, refl, sym, ap, ◌∙◌}
use mathlib.Core.Bool.{false}
use mathlib.Core.List.{List}
use Prim.Native.Nat.{ℕ, ◌+◌}
use lib.ListN.{length}
use Rattle.base.proofs.Laws.Truth.{not-both}
use Rattle.names_width.specs.declared.Width.{Width}
use Rattle.names_width.specs.Widths.{limits}
use Rattle.base.specs.Limits.{nesting}
use Rattle.sheet.specs.Sheet.{sheet_in}
use Rattle.std.specs.Prelude.{Ok}
use Rattle.sheet.specs.Verdict.{verdict}
use Rattle.definition.specs.States.{Fault, sound, undefined, used_before, lengths, index_variable, Run}
use Rattle.definition.specs.RustWay.{analyze_query_snippet}
use Rattle.answer.specs.Call.{finished, analysed}
use Rattle.original.specs.Inner.Beside.{no_fault}
use Rattle.original.specs.Inner.MoreLevels.{Alike, stopped, same}
use Rattle.promises.proofs.Laws.ReadSheets.{levels_alike}
use Rattle.promises.specs.Levels.{analysed_to}

stopped_alike : (n room : ℕ) (r o : Run) (f : Fault) → no_fault f ≡ false → finished n room r f ≡ finished n room o f
stopped_alike n room r o sound h = absurd (not-both refl h)
stopped_alike n room r o (undefined l c) h = refl
stopped_alike n room r o (used_before l c) h = refl
stopped_alike n room r o (lengths l c) h = refl
stopped_alike n room r o index_variable h = refl

alike_finished : (n room : ℕ) (r o : Run) → Alike r o → finished n room o o.fault ≡ finished n room r r.fault
alike_finished n room r o (stopped e h) = ap (finished n room o) (sym e) ∙ stopped_alike n room o r r.fault h
alike_finished n room r o (same s e) = ap (λ (x : Run). finished n room x x.fault) (sym e)

-- Of every sheet that is read: with more levels, the answer's text and the fault are the same.
module _ (v : Width) (s : List ℕ) (tables work : ℕ) (read : verdict (limits v) s tables work ≡ Ok tt) (more : ℕ) where
  pub levels_suffice : (room : ℕ) → analysed_to (nesting + more) (sheet_in s) room ≡ analysed (sheet_in s) room
  unfolding analysed analyze_query_snippet
  levels_suffice room = alike_finished (length (sheet_in s).queries) room _ _ (levels_alike v s tables work read more)

-- What a trial of the whole call is.
use mathlib.Core.Bool.{Bool, ◌&&◌}
use mathlib.Core.List.{List, [], ◌∷◌, map}
use Prim.Native.Nat.{ℕ, suc}
use Prim.Native.String.{String, ◌++◌}
use lib.ListN.{length}
use Rattle.base.specs.Limits as limits
use Rattle.base.specs.Limits.{Limits, library}
use Rattle.base.specs.Lists.{all, range, any, concat_map}
use Rattle.order.specs.Definitions.{Definition}
use Rattle.sheet.specs.Text.{bytes}
use Rattle.sheet.specs.Form.{same}
use Rattle.sheet.specs.Sheet.{Sheet, sheet_in}
use Rattle.definition.proofs.Laws.RustWay.{recorded}
use Rattle.answer.specs.Call.{Result, refused, answered, result_of, printed}

-- A sheet, the definitions that its queries record, and the text that is printed.
pub record Trial : Type 0 where
  pub sheet : String
  pub recorded : List (List ℕ)
  pub answer : String

-- ---- texts, from the rows of their sections

-- A sheet.
abbrev pub sheet_text : String → String → String → String → String → String
sheet_text names builtins exprs statements queries =
    "name\n" ++ names ++ "\narity first second third\n" ++ builtins ++ "\nkind name line col first second third next\n" ++ exprs
    ++ "\nform first second third query with next\n" ++ statements ++ "\nstatement\n" ++ queries ++ "\n"

-- An answer.
abbrev pub answers : String → String → String → String
answers queries places sets =
    "query placed input\n" ++ queries ++ "\nquery place index reached\n" ++ places ++ "\nquery set name line col\n" ++ sets ++ "\n"

-- A refusal.
abbrev pub refuses : String → String
refuses row = "refusal line col\n" ++ row ++ "\n"

-- A trial by the rows of its sheet, what is recorded, and the text.
abbrev pub trial : String → String → String → String → String → List (List ℕ) → String → Trial
trial names builtins exprs statements queries rows text =
    record { sheet = sheet_text names builtins exprs statements queries; recorded = rows; answer = text }

-- ---- the test

-- What the queries of a sheet record: a row `query statement name used..` for each definition.
abbrev pub recorded_rows : Sheet → List (List ℕ)
recorded_rows s =
    concat_map (λ q. map (λ (d : Definition). q ∷ d.statement ∷ d.var ∷ d.used) (recorded s q)) (range 1 (suc (length s.queries)))

-- Have two lists the same rows?
abbrev pub equal_rows : List (List ℕ) → List (List ℕ) → Bool
equal_rows k l = all (λ x. any (same x) l) k && all (λ x. any (same x) k) l

-- The same, unless the sheet is refused.
abbrev pub unless_refused : Result → Sheet → List (List ℕ)
unless_refused (refused n l c) s = []
unless_refused (answered text) s = recorded_rows s

-- Are these the text and the definitions, where 65,536 bytes are lent for the text, and of tables and work as much as is asked for?
abbrev pub passes_by : Limits → Trial → Bool
passes_by lim t =
    let r = result_of lim (bytes t.sheet) limits.table_entries lim.work 65536 in
    same (printed r) (bytes t.answer) && equal_rows (unless_refused r (sheet_in (bytes t.sheet))) t.recorded

abbrev pub passes : Trial → Bool
passes = passes_by library

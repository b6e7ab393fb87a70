-- What `read` leaves, with its outcome as a number. Number and line fit, so nothing wraps.
use mathlib.Core.Path.{◌≡◌, sym, ap, ap₂, subst, ◌∙◌}
use Prim.Native.Nat.{ℕ, ◌≤◌}
use native.Mathlib.Omega.{arith}
use lib.ListN.{length}
use Rattle.names_width.specs.declared.Width.TheVariants.{Eight}
use Rattle.order.specs.Call.{refusal}
use Rattle.sheet.specs.Verdict.{Outcome, fault_line, refusal_number, refusal_line, left_tables}
use Rattle.sheet_read.proofs.Laws.LineBounds.{line-fits, number_fits}
use Rattle.nokchbem.specs.Calls.{read_number}
use Rattle.nokchbem.proofs.nokchbem_read.Goals as goal

pub returns-in-Ok : goal.returns-in-Ok
returns-in-Ok c =
    let left = c.in-Ok.ensures in
    record {
      returned = ap read_number left.came-to;
      tabled = left.tabled ∙ ap (left_tables _ _) left.came-to;
      worked = left.worked;
    }

pub pack-requires : goal.pack-requires
pack-requires c =
    let start = c.args in
    let low : refusal_line c.in-Err.refusal ≤ 65535 =
    subst (λ (r : Outcome). fault_line r ≤ 65535) (sym c.in-Err.ensures.came-to)
    (line-fits Eight start.sheet.now (length start.tables.now) (length start.work.now)) in
    (omega (arith, c.number.ensures, number_fits c.in-Err.refusal), omega (arith, c.line.ensures), omega arith)

pub returns-in-Err : goal.returns-in-Err
returns-in-Err c =
    let left = c.in-Err.ensures in
    let number : c.from.result ≡ refusal_number c.in-Err.refusal = omega (arith, c.number.ensures) in
    record {
      returned =
          c.pack.ensures ∙ ap₂ (λ (n : ℕ) (l : ℕ). refusal n l 0) number c.line.ensures
          ∙ ap read_number left.came-to;
      tabled = left.tabled ∙ ap (left_tables _ _) left.came-to;
      worked = left.worked;
    }

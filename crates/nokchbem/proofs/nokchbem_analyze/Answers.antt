-- What `analyze` leaves, with its reply as a number. The parts of a reply fit, so nothing wraps.
use mathlib.Core.Path.{ap, ◌∙◌}
use native.Mathlib.Omega.{arith}
use Rattle.answer.specs.Call.{Left}
use Rattle.nokchbem.specs.Calls.{left_number}
use Rattle.nokchbem.proofs.nokchbem_analyze.Goals as goal

pub returns : goal.returns
returns c =
    let left = c.analyze-reply.ensures in
    record {
      returned = c.pack.ensures ∙ ap left_number left;
      line-fits = omega (arith, ap (λ (l : Left). l.line) left);
      col-fits = omega (arith, ap (λ (l : Left). l.col) left);
      tabled = ap (λ (l : Left). l.tables) left;
      worked = ap (λ (l : Left). l.work) left;
      answered = ap (λ (l : Left). l.answer) left;
    }

-- The loop's invariant: what is put of the queries in front.
use mathlib.Core.List.{List}
use Prim.Native.Nat.{ℕ, ◌+◌, ◌≤◌}
use Rattle.answer_write.specs.Inner.Texts.{Extends}
use Rattle.answer_text.specs.Inner.Ranges.{texts, AddsEach}
use Rattle.answer_text.proofs.sections.put_section.Given as goal

abbrev pub invariant-loop-q : goal.invariant-loop-q
invariant-loop-q g l =
    (l.q ≤ l.queries + 1)
    × ((f : ℕ → List ℕ) → AddsEach (λ t q u. goal.F-post g l.put t q tt u) f → Extends l.initial.text (texts f 1 l.q) l.text)

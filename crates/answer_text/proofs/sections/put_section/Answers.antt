use Prim.Native.Nat.{◌+◌}
use native.Mathlib.Omega.{arith}
use Rattle.answer_text.proofs.Laws.Lines.{run_first, run_next, section_adds}
use Rattle.answer_text.proofs.sections.put_section.Goals.{else-loop-q-test, then-loop-q-test+else-q-queries}
use Rattle.answer_text.proofs.sections.put_section.Goals as goal

pub loop-q-init : goal.loop-q-init
loop-q-init g c = (omega arith, λ f each. run_first f _ 1)

pub loop-q-preserved : goal.loop-q-preserved
loop-q-preserved g c =
    let q = c.loop-q.q in (
      omega arith,
      λ f each. run_next f _ 1 q (omega arith) _ _ (c.loop-q.invariant.1 f each) (each _ _ q (omega arith) (omega (arith, c.requires.few)) c.put.ensures),
    )

-- No query is left, or the last one is put.
pub returns : goal.returns
returns g c = λ f each.
    let q = c.loop-q.q in
    let lines = c.loop-q.invariant.1 f each in
    elim c.loop-q-test.branch [
      | else-loop-q-test w ↦ section_adds f _ _ _ _ c.put_bytes.ensures q (omega arith) _ lines _ w.text-is _ c.put-2.ensures
      | then-loop-q-test+else-q-queries w ↦ section_adds f _ _ _ _ c.put_bytes.ensures (q + 1) (omega arith) _
          (run_next f _ 1 q (omega arith) _ _ lines (each _ _ q (omega arith) (omega (arith, c.requires.few)) w.put.ensures)) _ w.text-is _ c.put-2.ensures
    ]

use mathlib.Core.Path.{◌≡◌, refl, sym, ap, ap₂, ◌∙◌, subst}
use Prim.Native.Nat.{ℕ, ◌+◌, ◌-◌}
use native.Mathlib.Omega.{arith}
use lib.ListN.{length, set, length-set}
use Rattle.definition_room.specs.Inner.Sums.{sum_to}
use Rattle.definition_state.specs.Inner.Table.{count_at}
use Rattle.answer_schedule.proofs.Laws.Counts.{count-few}
use Rattle.answer_schedule.proofs.Laws.Bases.{sum_none, sum_next, bases_few, BasedTo, based-none, based-next, no_schedule}
use Rattle.answer_schedule.proofs.bases.set_bases.Goals.{After-place_of}
use Rattle.answer_schedule.proofs.bases.set_bases.Goals as goal

pub loop-q-init : goal.loop-q-init
loop-q-init c =
    let cleared = c.clear_states in
    (refl, sum_none _, based-none _ _ cleared.new.work cleared.ensures)

pub overflow_add-base : goal.overflow_add-base
overflow_add-base c =
    let pre = c.requires in
    let loop = c.loop-q in
    let q = loop.q in
    let t = c.args.tables.now in
    omega (
      arith,
      pre.0.within.few-queries,
      loop.invariant.1,
      bases_few t pre.0 (q - 1),
      count-few t pre.0 q,
      c.count_stmts-base.ensures,
    )

-- The base of query q is written too.
put : (c : After-place_of) → (let q = c.loop-q.q in
    BasedTo c.args.tables.now c.args.width (set c.loop-q.work (length c.clear_states.new.work - c.answers_of.result + c.place_of.result) c.loop-q.base) (q - 1 + 1))
put c =
    let pre = c.requires in
    let inv = c.loop-q.invariant in
    based-next _ _ _ _ inv.2 (omega (arith, pre.2, inv.0, c.clear_states.auto.work)) (omega (arith, pre.0.within.few-queries)) _
    (omega (arith, inv.0, c.answers_of.ensures, c.place_of.ensures)) _ inv.1

pub loop-q-preserved : goal.loop-q-preserved
loop-q-preserved c =
    let inv = c.loop-q.invariant in
    let q = c.loop-q.q in
    let count = count_at c.args.tables.now in
    let here : q - 1 + 1 ≡ q = omega arith in
    let next : q - 1 + 1 ≡ q + 1 - 1 = omega arith in (
      length-set c.loop-q.work _ c.loop-q.base ∙ inv.0,
      ap₂ ◌+◌ inv.1 c.count_stmts-base.ensures
          ∙ sym (ap (sum_to count) (sym next) ∙ sum_next count (q - 1) ∙ ap (λ (n : ℕ). sum_to count (q - 1) + count n) here),
      subst (BasedTo c.args.tables.now c.args.width _) next (put (goal.at.loop-q-preserved c).After-place_of),
    )

pub returns : goal.returns
returns c =
    let pre = c.requires in
    let inv = c.loop-q.invariant in
    no_schedule _ _ _ _ inv.2 (omega (arith, pre.2, inv.0, c.clear_states.auto.work)) pre.0 pre.1 (omega arith)

pub returns-2 : goal.returns-2
returns-2 c =
    let pre = c.requires in
    let inv = c.loop-q.invariant in
    let long = length-set c.loop-q.work (length c.clear_states.new.work - c.answers_of.result + c.place_of.result) c.loop-q.base in
    no_schedule _ _ _ _ (put (goal.at.returns-2 c).After-place_of) (omega (arith, pre.2, inv.0, c.clear_states.auto.work, long)) pre.0 pre.1 (omega arith)

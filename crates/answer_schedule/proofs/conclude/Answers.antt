-- The answers are lent on and come back (Answers.antt); with what the scheduler left, the schedule enters the table (`concluded`).
use mathlib.Core.Path.{ap}
use Prim.Native.Nat.{ℕ, ◌+◌, ◌*◌, ◌≤◌, ◌<◌}
use native.Mathlib.Omega.{arith}
use lib.ListN.{length}
use lib.Seq.{get_or-take, length-take-le}
use Rattle.answer_blocks.specs.Inner.Layout.{answers_size}
use Rattle.answer_schedule.proofs.Laws.Bases.{roomy}
use Rattle.answer_schedule.proofs.Laws.Answers.{lent_is, lent-long, lent-room, answers_back-length, back-answers, back-front}
use Rattle.answer_schedule.proofs.Laws.Places.{entries_in}
use Rattle.answer_schedule.proofs.Laws.Concluded.{answer_cut}
use Rattle.answer_schedule.proofs.Laws.Entering.{lent-taken, lent_arranged, concluded}
use Rattle.answer_schedule.proofs.Laws.Counts.{count-few}
use Rattle.answer_schedule.proofs.conclude.Goals.{After-row}
use Rattle.answer_schedule.proofs.conclude.Goals as goal

-- The rows lie in front of the answers.
rows_fit : (c : After-row) → (let a = c.args in c.row.result * a.count + answers_size a.width ≤ length a.work.now)
rows_fit c =
    omega (arith, ap (λ (m : ℕ). m * c.args.count) c.row.ensures, c.requires.room.0)

pub arrange_rows-placed-requires : goal.arrange_rows-placed-requires
arrange_rows-placed-requires c =
    let a = c.args in
    record { accepted_list = lent-taken a.width a.work.now _ a.count _ c.row.ensures _ a.query c.count_stmts-n.ensures c.requires.schedulable }

-- The buffers have room for the query's statements.
few : (c : After-row) → c.count_stmts-n.result ≤ 128
few c = omega (arith, c.count_stmts-n.ensures, count-few _ c.requires.asks_conclude.accepted c.args.query)

pub invariant_of-answer : goal.invariant_of-answer
invariant_of-answer c =
    let s = c.arrange_rows-placed in
    let n = c.count_stmts-n.result in
    let low = few (goal.at.invariant_of-answer c).After-row in record {
      spans_room = c.requires.asks_conclude.spans-room;
      marked = λ k l.
          let inside : k < n = omega (arith, l, length-take-le n s.new.order (omega (arith, low, s.auto.order))) in
          omega (arith, get_or-take n s.new.order k 0 inside, entries_in _ _ _ _ _ _ _ _ s.ensures (omega (arith, low, s.auto.reached)) k inside);
    }

pub store_answer-requires : goal.store_answer-requires
store_answer-requires c =
    let pre = c.requires in
    let v = c.args.width in
    let w = c.args.work.now in
    let enough : answers_size v ≤ length w = omega (arith, pre.room.0) in
    let count = c.count_stmts-n in
    let s = c.arrange_rows-placed in
    let m = c.answers_of in record {
      asks_block = record {
        room = lent-long v w _ m.ensures enough;
        from = pre.asks_conclude.from;
        to = omega (arith, pre.asks_conclude.to, pre.asks_conclude.accepted.within.few-queries);
      };
      places_room = omega (
        arith,
        length-take-le count.result s.new.order (omega (arith, few (goal.at.store_answer-requires c).After-row, s.auto.order)),
        lent-room v w _ m.ensures enough _ pre.room.1 (roomy _ pre.asks_conclude.accepted) _ pre.asks_conclude.from pre.asks_conclude.to _ count.ensures,
      );
    }

pub returns : goal.returns
returns c =
    let pre = c.requires in
    let a = c.args in
    let v = a.width in
    let w = a.work.now in
    let enough : answers_size v ≤ length w = omega (arith, pre.room.0) in
    let count = c.count_stmts-n in
    let row = c.row in
    let s = c.arrange_rows-placed in
    let m = c.answers_of in
    let last = c.store_answer in
    let p = last.new.words in
    concluded v a.tables.now pre.asks_conclude.accepted (roomy _ pre.asks_conclude.accepted) w a.query pre.asks_conclude.from pre.asks_conclude.to a.scope a.spans.now
    a.count pre.room.0 count.result count.ensures s.result _ _ (lent_arranged v w _ a.count _ row.ensures _ _ _ s.ensures)
    _ (lent_is v w _ m.ensures enough) p
    (answer_cut _ _ _ _ _ count.result s.result s.new.order _ _ (omega (arith, few (goal.at.returns c).After-row, s.auto.order)) last.ensures) _
    (back-answers v w _ m.ensures enough p last.auto.words)
    (answers_back-length v w _ m.ensures enough p last.auto.words) (back-front v w _ m.ensures enough p last.auto.words)

-- What the analysis came to tells which of the laws the way out is.
use native.Mathlib.Omega.{arith}
use Rattle.call.proofs.Laws.Answering.{answers_in, fault-answered, answers-sound, answering}
use Rattle.call.proofs.answering.answer_sheet.Goals as goal

pub returns-in-Some : goal.returns-in-Some
returns-in-Some c =
    fault-answered _ _ _ _ c.analyze_sheet.ensures _ c.in-Some.is _ _ c.of_fault.ensures _ c.requires.1

pub write_answer-requires : goal.write_answer-requires
write_answer-requires c =
    record {
      answers-room = omega (arith, c.requires.0.work-room, c.analyze_sheet.auto.work, answers_in c.args.width);
      queries-few = c.requires.0.accepted.within.few-queries;
      sound = answers-sound _ _ _ _ c.analyze_sheet.ensures c.in-None.is;
      zeros = c.requires.1;
    }

pub returns-in-None : goal.returns-in-None
returns-in-None c = answering _ _ _ _ c.analyze_sheet.ensures c.in-None.is _ _ _ c.write_answer.ensures

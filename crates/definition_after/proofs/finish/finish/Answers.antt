-- Where there is no fault the query is concluded (`query-finished`).
use mathlib.Core.Path.{refl, sym, ◌∙◌}
use Rattle.base.proofs.Laws.Truth.{not-both}
use Rattle.definition_cycle.proofs.Laws.Finishing.{query-finished, unfinished}
use Rattle.definition_after.proofs.finish.finish.Goals as goal

pub conclude-requires : goal.conclude-requires
conclude-requires c =
    let pre = c.requires in
    let fine = sym c.is_sound.ensures ∙ c.if-is_sound.true in
    let asked = pre.asks_finish in
    record {
      asks_conclude = asked.0;
      room = (asked.1, asked.2 fine);
      schedulable = pre.schedulable fine;
    }

pub returns-then-is_sound : goal.returns-then-is_sound
returns-then-is_sound c =
    query-finished _ _ _ _ _ _ _ refl _ c.with_inputs_of-whole.ensures _ c.conclude.ensures

pub returns-else-is_sound : goal.returns-else-is_sound
returns-else-is_sound c = unfinished _ _ _ _ _ _ _ refl (λ fine. not-both (c.is_sound.ensures ∙ fine) c.if-is_sound.false) _

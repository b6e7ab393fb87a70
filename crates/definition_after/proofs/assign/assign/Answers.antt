-- The names fit, and are recorded after the question (`Assigning`).
use Rattle.definition_cycle.proofs.Laws.Assigning.{assign_fits, assigns}
use Rattle.definition_after.proofs.assign.assign.Goals as goal

pub record_each-requires : goal.record_each-requires
record_each-requires c =
    assign_fits _ _ c.args.check c.args.u _ _ _ c.checked-s.ensures _ _ c.empty-none.ensures
    c.assigned_vars-vars.ensures c.requires.ready

pub returns : goal.returns
returns c =
    assigns _ _ c.args.check c.args.u _ _ _ c.checked-s.ensures _ _ c.empty-none.ensures
    c.assigned_vars-vars.ensures _ _ _ c.record_each.ensures

-- The scope is another where there is no fault.
use Rattle.definition_literal.proofs.Laws.Binding.{bound-fault, bound-sound}
use Rattle.definition_literal.proofs.extra.bind_extras.Goals as goal

pub returns-then-is_sound : goal.returns-then-is_sound
returns-then-is_sound c =
    bound-sound _ _ _ c.is_sound.ensures c.if-is_sound.true _ c.join_unscoped-scope.ensures _ c.with_scope.ensures

pub returns : goal.returns
returns c = bound-fault _ _ _ c.is_sound.ensures c.if-is_sound.false

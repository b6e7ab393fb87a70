-- Each way out is one of the laws.
use native.Mathlib.Omega.{arith}
use Rattle.definition_walk.proofs.Laws.Index.{leaf_not_own, leaf_room, leaf_few, leaf_defined}
use Rattle.definition_walk.proofs.index.define_var.Goals as goal

pub push_definition-requires : goal.push_definition-requires
push_definition-requires c =
    leaf_room _ _ c.args.statement c.args.w c.args.used c.args.definitions.now _ c.requires.0 _ c.owns.ensures c.if-owns.true _ c.requires.2

pub overflow_add-result : goal.overflow_add-result
overflow_add-result c =
    record { fits = omega (arith, c.well_formed.1.1.1.1.1.0, leaf_few _ _ c.args.statement c.args.w c.args.used c.args.definitions.now _ c.requires.0 _ c.owns.ensures c.if-owns.true _ c.requires.2) }

pub returns-then-owns : goal.returns-then-owns
returns-then-owns c =
    leaf_defined _ _ _ c.args.w _ _ _ c.requires.0 _ c.owns.ensures c.if-owns.true _ c.push_definition.ensures

pub returns : goal.returns
returns c =
    leaf_not_own _ _ _ c.args.w _ _ _ c.requires.0 _ c.owns.ensures c.if-owns.false

-- A turn's name is the next one that is left.
use mathlib.Core.Path.{◌≡◌, ◌∙◌, subst}
use Prim.Native.Nat.{◌*◌}
use native.Mathlib.Omega.{arith}
use borrow.Author.Rules.{rules}
use lib.ListN.{length}
use Rattle.base.specs.Limits as limits
use Rattle.names.specs.Inner.Names.{Names}
use Rattle.names.specs.Inner.Sets.{Gap}
use Rattle.names.specs.Inner.Members.{Lowest}
use Rattle.definition_record.proofs.Laws.Each.{defining-first, defining-room, defining-few, defining-next, defining-all}
use Rattle.definition_record.proofs.each.define_each.Goals.{In-Some}
use Rattle.definition_record.proofs.each.define_each.Goals as goal

pub loop-x-init : goal.loop-x-init
loop-x-init c =
    let items = c.members-x-items.ensures in
    rw c.into_iter-x-iterator.ensures.into_iter_gives (items.0, rw items.1 (defining-first _ _ _ _ _ _ _))

lowest : (c : In-Some) → Lowest c.args.names.words limits.per_name c.loop-x.x-iterator.from c.in-Some.x
lowest c = subst (λ (k : Names). Lowest k.words limits.per_name c.loop-x.x-iterator.from c.in-Some.x) c.loop-x.invariant.0 c.in-Some.ensures.steps.1.0

whole : (c : In-Some) → 64 * length c.args.names.words ≡ limits.per_name
whole c = search rules

pub push_definition-requires : goal.push_definition-requires
push_definition-requires c =
    let here = (goal.at.push_definition-requires c).In-Some in
    defining-room _ _ _ _ _ _ _ (whole here) _ _ _ c.loop-x.invariant.1 (lowest here) _ (rw c.loop-x.auto.definitions c.requires)

pub overflow_add-n : goal.overflow_add-n
overflow_add-n c =
    let here = (goal.at.overflow_add-n c).In-Some in
    let few = defining-few _ _ _ _ _ _ _ (whole here) _ _ _ c.loop-x.invariant.1 (lowest here) _ c.requires in
    record { fits = omega (arith, few, c.well_formed.1.1.1.1.1.0) }

pub loop-x-preserved : goal.loop-x-preserved
loop-x-preserved c =
    let here = (goal.at.loop-x-preserved c).In-Some in
    let steps = c.in-Some.ensures.steps in (
      steps.0 ∙ c.loop-x.invariant.0,
      rw steps.1.1 (defining-next _ _ _ _ _ _ _ (whole here) _ _ _ c.loop-x.invariant.1 (lowest here) _ c.less-from.ensures _ c.push_definition.ensures),
    )

pub returns : goal.returns
returns c =
    let loop = c.loop-x in
    defining-all _ _ _ _ _ _ _ (search rules) _ _ _ loop.invariant.1
    (subst (λ (k : Names). Gap k.words loop.x-iterator.from limits.per_name) loop.invariant.0 c.in-None.ensures.steps.1)

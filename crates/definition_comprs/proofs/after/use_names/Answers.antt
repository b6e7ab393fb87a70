-- A turn's name is the next one that is left.
use mathlib.Core.Path.{◌∙◌, subst}
use native.Mathlib.Omega.{arith}
use Rattle.base.specs.Limits as limits
use Rattle.names.specs.Inner.Names.{Names}
use Rattle.names.specs.Inner.Sets.{Gap}
use Rattle.names.specs.Inner.Members.{Lowest}
use Rattle.definition_comprs.proofs.Laws.Uses.{using_first, using_next, using_all}
use Rattle.definition_comprs.proofs.after.use_names.Goals.{In-Some}
use Rattle.definition_comprs.proofs.after.use_names.Goals as goal

pub loop-x-init : goal.loop-x-init
loop-x-init c =
    let items = c.members-x-items.ensures in
    rw c.into_iter-x-iterator.ensures.into_iter_gives (items.0, rw items.1 (using_first _ _ _))

lowest : (c : In-Some) → Lowest c.args.names.words limits.per_name c.loop-x.x-iterator.from c.in-Some.x
lowest c = subst (λ (k : Names). Lowest k.words limits.per_name c.loop-x.x-iterator.from c.in-Some.x) c.loop-x.invariant.0 c.in-Some.ensures.steps.1.0

pub add_first_use-requires : goal.add_first_use-requires
add_first_use-requires c =
    (omega (arith, c.loop-x.auto.firsts, c.requires), (lowest (goal.at.add_first_use-requires c).In-Some).high)

pub overflow_cast-v : goal.overflow_cast-v
overflow_cast-v c = let low = lowest (goal.at.overflow_cast-v c).In-Some in record { fits = omega (arith, low.high) }

pub loop-x-preserved : goal.loop-x-preserved
loop-x-preserved c =
    let steps = c.in-Some.ensures.steps in (
      steps.0 ∙ c.loop-x.invariant.0,
      rw steps.1.1 (using_next _ _ _ _ _ c.loop-x.invariant.1 (lowest (goal.at.loop-x-preserved c).In-Some) _ c.add_first_use.ensures),
    )

pub returns : goal.returns
returns c =
    let loop = c.loop-x in
    using_all _ c.args.names _ _ loop.x-iterator.from loop.invariant.1
    (subst (λ (k : Names). Gap k.words loop.x-iterator.from limits.per_name) loop.invariant.0 c.in-None.ensures.steps.1)

-- The four ways out.
use mathlib.Core.Path.{sym, ap, ◌∙◌}
use mathlib.Core.Bool.{not}
use mathlib.Core.Logic.{inl, inr}
use native.Mathlib.Omega.{arith}
use Rattle.answer_blocks.specs.Inner.Layout.{answers_size}
use Rattle.definition_state.specs.declared.Progress.{Progress}
use Rattle.definition_comprs.proofs.Laws.After.{not-asked, fails, rose}
use Rattle.definition_comprs.proofs.after.after_compr.Goals as goal

pub rise-requires : goal.rise-requires
rise-requires c =
    let in_range = c.requires.2 (sym c.is_compr.ensures ∙ c.if-is_compr.true) in
    let same = ap (λ (q : Progress). answers_size q.width) c.with_fault-analysed.ensures in
    (c.requires.0, record { room = omega (arith, c.requires.1, same); from = in_range.0; to = in_range.1 })

pub returns-then-is_none : goal.returns-then-is_none
returns-then-is_none c =
    let args = c.args in
    rose args.w args.work.now args.p args.fault _ (sym c.is_compr.ensures ∙ c.if-is_compr.true) (sym c.is_sound.ensures ∙ c.if-is_sound.true)
    (ap not (c.is_none.ensures ∙ ap not c.if-is_none.true)) _ c.with_fault-analysed.ensures _ _ c.rise.ensures

pub returns-then-is_sound : goal.returns-then-is_sound
returns-then-is_sound c =
    let args = c.args in
    fails args.w args.work.now args.p args.fault _ (sym c.is_compr.ensures ∙ c.if-is_compr.true) (sym c.is_sound.ensures ∙ c.if-is_sound.true)
    (ap not (c.is_none.ensures ∙ ap not c.if-is_none.false)) _ c.with_fault-analysed.ensures

pub returns-else-is_sound : goal.returns-else-is_sound
returns-else-is_sound c =
    let args = c.args in
    not-asked args.w args.work.now args.p args.fault _ (inr (sym c.is_sound.ensures ∙ c.if-is_sound.false))

pub returns-else-is_compr : goal.returns-else-is_compr
returns-else-is_compr c =
    let args = c.args in
    not-asked args.w args.work.now args.p args.fault _ (inl (sym c.is_compr.ensures ∙ c.if-is_compr.false))

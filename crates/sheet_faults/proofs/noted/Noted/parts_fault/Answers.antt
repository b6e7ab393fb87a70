-- A leaf's parts are not listed: they are at fault unless they are 0.
use mathlib.Core.Path.{◌≡◌, refl, sym, ap, ◌∙◌}
use mathlib.Core.Bool.{false}
use Rattle.std.specs.Prelude.{Option, Some, None, is_some}
use Rattle.base.proofs.Laws.Truth.{not-both}
use Rattle.sheet.specs.declared.fields.Section.{Section}
use Rattle.sheet.specs.declared.fields.KindFields.{KindFields}
use Rattle.sheet_faults.specs.Inner.Tests.{parts_by}
use Rattle.sheet_faults.proofs.Laws.Tests.{leaf_parts}
use Rattle.sheet_faults.proofs.noted.Noted.parts_fault.Goals as goal

none-at : (s : Option Section) → is_some s ≡ false → s ≡ None
none-at None h = refl
none-at (Some s) h = absurd (not-both refl h)

pub returns-then-is_none : goal.returns-then-is_none
returns-then-is_none c =
    let a = c.args in
    let none = ap (λ (k : KindFields). k.first.section) (sym c.requires) ∙ none-at c.args.fields.now.first.section c.if-is_none.ensures in
    c.has_parts.ensures ∙ sym (ap (λ (k : KindFields). parts_by a.self.now.counts a.self.now.tables.now a.q k a.x.now) c.requires ∙ leaf_parts a.self.now.counts a.self.now.tables.now a.q a.x.now none)

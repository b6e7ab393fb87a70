-- The section of a field's numbers, told from the others by a test.
use mathlib.Core.Path.{◌≡◌, refl, sym, ap, ◌∙◌}
use mathlib.Core.Bool.{Bool, true}
use Prim.Native.Nat.{ℕ, zero, suc}
use lib.Dec.{eqb}
use borrow.Author.Tests.{eqb-true}
use Rattle.std.specs.Prelude.{Option, Some, None}
use Rattle.sheet.specs.declared.fields.Section.{Section}
use Rattle.sheet.specs.declared.fields.Section.TheVariants as section

abbrev pub section_number : Option Section → ℕ
section_number None = 0
section_number (Some section.Name) = 1
section_number (Some section.Expression) = 2
section_number (Some section.Statement) = 3
section_number (Some section.Query) = 4

section_of : ℕ → Option Section
section_of zero = None
section_of (suc zero) = Some section.Name
section_of (suc (suc zero)) = Some section.Expression
section_of (suc (suc (suc zero))) = Some section.Statement
section_of (suc (suc (suc (suc n)))) = Some section.Query

section-kept : (s : Option Section) → section_of (section_number s) ≡ s
unfolding section_of
section-kept None = refl
section-kept (Some section.Name) = refl
section-kept (Some section.Expression) = refl
section-kept (Some section.Statement) = refl
section-kept (Some section.Query) = refl

-- Are the two one section, or both none?
unfoldable pub is_section : Option Section → Option Section → Bool
is_section s t = eqb (section_number s) (section_number t)

pub section-is : (s t : Option Section) → is_section s t ≡ true → s ≡ t
unfolding is_section section_of
section-is s t h =
    sym (section-kept s) ∙ ap section_of (eqb-true (section_number s) (section_number t) h) ∙ section-kept t

-- The ways out of `section_at`.
use mathlib.Core.Path.{◌≡◌, sym, ap, ◌∙◌}
use mathlib.Core.Bool.{true, false}
use mathlib.Core.List.{List, ◌∷◌}
use Prim.Native.Nat.{ℕ, suc, ◌+◌, ◌≤◌}
use native.Mathlib.Omega.{arith}
use lib.ListN.{length, drop, length-drop}
use lib.Seq.{drop-drop}
use Rattle.sheet.specs.Text.{lines}
use Rattle.sheet.specs.Inner.Lines.{after}
use Rattle.sheet.specs.Form.{Section, block, filled, whole_from}
use Rattle.sheet.specs.Inner.Headings.{has_line}
use Rattle.sheet.proofs.Laws.FormLaws.{behind-heading, sheet-none, sheet-some}
use Rattle.sheet.specs.declared.Area.{Area}
use Rattle.sheet_sections.specs.declared.Rows.{Rows}
use Rattle.sheet_sections.specs.declared.Progress.{Progress}
use Rattle.sheet_sections.specs.Inner.Blocks.{BlockRead, BlockStops}
use Rattle.sheet_sections.specs.Inner.Sections.{SoundProgress, remaining, SectionIs, SectionFault}

module _ (s : List ℕ) (p : Progress) (h : List ℕ) (o : SoundProgress s p) where
  -- Where the rows of a section start.
  abbrev from : ℕ
  from = p.next + length h + 1

  -- Its heading is not there.
  pub section-none : (a : Area) → has_line h (lines (drop p.next s)) ≡ false → SectionFault s p h a p.line
  unfolding remaining
  section-none a g = record {
    some = o.some;
    says = λ c ss u v. sheet-none c ss p.line (lines (drop p.next s)) (rw u g);
  }

  module _ (g : has_line h (lines (drop p.next s)) ≡ true) where
    behind : (from ≤ length s) × (after (lines (drop p.next s)) ≡ lines (drop from s))
    behind =
        let b = behind-heading h (drop p.next s) g in
        let z : p.next + suc (length h) ≡ from = omega arith in (
          omega (arith, b.inside, length-drop p.next s, o.inside),
          b.is ∙ ap lines (drop-drop (suc (length h)) p.next s ∙ ap (λ (j : ℕ). drop j s) z),
        )

    pub rows_start : from ≤ length s
    rows_start = behind.0

    module _ (a : Area) where
      here : (c : Section) (ss : List Section) → c.heading ≡ h → c.width ≡ a.width
          → whole_from (c ∷ ss) p.line (lines (drop p.next s))
          ≡ filled p.line (whole_from ss) (block a.width (lines (drop from s)))
      here c ss u v = sheet-some c ss p.line (lines (drop p.next s)) (rw u g) ∙ rw (v, behind.1)

      -- A row of it is at fault.
      pub section-fault : (n : ℕ) → BlockStops s from a n → SectionFault s p h a (p.line + 1 + n)
      unfolding remaining
      section-fault n b = record {
        some = omega arith;
        says = λ c ss u v. here c ss u v ∙ ap (filled p.line (whole_from ss)) b.fault;
      }

      pub section-good : (q : Rows) (d e : List ℕ) → BlockRead s from a d q e
          → SectionIs s p h a d (record { next = q.next; line = p.line + q.rows + 2; rows = q.rows }) e
      unfolding remaining
      section-good q d e b = record {
        sound = record { inside = b.next.1; lined = omega (arith, b.next.0, o.lined); some = omega arith };
        rows = b.done;
        says = λ c ss u v. rw (← b.count) (here c ss u v ∙ ap (filled p.line (whole_from ss)) b.ended);
        count = sym b.count;
        table = b.table;
      }

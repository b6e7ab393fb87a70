-- `position` finds the first newline.
use mathlib.Core.Path.{◌≡◌, ◌∙◌}
use Rattle.std.proofs.Common.{rules, tests}
use Rattle.std.proofs.lemmas.Iterator.{YieldsList-from_slice}
use Rattle.std.proofs.lemmas.Iterator.Search.{position_from_yields_List}
use Rattle.std.specs.Prelude.{None}
use lib.ListN.{drop}
use Rattle.sheet_sections.proofs.Laws.Lines.{tail-is, ends_line, newline_found, skip-none, skip-line}
use Rattle.sheet_sections.proofs.skip_line.Goals as goal

pub returns-in_err-length : goal.returns-in_err-length
returns-in_err-length c =
    let start = c.args in
    let none : None ≡ newline_found start.s.now start.at =
    position_from_yields_List ends_line _ _ _ c.in_err-length.ensures.ran (YieldsList-from_slice (drop start.at start.s.now) (c.iter.ensures.rest ∙ tail-is start.s.now start.at)) (λ x b q k. search (rules, tests)) in
    rw c.from_residual.ensures (skip-none start.s.now start.at none)

pub returns : goal.returns
returns c =
    let start = c.args in
    skip-line start.s.now start.at c.requires _
    (position_from_yields_List ends_line _ _ _ c.in_ok-length.ensures.ran (YieldsList-from_slice (drop start.at start.s.now) (c.iter.ensures.rest ∙ tail-is start.s.now start.at)) (λ x b q k. search (rules, tests)))

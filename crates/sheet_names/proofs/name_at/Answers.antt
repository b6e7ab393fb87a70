-- The first byte that is no letter or digit is found by `position`; then each way out is one of the laws.
use mathlib.Core.Path.{◌≡◌, sym, ◌∙◌}
use native.Mathlib.Omega.{arith}
use lib.ListN.{drop}
use Rattle.std.proofs.Common.{rules, tests}
use Rattle.std.proofs.lemmas.Iterator.{YieldsList-from_slice}
use Rattle.std.proofs.lemmas.Iterator.Search.{position_from_yields_List}
use Rattle.std.specs.Prelude.{Some, None}
use Rattle.std.specs.List.{position}
use Rattle.sheet.proofs.Laws.LineLaws.{line-inside}
use Rattle.sheet_sections.proofs.Laws.Lines.{tail-is}
use Rattle.sheet_names.proofs.Laws.Spelling.{odd, spelling_stops, spelling_none, spelling_odd, spelling_long, spelling_end}
use Rattle.sheet_names.proofs.name_at.Goals.{In_ok-length, then-not-is_letter-via-then-not-is_letter, then-not-is_letter-via-else-not-is_letter+then-s-end-ne10, then-not-is_letter-via-else-not-is_letter+else-s-end-ne10+then-length-gt-NAME_BYTES}
use Rattle.sheet_names.proofs.name_at.Goals as goal

pub slice_bounds-iter-count : goal.slice_bounds-iter-count
slice_bounds-iter-count c = omega (arith, line-inside c.args.s.now c.args.at c.requires)

pub slice_bounds-iter-start : goal.slice_bounds-iter-start
slice_bounds-iter-start c = omega (arith, line-inside c.args.s.now c.args.at c.requires)

pub returns-in_err-length : goal.returns-in_err-length
returns-in_err-length c =
    let start = c.args in
    let none : None ≡ position odd (drop start.at start.s.now) =
    position_from_yields_List odd _ _ _ c.in_err-length.ensures.ran (YieldsList-from_slice (drop start.at start.s.now) (c.iter.ensures.rest ∙ tail-is start.s.now start.at)) (λ x b q k. search (rules, tests)) in
    absurd (spelling_stops start.s.now start.at c.requires none)

-- The place that is found.
found : (c : In_ok-length) → Some c.in_ok-length.length ≡ position odd (drop c.args.at c.args.s.now)
found c =
    let start = c.args in
    position_from_yields_List odd _ _ _ c.in_ok-length.ensures.ran (YieldsList-from_slice (drop start.at start.s.now) (c.iter.ensures.rest ∙ tail-is start.s.now start.at)) (λ x b q k. search (rules, tests))

pub returns-then-not-is_letter : goal.returns-then-not-is_letter
returns-then-not-is_letter c =
    let start = c.args in
    let is = found (goal.at.returns-then-not-is_letter c).In_ok-length in
    elim c.then-not-is_letter.branch [
      | then-not-is_letter-via-then-not-is_letter w ↦
          spelling_none start.s.now start.at c.requires _ is (sym c.is_letter.ensures ∙ w.if-not-is_letter.true)
      | then-not-is_letter-via-else-not-is_letter+then-s-end-ne10 w ↦ spelling_odd start.s.now start.at c.requires _ is w.if-s-end-ne10.true
      | then-not-is_letter-via-else-not-is_letter+else-s-end-ne10+then-length-gt-NAME_BYTES w ↦
          spelling_long start.s.now start.at c.requires _ is w.if-s-end-ne10.false w.if-length-gt-NAME_BYTES.true
    ]

pub returns : goal.returns
returns c =
    let start = c.args in
    spelling_end start.s.now start.at c.requires _ (found (goal.at.returns c).In_ok-length) c.if-s-end-ne10.false
    (sym c.is_letter.ensures ∙ c.if-not-is_letter.false) c.if-length-gt-NAME_BYTES.false

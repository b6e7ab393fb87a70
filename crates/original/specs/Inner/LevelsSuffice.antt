-- The levels suffice: in a sheet that passes question 6 no query is met deeper than the nesting level, so that one level more changes nothing.
use Rattle.std.specs.Prelude.{◌≡◌, List, ℕ}
use Rattle.sheet.specs.declared.Counts.{Counts}
use Rattle.sheet.specs.Inner.Records.{Within}
use Rattle.sheet.specs.Inner.Rows.{in_tables}
use Rattle.sheet.specs.declared.Special.{Special}
use Rattle.sheet.specs.Faults.{first_line}
use Rattle.sheet.specs.Sheet.{Sheet}
use Rattle.sheet.specs.Inner.Sheet.{sheet_of}
use Rattle.scope.specs.Trees.{Tree, tree_at}

module _ (c : Counts) (x : Special) (t : List ℕ) (few : Within c) (fine : first_line c (in_tables t) ≡ 0) where
  abbrev pub the_sheet : Sheet
  the_sheet = sheet_of c x t

  abbrev pub the_tree : ℕ → Tree
  the_tree r = tree_at the_sheet r

-- The fields of a row that is in hand, and the marks row by row.
use Rattle.std.specs.Prelude.{Bool, List, [], ◌∷◌, ℕ}
use Rattle.sheet.specs.declared.Counts.{Counts}
use Rattle.sheet.specs.declared.Row.{Row}
use Rattle.sheet.specs.declared.Statement.{Statement}
use Rattle.sheet.specs.declared.fields.Field.{Field}
use Rattle.sheet.specs.Fields.{a_chain, a_statement, or0, kind_of, form_of}
use Rattle.sheet.specs.Naming.{Entry, statement_row, place_of, next_field}

abbrev pub entry_of : ℕ → Field → ℕ → Entry
entry_of r f v = record { field = f; value = v; place = statement_row r }

abbrev pub fields_of : Statement → ℕ → List Entry
fields_of x r =
    entry_of r (form_of x.form).query x.query
    ∷ entry_of r (form_of x.form).first x.first
    ∷ entry_of r (form_of x.form).second x.second
    ∷ entry_of r (form_of x.form).third x.third
    ∷ entry_of r (or0 a_chain) x.with ∷ entry_of r (or0 a_statement) x.next ∷ []

module _ (c : Counts) where
  abbrev pub part_of : Row → ℕ → Field → ℕ → Entry
  part_of x r f v = record { field = f; value = v; place = place_of c f x.third r }

  abbrev pub parts_of : Bool → Row → ℕ → List Entry
  parts_of member x r =
      part_of x r (kind_of x.kind).name x.name
      ∷ part_of x r (kind_of x.kind).first x.first
      ∷ part_of x r (kind_of x.kind).second x.second
      ∷ part_of x r (kind_of x.kind).third x.third
      ∷ part_of x r (next_field member) x.next ∷ []

-- The tests of a row as the code makes them: of a row that is in hand, and its mark.
use Rattle.std.specs.Prelude.{Bool, false, not, ◌&&◌, ◌||◌, List, ℕ, zero, suc, eqb, ltb}
use Rattle.base.specs.Limits.{most_arity}
use Rattle.sheet.specs.declared.Counts.{Counts}
use Rattle.sheet.specs.declared.Builtin.{Builtin}
use Rattle.sheet.specs.declared.Row.{Row}
use Rattle.sheet.specs.declared.Statement.{Statement}
use Rattle.sheet.specs.Inner.Records.{builtin_at}
use Rattle.sheet.specs.declared.fields.Field.{Field}
use Rattle.sheet.specs.declared.fields.KindFields.{KindFields}
use Rattle.sheet.specs.declared.fields.FormFields.{FormFields}
use Rattle.sheet.specs.Fields.{a_chain, a_statement, or0, kind_of, form_of}
use Rattle.sheet.specs.Naming.{next_field}
use Rattle.sheet.specs.Faults.{field_fault}
use Rattle.sheet_marks.specs.Inner.Codes.{code_so, code_member, code_place}
use Rattle.sheet.specs.Inner.Rows.{in_tables}

-- Has a row a part?
abbrev pub parts_in : Row → Bool
parts_in x = not (eqb x.first 0) || (not (eqb x.second 0) || not (eqb x.third 0))

module _ (c : Counts) (t : List ℕ) where
  -- A field and its number. Where the row that it names lies is not asked.
  abbrev pub fault_in : ℕ → Field → ℕ → Bool
  fault_in q f v = field_fault c (in_tables t) q (record { field = f; value = v; place = 0 })

  -- ---- the fields of a row

  unfoldable pub parts_by : ℕ → KindFields → Row → Bool
  parts_by q fs x = fault_in q fs.first x.first || (fault_in q fs.second x.second || fault_in q fs.third x.third)

  unfoldable pub expr_fields_by : ℕ → Bool → Row → Bool
  expr_fields_by q member x =
      let fs = kind_of x.kind in fault_in q fs.name x.name || (parts_by q fs x || fault_in q (next_field member) x.next)

  unfoldable pub statement_fields_by : ℕ → FormFields → Statement → Bool
  statement_fields_by q fs x =
      fault_in q fs.query x.query || (fault_in q fs.first x.first || (fault_in q fs.second x.second
      || (fault_in q fs.third x.third || (fault_in q (or0 a_chain) x.with || fault_in q (or0 a_statement) x.next))))

  -- ---- a row with mark v

  unfoldable pub expr_fault_by : ℕ → Row → Bool
  expr_fault_by v x =
      not (code_so v) || ((eqb x.kind 0 || ltb 22 x.kind) || expr_fields_by (code_place v) (code_member v) x)

  unfoldable pub statement_fault_by : ℕ → Statement → Bool
  statement_fault_by v x =
      not (code_so v) || ((eqb x.form 0 || ltb 5 x.form) || statement_fields_by (code_place v) (form_of x.form) x)

  unfoldable pub query_fault_by : ℕ → ℕ → ℕ → Bool
  query_fault_by v q s = (not (eqb q 1) && not (code_so v)) || fault_in q (or0 a_statement) s

-- ---- built-ins

abbrev pub same_path_by : Builtin → Builtin → Bool
same_path_by a b = eqb a.first b.first && (eqb a.second b.second && eqb a.third b.third)

abbrev pub gap_by : Builtin → Bool
gap_by b = eqb b.first 0 || (eqb b.second 0 && not (eqb b.third 0))

abbrev pub beyond_by : Counts → Builtin → Bool
beyond_by c b = ltb c.names b.first || (ltb c.names b.second || ltb c.names b.third)

unfoldable pub path_by : List ℕ → ℕ → Builtin → Bool
path_by t zero b = false
path_by t (suc n) b = same_path_by (builtin_at t (suc n)) b || path_by t n b

unfoldable pub builtin_by : Counts → List ℕ → ℕ → Builtin → Bool
builtin_by c t n b = ltb most_arity b.arity || (gap_by b || (beyond_by c b || path_by t n b))

-- What stands in the tables when a sheet has been read: field f of row r of each section.
use mathlib.Core.Path.{◌≡◌, refl, ap, ◌∙◌}
use mathlib.Core.List.{List, [], ◌∷◌}
use mathlib.Core.Logic.{inl}
use Prim.Native.Nat.{ℕ, zero, suc, ◌+◌, ◌-◌, ◌*◌, ◌≤◌, ◌<◌}
use native.Mathlib.Omega.{arith}
use lib.ListN.{length, get_or}
use Rattle.base.specs.Limits as limits
use Rattle.base.specs.Limits.{library}
use Rattle.sheet.specs.Text.{lines, values}
use Rattle.sheet.specs.Form.{Section, sections, form, rows_in}
use Rattle.sheet.specs.Questions.{most_rows, form_fault, section_rows}
use Rattle.sheet.proofs.Laws.FormLaws.{Shaped, none, next, sheet-formed}
use Rattle.sheet.specs.declared.Area.{Area}
use Rattle.sheet.specs.Tables.{row_place, area_end, area_of, areas_from, areas, row_values, put_rows, put_sections, tables}
use Rattle.sheet.specs.Inner.Layout.{builtin_start, expr_start, statement_start, query_start}
use Rattle.sheet.proofs.Laws.LayoutLaws.{row_inside}
use Rattle.sheet.proofs.Laws.RowLaws.{length-put_rows, put_rows-other, put_rows-at}

-- Where the areas of sections end.
unfoldable end_from : ℕ → List Section → List ℕ → ℕ
end_from at [] most = at
end_from at (s ∷ ss) [] = at
end_from at (s ∷ ss) (n ∷ most) = end_from (area_end (area_of at s n)) ss most

end_le : (at : ℕ) (ss : List Section) (most : List ℕ) → at ≤ end_from at ss most
unfolding end_from
end_le at [] most = omega arith
end_le at (s ∷ ss) [] = omega arith
end_le at (s ∷ ss) (n ∷ most) = let h = end_le (area_end (area_of at s n)) ss most in omega arith

pub length-put_sections : (as' : List Area) (rs : List (List (List ℕ))) (d : List ℕ) → length (put_sections as' rs d) ≡ length d
unfolding put_sections
length-put_sections [] rs d = refl
length-put_sections (a ∷ as') [] d = refl
length-put_sections (a ∷ as') (ls ∷ rs) d = length-put_sections as' rs (put_rows a 1 ls d) ∙ length-put_rows a 1 ls d

-- Sections leave the entries in front of their areas.
front : (at : ℕ) (ss : List Section) (most : List ℕ) (rs : List (List (List ℕ))) (d : List ℕ) → Shaped ss rs
    → (i : ℕ) → i < at → get_or (put_sections (areas_from at ss most) rs d) i 0 ≡ get_or d i 0
unfolding put_sections areas_from
front at [] most [] d none i h = refl
front at (s ∷ ss) [] (ls ∷ rs) d (next w sh) i h = refl
front at (s ∷ ss) (m ∷ most) (ls ∷ rs) d (next w sh) i h =
    let a = area_of at s m in
    front (area_end a) ss most rs (put_rows a 1 ls d) sh i (omega arith) ∙ put_rows-other a 1 ls d w i (inl (omega arith))
front at [] most (ls ∷ rs) d x4 i h = elim x4 [ ]
front at (s ∷ ss) [] [] d x5 i h = elim x5 [ ]
front at (s ∷ ss) (m ∷ most) [] d x6 i h = elim x6 [ ]

-- No area: it has no row.
abbrev nowhere : Area
nowhere = record { start = 0; width = 0; rows = 0 }

row-values : (k : ℕ) (l : List ℕ) (f : ℕ) → f < k → get_or (row_values k l) f 0 ≡ get_or (values l) f 0
row-values zero l f h = absurd (omega arith)
row-values (suc k) l f h = refl

-- Line n of section k is row n + 1 of its area.
stored : (at : ℕ) (ss : List Section) (most : List ℕ) (rs : List (List (List ℕ))) (d : List ℕ) → Shaped ss rs → end_from at ss most ≤ length d
    → (k n f : ℕ) → n < length (get_or rs k []) → n < (get_or (areas_from at ss most) k nowhere).rows → f < (get_or (areas_from at ss most) k nowhere).width
    → get_or (put_sections (areas_from at ss most) rs d) (row_place (get_or (areas_from at ss most) k nowhere) (1 + n) + f) 0
    ≡ get_or (values (get_or (get_or rs k []) n [])) f 0
unfolding put_sections areas_from end_from
stored at [] most [] d none fits k n f h b g = absurd (omega arith)
stored at (s ∷ ss) [] (ls ∷ rs) d (next w sh) fits k n f h b g = absurd (omega arith)
stored at (s ∷ ss) (m ∷ most) (ls ∷ rs) d (next w sh) fits zero n f h b g =
    let a = area_of at s m in
    let e = row_inside a (1 + n) (omega arith) in
    let l = end_le (area_end a) ss most in
    front (area_end a) ss most rs (put_rows a 1 ls d) sh (row_place a (1 + n) + f) (omega arith)
    ∙ put_rows-at a 1 ls d w (omega arith) n f h (omega arith) g ∙ row-values a.width (get_or ls n []) f g
stored at (s ∷ ss) (m ∷ most) (ls ∷ rs) d (next w sh) fits (suc k) n f h b g =
    let a = area_of at s m in
    stored (area_end a) ss most rs (put_rows a 1 ls d) sh (omega (arith, length-put_rows a 1 ls d)) k n f h b g
stored at [] most (ls ∷ rs) d x10 fits k n f h b g = elim x10 [ ]
stored at (s ∷ ss) [] [] d x8 fits k n f h b g = elim x8 [ ]
stored at (s ∷ ss) (m ∷ most) [] d x9 fits k n f h b g = elim x9 [ ]

-- ---- the five sections

-- Field f of row r of section k, in a sheet that has the form.
abbrev pub field_of : List ℕ → ℕ → ℕ → ℕ → ℕ
field_of s k r f = get_or (values (get_or (get_or (section_rows s) k []) (r - 1) [])) f 0

module _ (s d : List ℕ) (formed : form_fault s ≡ 0) where
  shaped : Shaped sections (section_rows s)
  unfolding form_fault section_rows form rows_in
  shaped = let r = sheet-formed sections 1 (lines s) (omega arith) formed in rw r.is r.shaped

  module _ (fits : limits.table_entries ≤ length d) (r : ℕ) (from : 1 ≤ r) where
    at : (k f : ℕ) → r ≤ length (get_or (section_rows s) k []) → r ≤ (get_or areas k nowhere).rows → f < (get_or areas k nowhere).width
        → get_or (tables s d) (row_place (get_or areas k nowhere) r + f) 0 ≡ field_of s k r f
    unfolding tables areas areas_from end_from sections
    at k f h b g =
        let z : 1 + (r - 1) ≡ r = omega arith in
        rw z at (stored 8 sections (most_rows library) (section_rows s) d shaped (omega arith) k (r - 1) f (omega arith) (omega arith) g)

    pub built_in-at : (f : ℕ) → r ≤ length (get_or (section_rows s) 1 []) → r ≤ limits.most_built_ins → f < 4
        → get_or (tables s d) (builtin_start + 4 * r + f) 0 ≡ field_of s 1 r f
    unfolding areas areas_from sections
    built_in-at f h b g = at 1 f h b g

    pub expression-at : (f : ℕ) → r ≤ length (get_or (section_rows s) 2 []) → r ≤ limits.most_expressions → f < 8
        → get_or (tables s d) (expr_start + 8 * r + f) 0 ≡ field_of s 2 r f
    unfolding areas areas_from sections
    expression-at f h b g = at 2 f h b g

    pub statement-at : (f : ℕ) → r ≤ length (get_or (section_rows s) 3 []) → r ≤ limits.most_statements → f < 7
        → get_or (tables s d) (statement_start + 7 * r + f) 0 ≡ field_of s 3 r f
    unfolding areas areas_from sections
    statement-at f h b g = at 3 f h b g

    pub query-at : r ≤ length (get_or (section_rows s) 4 []) → r ≤ limits.most_queries → get_or (tables s d) (query_start + r) 0 ≡ field_of s 4 r 0
    unfolding areas areas_from sections
    query-at h b =
        let z : query_start + r ≡ query_start + 1 * r + 0 = omega arith in
        ap (λ (i : ℕ). get_or (tables s d) i 0) z ∙ at 4 0 h b (omega arith)

-- What rows put into a table, entry by entry.
use mathlib.Core.Path.{◌≡◌, refl, ap, ◌∙◌}
use mathlib.Core.Bool.{Bool, true, false, cond}
use mathlib.Core.List.{List, [], ◌∷◌}
use mathlib.Core.Logic.{◌⊎◌, inl, inr, ⊎_elim}
use Prim.Native.Nat.{ℕ, zero, suc, ◌+◌, ◌≤◌, ◌<◌}
use native.Mathlib.Omega.{arith}
use lib.Dec.{leb}
use lib.ListN.{length, get_or, set, length-map, length-set}
use lib.Seq.{sets, length-sets, get_or-set_same, get_or-set_other}
use borrow.Author.Tests.{le-leb, leb-true}
use Rattle.base.proofs.Laws.Truth.{not-both, and_left, and_right}
use Rattle.base.specs.Lists.{all}
use Rattle.sheet.specs.Text.{words, value, are_numbers, is_number, values}
use Rattle.sheet.specs.Form.{is_row}
use Rattle.sheet.specs.declared.Area.{Area}
use Rattle.sheet.specs.Tables.{row_place, area_end, row_values, put_row, put_rows}
use Rattle.sheet.proofs.Laws.LayoutLaws.{rows_apart, row_inside}

-- ---- a run of values

-- Entry i is not among n entries from a place on.
abbrev pub Outside : ℕ → ℕ → ℕ → Type 0
Outside at n i = (i < at) ⊎ (at + n ≤ i)

pub sets-other : (vs d : List ℕ) (at i : ℕ) → Outside at (length vs) i → get_or (sets d at vs) i 0 ≡ get_or d i 0
sets-other [] d at i o = refl
sets-other (v ∷ vs) d at i o =
    sets-other vs (set d at v) (suc at) i (⊎_elim (λ l. inl (omega arith)) (λ l. inr (omega arith)) o)
    ∙ get_or-set_other d at i v 0 (λ e. ⊎_elim (λ l. omega arith) (λ l. omega arith) o)

sets-at : (vs d : List ℕ) (at f : ℕ) → at + length vs ≤ length d → f < length vs → get_or (sets d at vs) (at + f) 0 ≡ get_or vs f 0
sets-at [] d at f fits h = absurd (omega arith)
sets-at (v ∷ vs) d at zero fits h =
    let z : at + 0 ≡ at = omega arith in
    ap (λ (i : ℕ). get_or (sets (set d at v) (suc at) vs) i 0) z
    ∙ sets-other vs (set d at v) (suc at) at (inl (omega arith)) ∙ get_or-set_same d at v 0 (omega arith)
sets-at (v ∷ vs) d at (suc f) fits h =
    let z : at + suc f ≡ suc at + f = omega arith in
    ap (λ (i : ℕ). get_or (sets (set d at v) (suc at) vs) i 0) z
    ∙ sets-at vs (set d at v) (suc at) f (omega (arith, length-set d at v)) (omega arith)

-- ---- a row

numbers_length : (k : ℕ) (ws : List (List ℕ)) → are_numbers k ws ≡ true → length ws ≡ k
unfolding are_numbers
numbers_length zero [] h = refl
numbers_length zero (w ∷ ws) h = absurd (not-both h refl)
numbers_length (suc k) [] h = absurd (not-both h refl)
numbers_length (suc k) (w ∷ ws) h = ap suc (numbers_length k ws (and_right (is_number w) _ h))

-- A row puts as many values as its width.
pub row-length : (k : ℕ) (l : List ℕ) → is_row k l ≡ true → length (row_values k l) ≡ k
unfolding values
row-length zero l h = refl
row-length (suc k) l h = length-map (words l) (value 0) ∙ numbers_length (suc k) (words l) h

module _ (a : Area) (r : ℕ) (l d : List ℕ) where
  pub length-put_row : length (put_row a r l d) ≡ length d
  length-put_row = go (leb r a.rows)
    where
      go : (b : Bool) → length (cond b (sets d (row_place a r) (row_values a.width l)) d) ≡ length d
      go true = length-sets d (row_place a r) (row_values a.width l)
      go false = refl

  module _ (w : is_row a.width l ≡ true) where
    put_row-other : (i : ℕ) → (r ≤ a.rows → Outside (row_place a r) a.width i) → get_or (put_row a r l d) i 0 ≡ get_or d i 0
    put_row-other i o = go (leb r a.rows) refl
      where
        go : (b : Bool) → leb r a.rows ≡ b → get_or (cond b (sets d (row_place a r) (row_values a.width l)) d) i 0 ≡ get_or d i 0
        go true e =
            sets-other (row_values a.width l) d (row_place a r) i (rw (row-length a.width l w) (o (leb-true r a.rows e)))
        go false e = refl

    put_row-at : (f : ℕ) → r ≤ a.rows → area_end a ≤ length d → f < a.width
        → get_or (put_row a r l d) (row_place a r + f) 0 ≡ get_or (row_values a.width l) f 0
    put_row-at f h fits g =
        let n = row-length a.width l w in
        let s = row_inside a r h in
        rw (le-leb r a.rows h) (sets-at (row_values a.width l) d (row_place a r) f (omega arith) (omega arith))

-- ---- rows

module _ (a : Area) where
  pub length-put_rows : (r : ℕ) (ls : List (List ℕ)) (d : List ℕ) → length (put_rows a r ls d) ≡ length d
  unfolding put_rows
  length-put_rows r [] d = refl
  length-put_rows r (l ∷ ls) d = length-put_rows (suc r) ls (put_row a r l d) ∙ length-put_row a r l d

  -- Rows from row r on leave the entries in front of it, and behind the area.
  pub put_rows-other : (r : ℕ) (ls : List (List ℕ)) (d : List ℕ) → all (is_row a.width) ls ≡ true
      → (i : ℕ) → (i < row_place a r) ⊎ (area_end a ≤ i) → get_or (put_rows a r ls d) i 0 ≡ get_or d i 0
  unfolding put_rows
  put_rows-other r [] d w i o = refl
  put_rows-other r (l ∷ ls) d w i o =
      let s = rows_apart a r (suc r) (omega arith) in
      put_rows-other (suc r) ls (put_row a r l d) (and_right (is_row a.width l) _ w) i
      (⊎_elim (λ (h : i < row_place a r). inl (omega arith)) (λ (h : area_end a ≤ i). inr h) o)
      ∙ put_row-other a r l d (and_left _ _ w) i
      (λ q. ⊎_elim (λ (h : i < row_place a r). inl h) (λ (h : area_end a ≤ i). inr (let e = row_inside a r q in omega arith)) o)

  -- Line n of them is row r + n.
  pub put_rows-at : (r : ℕ) (ls : List (List ℕ)) (d : List ℕ) → all (is_row a.width) ls ≡ true → area_end a ≤ length d
      → (n f : ℕ) → n < length ls → r + n ≤ a.rows → f < a.width
      → get_or (put_rows a r ls d) (row_place a (r + n) + f) 0 ≡ get_or (row_values a.width (get_or ls n [])) f 0
  unfolding put_rows
  put_rows-at r [] d w fits n f h b g = absurd (omega arith)
  put_rows-at r (l ∷ ls) d w fits zero f h b g =
      let z : r + 0 ≡ r = omega arith in
      let s = rows_apart a r (suc r) (omega arith) in
      ap (λ (m : ℕ). get_or (put_rows a (suc r) ls (put_row a r l d)) (row_place a m + f) 0) z
      ∙ put_rows-other (suc r) ls (put_row a r l d) (and_right (is_row a.width l) _ w) (row_place a r + f) (inl (omega arith))
      ∙ put_row-at a r l d (and_left _ _ w) f (omega arith) fits g
  put_rows-at r (l ∷ ls) d w fits (suc n) f h b g =
      let z : r + suc n ≡ suc r + n = omega arith in
      ap (λ (m : ℕ). get_or (put_rows a (suc r) ls (put_row a r l d)) (row_place a m + f) 0) z
      ∙ put_rows-at (suc r) ls (put_row a r l d) (and_right (is_row a.width l) _ w) (omega (arith, length-put_row a r l d)) n f
      (omega arith) (omega arith) g

-- The trees of a sheet in the tables.
use mathlib.Core.Path.{◌≡◌, refl, ap, ◌∙◌}
use mathlib.Core.Bool.{Bool, true, false, cond, ◌&&◌, ◌||◌}
use mathlib.Core.List.{List, [], ◌∷◌, map}
use mathlib.Core.Logic.{inl, inr, ⊎_elim, ◌⊎◌}
use Prim.Native.Nat.{ℕ, zero, suc, ◌+◌, ◌-◌, ◌≤◌, ◌<◌}
use native.Mathlib.Omega.{arith}
use lib.Dec.{leb}
use lib.ListN.{length, get_or, length-map}
use Rattle.sheet.proofs.Laws.FieldSections.{is_section, section-is}
use Rattle.std.specs.Prelude.{None}
use Rattle.base.proofs.Laws.Truth.{and_left, and_right, or_cases}
use Rattle.base.specs.Lists.{counted, range}
use Rattle.base.proofs.Laws.Ranges.{length-counted, counted-at}
use Rattle.sheet.specs.declared.Counts.{Counts}
use Rattle.sheet.specs.Inner.Records.{expr_at, statement_row_at}
use Rattle.sheet.specs.declared.Special.{Special}
use Rattle.sheet.specs.declared.fields.Field.{Field}
use Rattle.sheet.specs.declared.fields.KindFields.{KindFields}
use Rattle.sheet.specs.Fields.{expr_section, limit_of, no_kind, kinds, kind_of}
use Rattle.sheet_facts.specs.Inner.Facts.{Part, SheetFacts}
use Rattle.sheet.specs.declared.Row.{Row}
use Rattle.sheet.specs.Inner.Sheet.{row_at, rows_to, sheet_of}
use Rattle.sheet.specs.Sheet.{no_row, no_statement}
use Rattle.scope.specs.Trees.{nil, node, third_of, tree_at}
use Rattle.scope_walk.proofs.Laws.Descent.{OnwardTo, Descends, decode-none, decode-row}
use Rattle.sheet.specs.Inner.Rows.{in_tables}
use Rattle.sheet.specs.declared.Statement.{Statement}
use Rattle.scope.proofs.Laws.StatementWalks.{statement_in, StatementsOnward}

-- ---- what the table of kinds says: a part is an expression, and so is a third that is no comprehension's

unfoldable pub part_field : Field → Bool
part_field f = is_section f.section None || is_section f.section expr_section

parts : ℕ → KindFields → Bool
parts kind fs =
    part_field fs.first && (part_field fs.second && ((leb 10 kind && leb kind 12) || part_field fs.third))

parts_from : ℕ → List KindFields → Bool
parts_from kind [] = true
parts_from kind (fs ∷ l) = parts kind fs && parts_from (suc kind) l

parts_at : (l : List KindFields) (k i : ℕ) → parts_from k l ≡ true → i < length l → parts (k + i) (get_or l i no_kind) ≡ true
unfolding parts_from
parts_at [] k i h low = absurd (omega arith)
parts_at (fs ∷ l) k zero h low = let e : k + 0 ≡ k = omega arith in rw e (and_left (parts k fs) _ h)
parts_at (fs ∷ l) k (suc i) h low =
    let e : k + suc i ≡ suc k + i = omega arith in rw e (parts_at l (suc k) i (and_right (parts k fs) _ h) (omega arith))

kinds_have : parts_from 0 kinds ≡ true
unfolding parts_from parts part_field is_section kinds
kinds_have = refl

kinds-length : length kinds ≡ 23
unfolding kinds
kinds-length = refl

parts_of_lem : (kind : ℕ) → kind ≤ 22 → parts kind (kind_of kind) ≡ true
unfolding kind_of
parts_of_lem kind h = let e : 0 + kind ≡ kind = omega arith in rw e at (parts_at kinds 0 kind kinds_have (omega (arith, kinds-length)))

-- ---- the rows of an accepted sheet

module _ (c : Counts) (t : List ℕ) (facts : SheetFacts c (in_tables t)) where
  part_onward : (r : ℕ) (f : Field) (v : ℕ) → part_field f ≡ true → Part c (in_tables t) r f v → OnwardTo c.exprs r v
  unfolding part_field
  part_onward r f v p k = ⊎_elim (λ q. none (section-is _ None q)) (λ q. some (section-is _ expr_section q)) (or_cases _ _ p)
    where
      none : f.section ≡ None → OnwardTo c.exprs r v
      none z = let low : v ≤ limit_of c None = rw z at k.fine.in_range in inl (omega arith)

      some : f.section ≡ expr_section → OnwardTo c.exprs r v
      some z = let low : v ≤ limit_of c expr_section = rw z at k.fine.in_range in go v low (k.later z)
        where
          go : (u : ℕ) → u ≤ c.exprs → (1 ≤ u → r < u) → OnwardTo c.exprs r u
          go zero l f = inl refl
          go (suc u) l f = inr (f (omega arith), l)

  pub row_descends : (r : ℕ) → 1 ≤ r → r ≤ c.exprs → Descends c.exprs r (row_at t r)
  unfolding row_at parts
  row_descends r a b =
      let k = facts.expr r a b in
      let kind = (expr_at t r).kind in
      let fs = kind_of kind in
      let p = parts_of_lem kind k.kind_high in
      let q = and_right (part_field fs.first) _ p in
      let s = and_right (part_field fs.second) _ q in
      record {
        to-first = part_onward r fs.first _ (and_left (part_field fs.first) _ p) k.in_first;
        to-second = part_onward r fs.second _ (and_left (part_field fs.second) _ q) k.in_second;
        to-third = go (leb 10 kind && leb kind 12) s (part_onward r fs.third (expr_at t r).third);
        to-next = k.next;
      }
    where
      go : (compr : Bool) → (compr || part_field (kind_of (expr_at t r).kind).third) ≡ true
          → (part_field (kind_of (expr_at t r).kind).third ≡ true
          → Part c (in_tables t) r (kind_of (expr_at t r).kind).third (expr_at t r).third → OnwardTo c.exprs r (expr_at t r).third)
          → OnwardTo c.exprs r (cond compr 0 (expr_at t r).third)
      go true s f = inl refl
      go false s f = f s (facts.expr r a b).in_third

-- ---- rows as a list

module _ {A : Type 0} (at : ℕ → A) where
  pub rows-length : (n : ℕ) → length (rows_to at n) ≡ n
  unfolding rows_to range
  rows-length n = let e : n + 1 - 1 ≡ n = omega arith in ap (λ (k : ℕ). length (map at (counted 1 k))) e ∙ length-map (counted 1 n) at ∙ length-counted 1 n

  pub rows_at : (n i : ℕ) (d : A) → i < n → get_or (rows_to at n) i d ≡ at (suc i)
  unfolding rows_to range
  rows_at n i d h =
      let e : n + 1 - 1 ≡ n = omega arith in
      ap (λ (k : ℕ). get_or (map at (counted 1 k)) i d) e ∙ counted-at at n 1 i d h ∙ ap at (omega arith)

-- ---- the trees

module _ (c : Counts) (x : Special) (t : List ℕ) (facts : SheetFacts c (in_tables t)) where
  abbrev rows : List Row
  rows = rows_to (row_at t) c.exprs

  row_is : (r : ℕ) → r < length rows → get_or rows r no_row ≡ row_at t (suc r)
  row_is r h = rows_at (row_at t) c.exprs r no_row (omega (arith, rows-length (row_at t) c.exprs))

  descends : (r : ℕ) → r < length rows → Descends (length rows) (suc r) (get_or rows r no_row)
  descends r h =
      let n = rows-length (row_at t) c.exprs in
      rw (n, row_is r h) (row_descends c t facts (suc r) (omega arith) (omega arith))

  pub tree-none : tree_at (sheet_of c x t) 0 ≡ nil
  unfolding tree_at sheet_of
  tree-none = decode-none (length rows) rows

  pub tree-row : (r : ℕ) → 1 ≤ r → r ≤ c.exprs
      → let tree = tree_at (sheet_of c x t) in let w = row_at t r in
      tree r ≡ node w (tree w.first) (tree w.second) (tree (third_of w)) (tree w.next)
  unfolding tree_at sheet_of
  tree-row zero a b = absurd (omega arith)
  tree-row (suc r) a b =
      let h : r < length rows = omega (arith, rows-length (row_at t) c.exprs) in
      rw (row_is r h) at (decode-row rows descends r h)

-- ---- the statements

module _ (c : Counts) (x : Special) (t : List ℕ) where
  pub statements-length : length (sheet_of c x t).statements ≡ c.statements
  unfolding sheet_of
  statements-length = rows-length (statement_row_at t) c.statements

  -- Statement s of the sheet is that of the tables.
  pub statement-is : (s : ℕ) → 1 ≤ s → s ≤ c.statements → statement_in (sheet_of c x t).statements s ≡ statement_row_at t s
  unfolding sheet_of
  statement-is zero a b = absurd (omega arith)
  statement-is (suc s) a b = rows_at (statement_row_at t) c.statements s no_statement b

  -- A statement's `next` is a later one, or none.
  pub statements_onwards : SheetFacts c (in_tables t) → StatementsOnward (sheet_of c x t).statements
  statements_onwards facts zero l n = absurd (n refl)
  statements_onwards facts (suc s) l n =
      let high : suc s ≤ c.statements = omega (arith, statements-length) in
      let e = statement-is (suc s) (omega arith) high in
      let same : (statement_in (sheet_of c x t).statements (suc s)).next ≡ (statement_row_at t (suc s)).next = ap (λ (st : Statement). st.next) e in
      go (facts.statement (suc s) (omega arith) high).next same
    where
      go : ((statement_row_at t (suc s)).next ≡ 0) ⊎ ((suc s < (statement_row_at t (suc s)).next) × ((statement_row_at t (suc s)).next ≤ c.statements))
          → (statement_in (sheet_of c x t).statements (suc s)).next ≡ (statement_row_at t (suc s)).next
          → (suc s < (statement_in (sheet_of c x t).statements (suc s)).next) × ((statement_in (sheet_of c x t).statements (suc s)).next ≤ length (sheet_of c x t).statements)
      go (inl z) same = absurd (n (same ∙ z))
      go (inr h) same = (omega (arith, h.0), omega (arith, h.1, statements-length))

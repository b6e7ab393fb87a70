-- Laws of `LevelsSuffice`.
use mathlib.Core.Path.{◌≡◌, refl, sym, ap, ◌∙◌, subst}
use mathlib.Core.Bool.{true, false, cond}
use mathlib.Core.List.{List, [], ◌∷◌, ◌++◌}
use mathlib.Core.Logic.{◌⊎◌, inl, inr, ⊎_elim}
use mathlib.Core.Option.{Option, none, some}
use Prim.Native.Nat.{ℕ, zero, suc, ◌+◌, ◌≤◌, ◌<◌}
use native.Mathlib.Omega.{arith}
use lib.Dec.{eqb}
use lib.ListN.{length, get_or}
use borrow.Author.Tests.{eqb-false}
use Rattle.base.proofs.Laws.Truth.{bool_cases, lt_cases}
use Rattle.sheet.specs.declared.Counts.{Counts}
use Rattle.sheet.specs.declared.Statement.{Statement}
use Rattle.sheet.specs.Inner.Records.{Within, statement_row_at, first_at}
use Rattle.base.specs.Limits.{nesting}
use Rattle.sheet.specs.Inner.Rows.{in_tables}
use Rattle.sheet.specs.declared.Special.{Special}
use Rattle.sheet.specs.Naming.{statement_row}
use Rattle.sheet.specs.Faults.{first_line}
use Rattle.sheet.specs.Nesting.{level}
use Rattle.sheet.specs.Inner.Enclosing.{enclosing_query}
use Rattle.sheet_facts.proofs.Laws.Accepted.{fine-rows}
use Rattle.sheet_facts.proofs.Laws.Rows.{fine-statement_row}
use Rattle.sheet_facts.proofs.Laws.Levels.{not_deep, first-level}
use Rattle.sheet_facts.proofs.Laws.Facts.{sheet-facts}
use Rattle.base.specs.Lists.{concat_map}
use Rattle.sheet.specs.Inner.Sheet.{row_at, sheet_of}
use Rattle.sheet.specs.Sheet.{no_statement}
use Rattle.sheet.specs.Kinds.{is_assign, is_compr}
use Rattle.scope.specs.Trees.{Tree, nil, row_of, first_of, second_of, chain, outputs_of}
use Rattle.scope.specs.Traverse.{leaves, comprs}
use Rattle.scope.specs.Paths.{get_extra_arg}
use Rattle.scope.specs.Statements.{Stmt, literal_of, stmts_from, stmts_of}
use Rattle.scope_walk.proofs.Laws.Onwards.{onward_low}
use Rattle.scope_walk.proofs.Laws.RowTrees.{rows_at, tree-none, tree-row}
use Rattle.definition.specs.Exprs.{Pairing, pair, mismatch, pairings}
use Rattle.definition_room.specs.Inner.Lying.{Lies, StatementLies}
use Rattle.definition_room.proofs.Laws.Lying.{lies-there, statement-there}
use Rattle.definition_room.proofs.Laws.Homes.{assign_no_compr, fields_lie, compr_opens, compr-deeper}
use Rattle.definition_room.proofs.Laws.StatementHomes.{first-lies, statement-lies, every_opens, every-deeper}
use Rattle.original.specs.Inner.Places.{pair_comprs, expr_comprs, call_comprs, literal_comprs, stmt_comprs, body_of}
use Rattle.definition.specs.RustWay.{analyze}
use Rattle.original.proofs.Laws.LyingTrees.{EachLies, each_lies_none, each-cons, each_append, each-concat, TreeLies, Compr, PairAt, tree-comprs, alone-comprs, chain-at, leaves_at_lem, pairs_at_lem, lies-low}
use Rattle.original.proofs.Laws.MoreLevels.{EndsWithin, more-levels}
use Rattle.original.specs.Inner.MoreLevels.{Alike}
use Rattle.original.specs.Inner.LevelsSuffice.{the_tree, the_sheet}

module _ (c : Counts) (x : Special) (t : List ℕ) (few : Within c) (fine : first_line c (in_tables t) ≡ 0) where
  abbrev InQuery : ℕ → Tree → Type 0
  InQuery q e = Compr c x t few fine q e

  -- ---- the comprehensions of a statement

  module _ (q : ℕ) (some-query : 1 ≤ q) where
    low : (v : ℕ) → Lies c t q v → v ≤ c.exprs
    low v l = lies-low c x t few fine q v some-query l

    of_tree : (r : ℕ) → Lies c t q r → EachLies (InQuery q) (comprs (the_tree c x t few fine r))
    of_tree r l = tree-comprs c x t few fine q r (low r l) l

    of_alone : (l : List Tree) → EachLies (TreeLies c x t few fine q) l → EachLies (InQuery q) (concat_map comprs l)
    of_alone l h = each-concat (InQuery q) comprs l (λ e m. alone-comprs c x t few fine q e (h e m))

    of_pairs : (r s : ℕ) → Lies c t q r → Lies c t q s → EachLies (InQuery q) (concat_map pair_comprs (pairings (the_tree c x t few fine r) (the_tree c x t few fine s)))
    of_pairs r s l k =
        each-concat (InQuery q) pair_comprs (pairings (the_tree c x t few fine r) (the_tree c x t few fine s)) (λ p m. go p (pairs_at_lem c x t few fine q r s (low r l) (low s k) l k p m))
      where
        go : (p : Pairing) → PairAt c x t few fine q p → EachLies (InQuery q) (pair_comprs p)
        go (pair a b) h = each_append (InQuery q) (comprs a) (comprs b) (alone-comprs c x t few fine q a h.0) (alone-comprs c x t few fine q b h.1)
        go (mismatch v) h = each_lies_none (InQuery q)

    of_expr : (r : ℕ) → Lies c t q r → EachLies (InQuery q) (expr_comprs (the_tree c x t few fine r))
    unfolding expr_comprs
    of_expr r l = go (lt_cases 0 r)
      where
        go : (0 < r) ⊎ (r ≤ 0) → EachLies (InQuery q) (cond (is_assign (row_of (the_tree c x t few fine r))) (concat_map pair_comprs (pairings (first_of (the_tree c x t few fine r)) (second_of (the_tree c x t few fine r)))) (comprs (the_tree c x t few fine r)))
        go (inr z) =
            let e : r ≡ 0 = omega arith in
            let no : the_tree c x t few fine r ≡ nil = ap (the_tree c x t few fine) e ∙ tree-none c x t (sheet-facts c (in_tables t) few fine) in
            let none : is_assign (row_of (the_tree c x t few fine r)) ≡ false = ap (λ (d : Tree). is_assign (row_of d)) no in
            rw none (of_tree r l)
        go (inl z) =
            let b = low r l in
            let is = tree-row c x t (sheet-facts c (in_tables t) few fine) r z b in
            let a : is_assign (row_of (the_tree c x t few fine r)) ≡ is_assign (row_at t r) = ap (λ (d : Tree). is_assign (row_of d)) is in
            let f : first_of (the_tree c x t few fine r) ≡ the_tree c x t few fine (row_at t r).first = ap first_of is in
            let s : second_of (the_tree c x t few fine r) ≡ the_tree c x t few fine (row_at t r).second = ap second_of is in
            rw (a, f, s)
            (⊎_elim
            (λ (p : is_assign (row_at t r) ≡ true).
            let lie = fields_lie c t few fine q r z b (lies-there c t q r z l) (assign_no_compr (row_at t r) p) in
            rw p (of_pairs (row_at t r).first (row_at t r).second lie.first lie.second))
            (λ (p : is_assign (row_at t r) ≡ false). rw p (of_tree r l)) (bool_cases (is_assign (row_at t r))))

    of_call : (arg : Option Tree) (r : ℕ) → Lies c t q r → EachLies (InQuery q) (call_comprs arg (the_tree c x t few fine r))
    of_call none r l = of_expr r l
    of_call (some arg) r l = of_tree r l

    module _ (s : ℕ) (from : 1 ≤ s) (to : s ≤ c.statements) (here : enclosing_query c (in_tables t) (statement_row s) ≡ q) where
      abbrev st : Statement
      st = statement_row_at t s

      abbrev written : Stmt
      written = record { literal = literal_of (the_sheet c x t few fine) st; with_mods = chain (the_tree c x t few fine st.with) }

      literal-comprs : EachLies (InQuery q) (literal_comprs (the_sheet c x t few fine) (literal_of (the_sheet c x t few fine) st))
      unfolding literal_of literal_comprs
      literal-comprs =
          let lie = statement-lies c t few fine q s from to here in
          ⊎_elim (λ (p : eqb st.form 1 ≡ true). rw p (each_lies_none (InQuery q)))
          (λ (p : eqb st.form 1 ≡ false).
          ⊎_elim
          (λ (o : eqb st.form 2 ≡ true).
          rw (p, o)
          (each_append (InQuery q) (comprs (the_tree c x t few fine st.third)) (concat_map comprs (leaves (the_tree c x t few fine st.first) ++ leaves (the_tree c x t few fine st.second))) (of_tree st.third lie.third)
          (of_alone _
          (each_append (TreeLies c x t few fine q) (leaves (the_tree c x t few fine st.first)) (leaves (the_tree c x t few fine st.second)) (leaves_at_lem c x t few fine st.first q (low _ lie.first) lie.first)
          (leaves_at_lem c x t few fine st.second q (low _ lie.second) lie.second)))))
          (λ (o : eqb st.form 2 ≡ false).
          ⊎_elim (λ (u : eqb st.form 3 ≡ true). rw (p, o, u) (of_call (get_extra_arg (the_sheet c x t few fine) (the_tree c x t few fine st.first)) st.first lie.first))
          (λ (u : eqb st.form 3 ≡ false).
          ⊎_elim (λ (v : eqb st.form 4 ≡ true). rw (p, o, u, v) (of_expr st.first lie.first))
          (λ (v : eqb st.form 4 ≡ false). rw (p, o, u, v) (of_tree st.third lie.third)) (bool_cases (eqb st.form 4)))
          (bool_cases (eqb st.form 3)))
          (bool_cases (eqb st.form 2)))
          (bool_cases (eqb st.form 1))

      stmt_comprs_lem : EachLies (InQuery q) (stmt_comprs (the_sheet c x t few fine) written)
      unfolding stmt_comprs
      stmt_comprs_lem =
          let lie = statement-lies c t few fine q s from to here in
          each_append (InQuery q) (concat_map comprs (chain (the_tree c x t few fine st.with))) _
          (of_alone _ (chain-at c x t few fine st.with q (low _ lie.with) lie.with)) literal-comprs

      -- A body is that of an `every`.
      body_is : (b : ℕ) → body_of (literal_of (the_sheet c x t few fine) st) ≡ b ∷ [] → (st.form ≡ 5) × (b ≡ st.query)
      unfolding literal_of
      body_is b e =
          let row = fine-statement_row c (in_tables t) s ((fine-rows c (in_tables t) fine).fine-statement s from to) in
          ⊎_elim (λ (p : eqb st.form 1 ≡ true). let f : [] ≡ b ∷ [] = rw p at e in absurd (differ f))
          (λ (p : eqb st.form 1 ≡ false).
          ⊎_elim (λ (o : eqb st.form 2 ≡ true). let f : [] ≡ b ∷ [] = rw (p, o) at e in absurd (differ f))
          (λ (o : eqb st.form 2 ≡ false).
          ⊎_elim (λ (u : eqb st.form 3 ≡ true). let f : [] ≡ b ∷ [] = rw (p, o, u) at e in absurd (differ f))
          (λ (u : eqb st.form 3 ≡ false).
          ⊎_elim (λ (v : eqb st.form 4 ≡ true). let f : [] ≡ b ∷ [] = rw (p, o, u, v) at e in absurd (differ f))
          (λ (v : eqb st.form 4 ≡ false).
          let f : st.query ∷ [] ≡ b ∷ [] = rw (p, o, u, v) at e in
          let n1 = eqb-false st.form 1 p in
          let n2 = eqb-false st.form 2 o in
          let n3 = eqb-false st.form 3 u in
          let n4 = eqb-false st.form 4 v in
          (omega (arith, row.form-low, row.form-high), sym (ap (λ (l : List ℕ). get_or l 0 0) f)))
          (bool_cases (eqb st.form 4)))
          (bool_cases (eqb st.form 3)))
          (bool_cases (eqb st.form 2)))
          (bool_cases (eqb st.form 1))
        where
          differ : {b : ℕ} → [] ≡ b ∷ [] → ⊥
          differ f = let z : ◌≡◌ {A = ℕ} 0 1 = ap length f in omega arith

  -- ---- statements

  -- A statement of query q.
  pub record StmtAt (q : ℕ) (st : Stmt) : Type 0 where
    pub row : ℕ
    pub from : 1 ≤ row
    pub to : row ≤ c.statements
    pub here : enclosing_query c (in_tables t) (statement_row row) ≡ q
    pub is : st ≡ record { literal = literal_of (the_sheet c x t few fine) (statement_row_at t row); with_mods = chain (the_tree c x t few fine (statement_row_at t row).with) }

  statement-is : (r : ℕ) → suc r ≤ c.statements → get_or (the_sheet c x t few fine).statements r no_statement ≡ statement_row_at t (suc r)
  unfolding sheet_of
  statement-is r h = rows_at (statement_row_at t) c.statements r no_statement h

  stmts_from_lem : (k r q : ℕ) → r ≤ c.statements → StatementLies c t q r → EachLies (StmtAt q) (stmts_from (the_sheet c x t few fine) k r)
  unfolding stmts_from
  stmts_from_lem zero r q b l = each_lies_none (StmtAt q)
  stmts_from_lem (suc k) zero q b l = each_lies_none (StmtAt q)
  stmts_from_lem (suc k) (suc r) q b l =
      let from : 1 ≤ suc r = omega arith in
      let here = statement-there c t q (suc r) from l in
      let st = statement_row_at t (suc r) in
      rw (statement-is r b)
      (each-cons (StmtAt q) (record { literal = literal_of (the_sheet c x t few fine) st; with_mods = chain (the_tree c x t few fine st.with) }) _
      (record { row = suc r; from = from; to = b; here = here; is = refl })
      (stmts_from_lem k st.next q (onward_low c.statements (suc r) st.next ((sheet-facts c (in_tables t) few fine).statement (suc r) from b).next)
      (statement-lies c t few fine q (suc r) from b here).next))

  first-is : (q : ℕ) → 1 ≤ q → q ≤ c.queries → get_or (0 ∷ (the_sheet c x t few fine).queries) q 0 ≡ first_at t q
  unfolding sheet_of
  first-is zero a b = absurd (omega arith)
  first-is (suc q) a b = rows_at (first_at t) c.queries q 0 b

  stmts_at_lem : (q : ℕ) → 1 ≤ q → q ≤ c.queries → EachLies (StmtAt q) (stmts_of (the_sheet c x t few fine) q)
  unfolding stmts_of
  stmts_at_lem q a b =
      rw (first-is q a b)
      (stmts_from_lem (length (the_sheet c x t few fine).statements) (first_at t q) q ((sheet-facts c (in_tables t) few fine).query q a b).in_first (first-lies c t few fine q a b))

  -- ---- levels

  shallow : (q : ℕ) → 1 ≤ q → q ≤ c.queries → level c (in_tables t) q ≤ nesting
  shallow q a b =
      ⊎_elim (λ (h : 1 < q). not_deep c (in_tables t) few (fine-rows c (in_tables t) fine) q h b)
      (λ (h : q ≤ 1). let e : q ≡ 1 = omega arith in omega (arith, ap (level c (in_tables t)) e, first-level c (in_tables t) few (fine-rows c (in_tables t) fine))) (lt_cases 1 q)

  -- Enough levels are left at query q.
  ends : (n q : ℕ) (outputs : List Tree) → 1 ≤ q → q ≤ c.queries → nesting < level c (in_tables t) q + n → EachLies (TreeLies c x t few fine q) outputs
      → EndsWithin n (the_sheet c x t few fine) q outputs
  ends zero q outputs a b h o = absurd (omega (arith, shallow q a b))
  ends (suc n) q outputs a b h o =
      let below : (e : Tree) → InQuery q e → EndsWithin n (the_sheet c x t few fine) (row_of e).third (outputs_of e) = λ e i.
      let r = i.at.row in
      let w = row_at t r in
      let is : row_of e ≡ w = ap row_of i.at.is in
      let compr : is_compr w ≡ true = sym (ap is_compr is) ∙ i.compr in
      let opens = compr_opens c t few fine q r i.at.low i.at.high i.at.here compr in
      let deeper = compr-deeper c t few fine q r i.at.low i.at.high i.at.here compr in
      let later = opens.nests.not_first in
      let outs : EachLies (TreeLies c x t few fine w.third) (chain (the_tree c x t few fine w.first) ++ chain (the_tree c x t few fine w.second)) =
      each_append (TreeLies c x t few fine w.third) (chain (the_tree c x t few fine w.first)) (chain (the_tree c x t few fine w.second))
      (chain-at c x t few fine w.first w.third (lies-low c x t few fine w.third w.first (omega arith) opens.first) opens.first)
      (chain-at c x t few fine w.second w.third (lies-low c x t few fine w.third w.second (omega arith) opens.second) opens.second) in
      subst (λ (d : Tree). EndsWithin n (the_sheet c x t few fine) (row_of d).third (outputs_of d)) (sym i.at.is)
      (ends n w.third (chain (the_tree c x t few fine w.first) ++ chain (the_tree c x t few fine w.second)) (omega arith) opens.in_sheet (omega arith) outs) in (
        λ st m.
            let s = stmts_at_lem q a b st m in (
              λ e i. below e (subst (λ (d : Stmt). EachLies (InQuery q) (stmt_comprs (the_sheet c x t few fine) d)) (sym s.is) (stmt_comprs_lem q a s.row s.from s.to s.here) e i),
              λ d i.
                  let body = body_is q a s.row s.from s.to s.here d (sym (ap (λ (y : Stmt). body_of y.literal) s.is) ∙ i) in
                  let opens = every_opens c t few fine q s.row s.from s.to s.here body.0 in
                  let deeper = every-deeper c t few fine q s.row s.from s.to s.here body.0 in
                  let later = opens.0.not_first in
                  subst (λ (v : ℕ). EndsWithin n (the_sheet c x t few fine) v []) (sym body.1)
                  (ends n (statement_row_at t s.row).query [] (omega arith) opens.1 (omega arith) (each_lies_none (TreeLies c x t few fine (statement_row_at t s.row).query))),
            ),
        λ e m. below e (each-concat (InQuery q) comprs outputs (λ d i. alone-comprs c x t few fine q d (o d i)) e m),
      )

  -- However many levels there are more, the analysis comes to the same.
  pub more_levels_alike : (k : ℕ) → Alike (analyze nesting (the_sheet c x t few fine) [] 1 []) (analyze (nesting + k) (the_sheet c x t few fine) [] 1 [])
  more_levels_alike k =
      more-levels nesting k (the_sheet c x t few fine) [] 1 []
      (ends nesting 1 [] (omega arith) few.some-query (omega (arith, first-level c (in_tables t) few (fine-rows c (in_tables t) fine))) (each_lies_none (TreeLies c x t few fine 1)))

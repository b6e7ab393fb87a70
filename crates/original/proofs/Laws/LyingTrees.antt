-- Expressions that lie in a query: what a walk over them meets, the leaves of a pattern, chains and pairs lie there too.
use mathlib.Core.Path.{◌≡◌, refl, sym, ap, ◌∙◌, subst}
use mathlib.Core.Bool.{Bool, true, false, cond, ◌&&◌}
use mathlib.Core.List.Memᴰ
use mathlib.Core.List.{List, [], ◌∷◌, ◌++◌, foldl, append_assoc, append-nil, Memᴰ}
use mathlib.Core.Logic.{◌⊎◌, inl, inr, ⊎_elim}
use Prim.Native.Nat.{ℕ, zero, suc, ◌+◌, ◌≤◌, ◌<◌}
use native.Mathlib.Omega.{arith}
use lib.Dec.{eqb}
use lib.ListN.{length, get_or-eq_default}
use Rattle.base.proofs.Laws.Truth.{bool_cases, lt_cases, or_left, and_left, and_right}
use Rattle.sheet.specs.declared.Counts.{Counts}
use Rattle.sheet.specs.Inner.Records.{Within}
use Rattle.sheet.specs.Inner.Rows.{in_tables}
use Rattle.sheet.specs.declared.Special.{Special}
use Rattle.sheet.specs.Naming.{expr_row, namings}
use Rattle.sheet.specs.Faults.{first_line}
use Rattle.sheet.specs.Nesting.{enclosing_of, enclosing}
use Rattle.sheet.proofs.Laws.GrownLaws.{grown-length}
use Rattle.sheet.specs.Inner.Enclosing.{enclosing_query}
use Rattle.sheet_facts.specs.Inner.Facts.{SheetFacts}
use Rattle.sheet_facts.proofs.Laws.Facts.{sheet-facts}
use Rattle.base.specs.Lists.{concat_map}
use Rattle.sheet.specs.Inner.Sheet.{row_at, sheet_of}
use Rattle.sheet.specs.Kinds.{is_pattern, is_compr, is_array}
use Rattle.scope.specs.Trees.{Tree, nil, node, row_of, third_of, tree_at, chain}
use Rattle.scope.specs.Traverse.{children_of, entered, traverse, leaves, comprs}
use Rattle.scope_walk.proofs.Laws.Descent.{OnwardTo}
use Rattle.scope_walk.specs.Inner.Kids.{kids_of}
use Rattle.scope_walk.proofs.Laws.RowTrees.{row_descends, tree-none, tree-row}
use Rattle.scope_walk.proofs.Laws.Onwards.{row_onwards, onward_low}
use Rattle.scope_walk.proofs.Laws.Walks.{alone_at, over-row}
use Rattle.definition.specs.Exprs.{Pairing, pair, mismatch, pairings}
use Rattle.definition_room.specs.Inner.Lying.{Lies}
use Rattle.definition_room.proofs.Laws.Lying.{lies-there}
use Rattle.definition_room.proofs.Laws.Homes.{pattern_no_compr, kids_lie, next-lies, fields_lie}

-- What holds of each element.
module _ {A : Type 0} (P : A → Type 0) where
  abbrev pub EachLies : List A → Type 0
  EachLies l = (e : A) → Memᴰ e l → P e

  pub each_lies_none : EachLies []
  each_lies_none e m = absurd (Memᴰ.not-nil m)

  pub each-cons : (x : A) (l : List A) → P x → EachLies l → EachLies (x ∷ l)
  each-cons x l p h e m = ⊎_elim (λ (z : e ≡ x). subst P (sym z) p) (λ (z : Memᴰ e l). h e z) (Memᴰ.cases_cons m)

  pub each_append : (k l : List A) → EachLies k → EachLies l → EachLies (k ++ l)
  each_append [] l f g = g
  each_append (x ∷ k) l f g = each-cons x (k ++ l) (f x (Memᴰ.head refl)) (each_append k l (λ e m. f e (Memᴰ.tail m)) g)

  pub each-concat : {B : Type 0} (f : B → List A) (l : List B) → ((b : B) → Memᴰ b l → EachLies (f b)) → EachLies (concat_map f l)
  each-concat f [] h = each_lies_none
  each-concat f (b ∷ l) h = each_append (f b) (concat_map f l) (h b (Memᴰ.head refl)) (each-concat f l (λ d m. h d (Memᴰ.tail m)))

-- A list by its elements, one after the other.
abbrev snoc : List Tree → Tree → List Tree
snoc s e = s ++ (e ∷ [])

snoc-fold : (s l : List Tree) → foldl snoc s l ≡ s ++ l
snoc-fold s [] = sym (append-nil s)
snoc-fold s (e ∷ l) = snoc-fold (snoc s e) l ∙ append_assoc s (e ∷ []) l

module _ (c : Counts) (x : Special) (t : List ℕ) (few : Within c) (fine : first_line c (in_tables t) ≡ 0) where
  abbrev tree : ℕ → Tree
  tree r = tree_at (sheet_of c x t) r

  abbrev facts : SheetFacts c (in_tables t)
  facts = sheet-facts c (in_tables t) few fine

  -- An expression, without the rest of its chain, whose row lies in query q.
  pub record TreeLies (q : ℕ) (e : Tree) : Type 0 where
    pub row : ℕ
    pub low : 1 ≤ row
    pub high : row ≤ c.exprs
    pub here : enclosing_query c (in_tables t) (expr_row row) ≡ q
    pub is : e ≡ alone_at c x t row

  here-at : (q r : ℕ) → 1 ≤ r → r ≤ c.exprs → Lies c t q r → TreeLies q (alone_at c x t r)
  here-at q r a b l = record { row = r; low = a; high = b; here = lies-there c t q r a l; is = refl }

  -- ---- what a walk meets

  abbrev met : ℕ → List Tree
  met r = traverse (tree r)

  pieces : (r : ℕ) → 1 ≤ r → r ≤ c.exprs
      → met r ≡ ((((alone_at c x t r ∷ []) ++ met (kids_of (row_at t r)).first) ++ met (kids_of (row_at t r)).second) ++ met (kids_of (row_at t r)).third) ++ met (row_at t r).next
  pieces r a b =
      let k = kids_of (row_at t r) in
      let s1 = snoc-fold (alone_at c x t r ∷ []) (met k.first) in
      let s2 = snoc-fold ((alone_at c x t r ∷ []) ++ met k.first) (met k.second) in
      let s3 = snoc-fold (((alone_at c x t r ∷ []) ++ met k.first) ++ met k.second) (met k.third) in
      let s4 = snoc-fold ((((alone_at c x t r ∷ []) ++ met k.first) ++ met k.second) ++ met k.third) (met (row_at t r).next) in
      sym (snoc-fold [] (met r)) ∙ over-row c x t facts snoc [] r a b
      ∙ ap (λ (l : List Tree). foldl snoc (foldl snoc (foldl snoc l (met k.second)) (met k.third)) (met (row_at t r).next)) s1
      ∙ ap (λ (l : List Tree). foldl snoc (foldl snoc l (met k.third)) (met (row_at t r).next)) s2
      ∙ ap (λ (l : List Tree). foldl snoc l (met (row_at t r).next)) s3 ∙ s4

  none-met : met 0 ≡ []
  unfolding traverse
  none-met = rw (tree-none c x t facts)

  -- What is said of a row, if it is said of those behind it.
  abbrev Rest : ℕ → ℕ → (ℕ → List Tree) → Type 0
  Rest q r f = (v : ℕ) → r < v → v ≤ c.exprs → Lies c t q v → EachLies (TreeLies q) (f v)

  -- A row that is named is none, or one behind.
  named-at : (q r : ℕ) (f : ℕ → List Tree) → f 0 ≡ [] → Rest q r f → (v : ℕ) → OnwardTo c.exprs r v → Lies c t q v → EachLies (TreeLies q) (f v)
  named-at q r f none ih v (inl z) l = subst (λ (i : ℕ). EachLies (TreeLies q) (f i)) (sym z) (subst (EachLies (TreeLies q)) (sym none) (each_lies_none (TreeLies q)))
  named-at q r f none ih v (inr o) l = ih v o.0 o.1 l

  -- So what is kept from each row to the one before holds of all.
  all-rows : (f : ℕ → List Tree) → f 0 ≡ [] → (q : ℕ) → ((r : ℕ) → 1 ≤ r → r ≤ c.exprs → Lies c t q r → Rest q r f → EachLies (TreeLies q) (f r))
      → (k r : ℕ) → c.exprs < k + r → r ≤ c.exprs → Lies c t q r → EachLies (TreeLies q) (f r)
  all-rows f none q step zero r h b l = absurd (omega arith)
  all-rows f none q step (suc k) r h b l =
      ⊎_elim (λ (z : 0 < r). step r z b l (λ v u y w. all-rows f none q step k v (omega arith) y w))
      (λ (z : r ≤ 0). subst (λ (i : ℕ). EachLies (TreeLies q) (f i)) (none_left z) (subst (EachLies (TreeLies q)) (sym none) (each_lies_none (TreeLies q)))) (lt_cases 0 r)
    where
      none_left : r ≤ 0 → 0 ≡ r
      none_left z = omega arith

  met-step : (q r : ℕ) → 1 ≤ r → r ≤ c.exprs → Lies c t q r → Rest q r met → EachLies (TreeLies q) (met r)
  met-step q r low b l ih =
      let here = lies-there c t q r low l in
      let kids = kids_of (row_at t r) in
      let on = row_onwards c t few facts r low b in
      let lie = kids_lie c t few fine q r low b here in
      let go = named-at q r met none-met ih in
      subst (EachLies (TreeLies q)) (sym (pieces r low b))
      (each_append (TreeLies q) _ (met (row_at t r).next)
      (each_append (TreeLies q) _ (met kids.third)
      (each_append (TreeLies q) _ (met kids.second)
      (each_append (TreeLies q) (alone_at c x t r ∷ []) (met kids.first) (each-cons (TreeLies q) _ [] (here-at q r low b l) (each_lies_none (TreeLies q)))
      (go kids.first on.first lie.first))
      (go kids.second on.second lie.second))
      (go kids.third on.third lie.third))
      (go (row_at t r).next on.next (next-lies c t few fine q r low b here)))

  pub walk_at : (r q : ℕ) → r ≤ c.exprs → Lies c t q r → EachLies (TreeLies q) (met r)
  walk_at r q b l = all-rows met none-met q (met-step q) (suc c.exprs) r (omega arith) b l

  -- So does what is met below one expression alone.
  pub alone_at_lem : (q : ℕ) (e : Tree) → TreeLies q e → EachLies (TreeLies q) (traverse e)
  unfolding traverse
  alone_at_lem q e a = subst (λ (d : Tree). EachLies (TreeLies q) (traverse d)) (sym a.is) (go a.row a.low a.high a.here)
    where
      front : (k l : List Tree) → EachLies (TreeLies q) (k ++ l) → EachLies (TreeLies q) k
      front [] l h = each_lies_none (TreeLies q)
      front (y ∷ k) l h = each-cons (TreeLies q) y k (h y (Memᴰ.head refl)) (front k l (λ d m. h d (Memᴰ.tail m)))

      go : (r : ℕ) → 1 ≤ r → r ≤ c.exprs → enclosing_query c (in_tables t) (expr_row r) ≡ q → EachLies (TreeLies q) (traverse (alone_at c x t r))
      go r low high here =
          let h : EachLies (TreeLies q) (traverse (node (row_at t r) (tree (row_at t r).first) (tree (row_at t r).second) (tree (third_of (row_at t r))) (tree (row_at t r).next))) =
          subst (λ (d : Tree). EachLies (TreeLies q) (traverse d)) (tree-row c x t facts r low high) (walk_at r q high (inr here)) in
          let w = row_at t r in
          let k = alone_at c x t r ∷ entered (children_of w) (met w.first) (met w.second) (traverse (tree (third_of w))) in
          subst (EachLies (TreeLies q)) (sym (append-nil k)) (front k (met w.next) h)

  -- ---- comprehensions

  pub record Compr (q : ℕ) (e : Tree) : Type 0 where
    pub at : TreeLies q e
    pub compr : is_compr (row_of e) ≡ true

  pub comprs-at : (q : ℕ) (l : List Tree) → EachLies (TreeLies q) l → EachLies (Compr q) (concat_map (λ e. cond (is_compr (row_of e)) (e ∷ []) []) l)
  comprs-at q l h = each-concat (Compr q) (λ e. cond (is_compr (row_of e)) (e ∷ []) []) l (λ e m. go e (h e m) (bool_cases (is_compr (row_of e))))
    where
      go : (e : Tree) → TreeLies q e → (is_compr (row_of e) ≡ true) ⊎ (is_compr (row_of e) ≡ false) → EachLies (Compr q) (cond (is_compr (row_of e)) (e ∷ []) [])
      go e a (inl p) = rw p (each-cons (Compr q) e [] (record { at = a; compr = p }) (each_lies_none (Compr q)))
      go e a (inr p) = rw p (each_lies_none (Compr q))

  pub tree-comprs : (q r : ℕ) → r ≤ c.exprs → Lies c t q r → EachLies (Compr q) (comprs (tree r))
  tree-comprs q r b l = comprs-at q (met r) (walk_at r q b l)

  pub alone-comprs : (q : ℕ) (e : Tree) → TreeLies q e → EachLies (Compr q) (comprs e)
  alone-comprs q e a = comprs-at q (traverse e) (alone_at_lem q e a)

  -- ---- chains

  no_chain : chain (tree 0) ≡ []
  unfolding chain
  no_chain = rw (tree-none c x t facts)

  chain-step : (q r : ℕ) → 1 ≤ r → r ≤ c.exprs → Lies c t q r → Rest q r (λ v. chain (tree v)) → EachLies (TreeLies q) (chain (tree r))
  unfolding chain
  chain-step q r low b l ih =
      let here = lies-there c t q r low l in
      rw (tree-row c x t facts r low b)
      (each-cons (TreeLies q) (alone_at c x t r) _ (here-at q r low b l)
      (named-at q r (λ v. chain (tree v)) no_chain ih (row_at t r).next (row_onwards c t few facts r low b).next (next-lies c t few fine q r low b here)))

  pub chain-at : (r q : ℕ) → r ≤ c.exprs → Lies c t q r → EachLies (TreeLies q) (chain (tree r))
  chain-at r q b l = all-rows (λ v. chain (tree v)) no_chain q (chain-step q) (suc c.exprs) r (omega arith) b l

  -- ---- the leaves of a pattern

  no_leaves : leaves (tree 0) ≡ []
  unfolding leaves
  no_leaves = rw (tree-none c x t facts)

  leaves-step : (q r : ℕ) → 1 ≤ r → r ≤ c.exprs → Lies c t q r → Rest q r (λ v. leaves (tree v)) → EachLies (TreeLies q) (leaves (tree r))
  unfolding leaves
  leaves-step q r low b l ih =
      let w = row_at t r in
      let here = lies-there c t q r low l in
      let d = row_descends c t facts r low b in
      let go = named-at q r (λ v. leaves (tree v)) no_leaves ih in
      rw (tree-row c x t facts r low b)
      (each_append (TreeLies q) (cond (is_pattern w) (leaves (tree w.first)) (alone_at c x t r ∷ [])) (leaves (tree w.next))
      (first (bool_cases (is_pattern w)) (λ p. go w.first d.to-first (fields_lie c t few fine q r low b here (pattern_no_compr w p)).first)
      (here-at q r low b l))
      (go w.next d.to-next (next-lies c t few fine q r low b here)))
    where
      first : (is_pattern (row_at t r) ≡ true) ⊎ (is_pattern (row_at t r) ≡ false)
          → (is_pattern (row_at t r) ≡ true → EachLies (TreeLies q) (leaves (tree (row_at t r).first))) → TreeLies q (alone_at c x t r)
          → EachLies (TreeLies q) (cond (is_pattern (row_at t r)) (leaves (tree (row_at t r).first)) (alone_at c x t r ∷ []))
      first (inl p) f a = rw p (f p)
      first (inr p) f a = rw p (each-cons (TreeLies q) _ [] a (each_lies_none (TreeLies q)))

  pub leaves_at_lem : (r q : ℕ) → r ≤ c.exprs → Lies c t q r → EachLies (TreeLies q) (leaves (tree r))
  leaves_at_lem r q b l = all-rows (λ v. leaves (tree v)) no_leaves q (leaves-step q) (suc c.exprs) r (omega arith) b l

  -- ---- the pairs of an assignment

  abbrev pub PairAt : ℕ → Pairing → Type 0
  PairAt q (pair a b) = TreeLies q a × TreeLies q b
  PairAt q (mismatch v) = Unit

  no_left : (d : Tree) → pairings (tree 0) d ≡ []
  unfolding pairings
  no_left d = rw (tree-none c x t facts)

  no_right : (d : Tree) → pairings d (tree 0) ≡ []
  unfolding pairings
  no_right nil = refl
  no_right (node w a b e n) = rw (tree-none c x t facts)

  abbrev PairRest : ℕ → ℕ → Type 0
  PairRest q r = (v s : ℕ) → r < v → v ≤ c.exprs → s ≤ c.exprs → Lies c t q v → Lies c t q s → EachLies (PairAt q) (pairings (tree v) (tree s))

  pair-named : (q r : ℕ) → PairRest q r → (v s : ℕ) → OnwardTo c.exprs r v → s ≤ c.exprs → Lies c t q v → Lies c t q s
      → EachLies (PairAt q) (pairings (tree v) (tree s))
  pair-named q r ih v s (inl z) b l y =
      subst (λ (i : ℕ). EachLies (PairAt q) (pairings (tree i) (tree s))) (sym z) (subst (EachLies (PairAt q)) (sym (no_left (tree s))) (each_lies_none (PairAt q)))
  pair-named q r ih v s (inr o) b l y = ih v s o.0 o.1 b l y

  pair_step : (q r s : ℕ) → 1 ≤ r → r ≤ c.exprs → 1 ≤ s → s ≤ c.exprs → Lies c t q r → Lies c t q s → PairRest q r
      → EachLies (PairAt q) (pairings (tree r) (tree s))
  unfolding pairings
  pair_step q r s low b low' b' l l' ih =
      let w = row_at t r in
      let v = row_at t s in
      let here = lies-there c t q r low l in
      let there = lies-there c t q s low' l' in
      let on = row_descends c t facts r low b in
      let on' = row_descends c t facts s low' b' in
      rw (tree-row c x t facts r low b, tree-row c x t facts s low' b')
      (each_append (PairAt q)
      (cond (is_array w && is_array v) (cond (eqb (length (chain (tree w.first))) (length (chain (tree v.first)))) (pairings (tree w.first) (tree v.first)) (mismatch v ∷ [])) (pair (alone_at c x t r) (alone_at c x t s) ∷ []))
      (pairings (tree w.next) (tree v.next))
      (front (bool_cases (is_array w && is_array v))
      (λ p.
      let first = (fields_lie c t few fine q r low b here (pattern_no_compr w (or_left _ _ (and_left (is_array w) (is_array v) p)))).first in
      let first' = (fields_lie c t few fine q s low' b' there (pattern_no_compr v (or_left _ _ (and_right (is_array w) (is_array v) p)))).first in
      pair-named q r ih w.first v.first on.to-first (onward_low c.exprs s v.first on'.to-first) first first')
      (here-at q r low b l, here-at q s low' b' l'))
      (pair-named q r ih w.next v.next on.to-next (onward_low c.exprs s v.next on'.to-next)
      (next-lies c t few fine q r low b here) (next-lies c t few fine q s low' b' there)))
    where
      inner : (z : Bool) (l k : List Pairing) → EachLies (PairAt q) l → EachLies (PairAt q) k → EachLies (PairAt q) (cond z l k)
      inner true l k f g = f
      inner false l k f g = g

      front : (is_array (row_at t r) && is_array (row_at t s) ≡ true) ⊎ (is_array (row_at t r) && is_array (row_at t s) ≡ false)
          → (is_array (row_at t r) && is_array (row_at t s) ≡ true → EachLies (PairAt q) (pairings (tree (row_at t r).first) (tree (row_at t s).first)))
          → TreeLies q (alone_at c x t r) × TreeLies q (alone_at c x t s)
          → EachLies (PairAt q)
          (cond (is_array (row_at t r) && is_array (row_at t s)) (cond (eqb (length (chain (tree (row_at t r).first))) (length (chain (tree (row_at t s).first)))) (pairings (tree (row_at t r).first) (tree (row_at t s).first)) (mismatch (row_at t s) ∷ [])) (pair (alone_at c x t r) (alone_at c x t s) ∷ []))
      front (inl p) f a = rw p (inner (eqb (length (chain (tree (row_at t r).first))) (length (chain (tree (row_at t s).first)))) _ _ (f p) (each-cons (PairAt q) (mismatch (row_at t s)) [] tt (each_lies_none (PairAt q))))
      front (inr p) f a = rw p (each-cons (PairAt q) (pair (alone_at c x t r) (alone_at c x t s)) [] a (each_lies_none (PairAt q)))

  pairs_more : (q k r s : ℕ) → c.exprs < k + r → r ≤ c.exprs → s ≤ c.exprs → Lies c t q r → Lies c t q s → EachLies (PairAt q) (pairings (tree r) (tree s))
  pairs_more q zero r s h b b' l l' = absurd (omega arith)
  pairs_more q (suc k) r s h b b' l l' =
      ⊎_elim
      (λ (z : 0 < r).
      ⊎_elim (λ (y : 0 < s). pair_step q r s z b y b' l l' (λ v u o p p' w w'. pairs_more q k v u (omega arith) p p' w w'))
      (λ (y : s ≤ 0). subst (λ (i : ℕ). EachLies (PairAt q) (pairings (tree r) (tree i))) (none_left s y) (subst (EachLies (PairAt q)) (sym (no_right (tree r))) (each_lies_none (PairAt q)))) (lt_cases 0 s))
      (λ (z : r ≤ 0). subst (λ (i : ℕ). EachLies (PairAt q) (pairings (tree i) (tree s))) (none_left r z) (subst (EachLies (PairAt q)) (sym (no_left (tree s))) (each_lies_none (PairAt q)))) (lt_cases 0 r)
    where
      none_left : (r : ℕ) → r ≤ 0 → 0 ≡ r
      none_left r z = omega arith

  pub pairs_at_lem : (q r s : ℕ) → r ≤ c.exprs → s ≤ c.exprs → Lies c t q r → Lies c t q s → EachLies (PairAt q) (pairings (tree r) (tree s))
  pairs_at_lem q r s b b' l l' = pairs_more q (suc c.exprs) r s (omega arith) b b' l l'

  -- A row that lies in a query is one of the sheet's.
  pub lies-low : (q v : ℕ) → 1 ≤ q → Lies c t q v → v ≤ c.exprs
  unfolding enclosing
  lies-low q v low (inl z) = omega arith
  lies-low q v low (inr e) =
      ⊎_elim
      (λ (h : c.exprs < v).
      let z : enclosing_query c (in_tables t) (expr_row v) ≡ 0 =
      get_or-eq_default (enclosing c (in_tables t)) 0 {n = expr_row v} (omega (arith, grown-length (enclosing_of (namings c (in_tables t))) (expr_row c.exprs))) in
      absurd (omega arith)) (λ (h : v ≤ c.exprs). h) (lt_cases c.exprs v)

-- Laws of `Walks`.
use mathlib.Core.Path.{◌≡◌, refl, sym, ap, subst, ◌∙◌}
use mathlib.Core.Bool.{Bool, true, false, cond}
use mathlib.Core.List.{List, [], ◌∷◌, ◌++◌, map, foldl}
use mathlib.Core.Logic.{◌⊎◌, inl, inr}
use Prim.Native.Nat.{ℕ, ◌≤◌}
use Rattle.base.proofs.Laws.Truth.{bool_cases}
use Rattle.sheet.specs.declared.Counts.{Counts}
use Rattle.sheet.specs.declared.Special.{Special}
use Rattle.sheet_facts.specs.Inner.Facts.{SheetFacts}
use Rattle.sheet.specs.declared.Row.{Row}
use Rattle.sheet.specs.Inner.Sheet.{row_at}
use Rattle.sheet.specs.Kinds.{is_pattern, is_compr}
use Rattle.scope.specs.Trees.{Tree, nil, node, third_of}
use Rattle.scope.specs.Traverse.{Child, first_field, second_field, third_field, child_of, children_of, entered, traverse, leaves}
use Rattle.scope.proofs.Laws.Children.{of_children}
use Rattle.scope_walk.specs.declared.Kids.{Kids}
use Rattle.scope_walk.proofs.Laws.RowTrees.{tree-none, tree-row}
use Rattle.scope_walk.specs.Inner.Kids.{kids_by, kids_of}
use Rattle.scope_walk.proofs.Laws.Kids.{compr_enters_nothing}
use Rattle.sheet.specs.Inner.Rows.{in_tables}
use Rattle.scope_walk.specs.Inner.Walks.{tree, alone, over_by}

fold-append : {A B : Type 0} (f : B → A → B) (s : B) (k l : List A) → foldl f s (k ++ l) ≡ foldl f (foldl f s k) l
fold-append f s [] l = refl
fold-append f s (x ∷ k) l = fold-append f (f s x) k l

module _ (c : Counts) (x : Special) (t : List ℕ) where
  -- The expression at a row, without the rest of its chain.
  abbrev pub alone_at : ℕ → Tree
  alone_at r = let w = row_at t r in node w (tree c x t w.first) (tree c x t w.second) (tree c x t (third_of w)) nil

  module _ {S : Type 0} (f : S → Tree → S) where
    -- The walks from a row on.
    abbrev pub over : S → ℕ → S
    over s r = foldl f s (traverse (tree c x t r))

    abbrev pub over_leaves : S → ℕ → S
    over_leaves s r = foldl f s (leaves (tree c x t r))

    abbrev pub leaves_by : Bool → S → ℕ → S
    leaves_by true s r = foldl f s (leaves (tree c x t r))
    leaves_by false s r = foldl f s (leaves (alone (tree c x t r)))

  module _ (facts : SheetFacts c (in_tables t)) {S : Type 0} (f : S → Tree → S) where
    pub over_none : (s : S) → over f s 0 ≡ s
    unfolding traverse
    over_none s = rw (tree-none c x t facts)

    pub leaves_none : (s : S) → over_leaves f s 0 ≡ s
    unfolding leaves
    leaves_none s = rw (tree-none c x t facts)

    -- ---- the children that a walk enters

    abbrev met : ℕ → List Tree
    met r = traverse (tree c x t r)

    met_child : (k : Child) (a b d : ℕ) → child_of k (met a) (met b) (met d) ≡ met (child_of k a b d)
    met_child first_field a b d = refl
    met_child second_field a b d = refl
    met_child third_field a b d = refl

    over-children : (ks : List Child) (s : S) (a b d : ℕ)
        → foldl f s (entered ks (met a) (met b) (met d)) ≡ foldl (over f) s (map (λ k. child_of k a b d) ks)
    over-children [] s a b d = refl
    over-children (k ∷ ks) s a b d =
        ap (λ (l : List Tree). foldl f s (l ++ entered ks (met a) (met b) (met d))) (met_child k a b d)
        ∙ fold-append f s (met (child_of k a b d)) (entered ks (met a) (met b) (met d)) ∙ over-children ks (over f s (child_of k a b d)) a b d

    -- For every kind, and whatever a walk does at an expression: it meets the row, then what its children name, in the order of the
    -- definitions, then the rest of its chain.
    pub walk-enters : (s : S) (r : ℕ) → 1 ≤ r → r ≤ c.exprs
        → let w = row_at t r in
        over f s r ≡ over f (foldl (over f) (f s (alone_at r)) (map (λ k. child_of k w.first w.second (third_of w)) (children_of w))) w.next
    unfolding traverse
    walk-enters s r a b =
        let w = row_at t r in
        rw (tree-row c x t facts r a b)
        (fold-append f (f s (alone_at r)) (entered (children_of w) (met w.first) (met w.second) (met (third_of w))) (met w.next)
        ∙ ap (λ (u : S). over f u w.next) (over-children (children_of w) (f s (alone_at r)) w.first w.second (third_of w)))

    -- The same without the rest of its chain.
    pub walk_enters_alone : (s : S) (r : ℕ) → 1 ≤ r → r ≤ c.exprs
        → let w = row_at t r in
        over_by c x t f false s r ≡ foldl (over f) (f s (alone_at r)) (map (λ k. child_of k w.first w.second (third_of w)) (children_of w))
    unfolding traverse
    walk_enters_alone s r a b =
        let w = row_at t r in
        rw (tree-row c x t facts r a b)
        (fold-append f (f s (alone_at r)) (entered (children_of w) (met w.first) (met w.second) (met (third_of w))) []
        ∙ over-children (children_of w) (f s (alone_at r)) w.first w.second (third_of w))

    -- ---- the same of the rows that are entered, as the code has them: none behind the last

    abbrev over_parts : S → Kids → S
    over_parts s k = over f (over f (over f s k.first) k.second) k.third

    abbrev AsKids : S → Row → ℕ → List Child → Type 0
    AsKids s w third ks = foldl (over f) s (map (λ k. child_of k w.first w.second third) ks) ≡ over_parts s (kids_by ks w)

    as_none : (s : S) (w : Row) (third : ℕ) → AsKids s w third []
    as_none s w third = sym (over_none _ ∙ over_none _ ∙ over_none _)

    -- A comprehension's third names a query, and it is not entered.
    as_kids : (s : S) (w : Row) → foldl (over f) s (map (λ k. child_of k w.first w.second (third_of w)) (children_of w)) ≡ over_parts s (kids_of w)
    unfolding kids_of
    as_kids s w = go (bool_cases (is_compr w))
      where
        go : (is_compr w ≡ true) ⊎ (is_compr w ≡ false) → AsKids s w (third_of w) (children_of w)
        go (inl p) = subst (AsKids s w (third_of w)) (sym (compr_enters_nothing w p)) (as_none s w (third_of w))
        go (inr p) =
            let e : third_of w ≡ w.third = rw p in
            of_children (AsKids s w (third_of w)) (as_none s w (third_of w)) (sym (over_none _ ∙ over_none _)) (sym (over_none _ ∙ over_none _)) (sym (over_none _))
            (ap (λ (v : ℕ). over f (over f (over f s w.first) w.second) v) e) w.kind

    -- The row first, then its parts, then the rest of its chain.
    pub over-row : (s : S) (r : ℕ) → 1 ≤ r → r ≤ c.exprs
        → let w = row_at t r in let k = kids_of w in
        over f s r ≡ over f (over f (over f (over f (f s (alone_at r)) k.first) k.second) k.third) w.next
    over-row s r a b = walk-enters s r a b ∙ ap (λ (u : S). over f u (row_at t r).next) (as_kids (f s (alone_at r)) (row_at t r))

    leaf_parts : (s : S) (r : ℕ) (p : Bool)
        → foldl f s (cond p (leaves (tree c x t (row_at t r).first)) (alone_at r ∷ [])) ≡ cond p (over_leaves f s (row_at t r).first) (f s (alone_at r))
    leaf_parts s r true = refl
    leaf_parts s r false = refl

    -- A pattern is entered, and any other row is a leaf.
    pub leaves-row : (s : S) (r : ℕ) → 1 ≤ r → r ≤ c.exprs
        → let w = row_at t r in
        over_leaves f s r ≡ over_leaves f (cond (is_pattern w) (over_leaves f s w.first) (f s (alone_at r))) w.next
    unfolding leaves
    leaves-row s r a b =
        let w = row_at t r in
        rw (tree-row c x t facts r a b)
        (fold-append f s (cond (is_pattern w) (leaves (tree c x t w.first)) (alone_at r ∷ [])) (leaves (tree c x t w.next))
        ∙ ap (λ (u : S). foldl f u (leaves (tree c x t w.next))) (leaf_parts s r (is_pattern w)))

    -- ---- an expression with the rest of its chain, or without

    pub over_by-none : (rest : Bool) (s : S) → over_by c x t f rest s 0 ≡ s
    unfolding traverse
    over_by-none true s = over_none s
    over_by-none false s = rw (tree-none c x t facts)

    pub over_by-row : (rest : Bool) (s : S) (r : ℕ) → 1 ≤ r → r ≤ c.exprs
        → let w = row_at t r in let k = kids_of w in
        (over_by c x t) f rest s r ≡ over f (over f (over f (over f (f s (alone_at r)) k.first) k.second) k.third) (cond rest w.next 0)
    over_by-row true s r a b = over-row s r a b
    over_by-row false s r a b = walk_enters_alone s r a b ∙ as_kids (f s (alone_at r)) (row_at t r) ∙ sym (over_none _)

    pub leaves_by-none : (rest : Bool) (s : S) → leaves_by f rest s 0 ≡ s
    unfolding leaves
    leaves_by-none true s = leaves_none s
    leaves_by-none false s = rw (tree-none c x t facts)

    pub leaves_by-row : (rest : Bool) (s : S) (r : ℕ) → 1 ≤ r → r ≤ c.exprs
        → let w = row_at t r in
        leaves_by f rest s r ≡ over_leaves f (cond (is_pattern w) (over_leaves f s w.first) (f s (alone_at r))) (cond rest w.next 0)
    unfolding leaves
    leaves_by-row true s r a b = leaves-row s r a b
    leaves_by-row false s r a b =
        let w = row_at t r in
        rw (tree-row c x t facts r a b)
        (fold-append f s (cond (is_pattern w) (leaves (tree c x t w.first)) (alone_at r ∷ [])) [] ∙ leaf_parts s r (is_pattern w) ∙ sym (leaves_none _))

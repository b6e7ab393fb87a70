-- Laws of `Paths`.
use mathlib.Core.Path.{◌≡◌, refl, sym, ap, ◌∙◌}
use mathlib.Core.Bool.{Bool, true, false, cond}
use mathlib.Core.List.{List, [], ◌∷◌, ◌++◌}
use mathlib.Core.Option as found
use Rattle.std.proofs.Common.{None, Some}
use Prim.Native.Nat.{ℕ, ◌≤◌}
use borrow.Author.Tests.{eq-eqb, ne_eqb}
use Rattle.sheet.specs.declared.Row.{Row}
use Rattle.sheet.specs.declared.kinds.Kind.{Kind}
use Rattle.sheet.specs.declared.kinds.Kind.TheVariants as kind
use Rattle.sheet.specs.Inner.Kinds.{KindNumbered}
use Rattle.sheet.specs.Inner.Sheet.{row_at}
use Rattle.sheet.specs.Kinds.{is_string}
use Rattle.scope.specs.Trees.{row_of, tree_at}
use Rattle.scope.specs.Paths.{append, get_path_string}
use Rattle.scope_paths.specs.declared.paths.Path.{Path}
use Rattle.scope_paths.specs.declared.paths.Path.TheVariants as path
use Rattle.scope_walk.specs.Inner.Sheets.{sheet_at, Accepted, expr_count}
use Rattle.scope_walk.proofs.Laws.Exprs.{none_is, tree_is, row_is}
use Rattle.scope_walk.proofs.Laws.Numbers.{other_number, OneOf, Without, none_of}
use Rattle.scope_paths.specs.Inner.Paths.{short_of, found_path, appended, IndexStep, path_at}

short_append : (l : List ℕ) (x : ℕ) → appended (short_of l) x ≡ short_of (l ++ (x ∷ []))
short_append [] x = refl
short_append (a ∷ []) x = refl
short_append (a ∷ (b ∷ [])) x = refl
short_append (a ∷ (b ∷ (c ∷ []))) x = refl
short_append (a ∷ (b ∷ (c ∷ (d ∷ l)))) x = refl

module _ (t : List ℕ) (ok : Accepted t) (row : ℕ) where
  -- ---- the ways out of `index_step`

  module _ (p : Path) where
    pub path_index_none : row ≡ 0 → IndexStep t row p p
    path_index_none z l h = rw (z, none_is t ok true) h

    module _ (there : row ≡ 0 → ⊥) (high : row ≤ expr_count t) (w : Row) (is : w ≡ row_at t row) where
      pub index_string : w.kind ≡ 1 → (r : Path) → r ≡ appended p w.name → IndexStep t row p r
      index_string e r put l h =
          rw (row_is t ok row there high true, sym is, eq-eqb w.kind 1 e) (put ∙ ap (λ (q : Path). appended q w.name) h ∙ short_append l w.name)

      pub index-other : (w.kind ≡ 1 → ⊥) → IndexStep t row p p
      index-other ne l h = rw (row_is t ok row there high true, sym is, ne_eqb w.kind 1 ne) h

  -- ---- and of `get_path_string`

  pub no_path : row ≡ 0 → None ≡ found_path (path_at t row)
  unfolding get_path_string
  no_path z = rw (z, none_is t ok true)

  module _ (there : row ≡ 0 → ⊥) (high : row ≤ expr_count t) (w : Row) (is : w ≡ row_at t row) where
    pub path_var : w.kind ≡ 6 → Some (path.One w.name) ≡ found_path (path_at t row)
    unfolding get_path_string
    path_var e = rw (tree_is t ok row there high, sym is, e)

    pub path_other : (w.kind ≡ 6 → ⊥) → (w.kind ≡ 15 → ⊥) → (w.kind ≡ 16 → ⊥) → None ≡ found_path (path_at t row)
    unfolding get_path_string
    path_other v d b = rw (tree_is t ok row there high, sym is, ne_eqb w.kind 6 v, ne_eqb w.kind 15 d, ne_eqb w.kind 16 b)

    -- The arm of several such kinds.
    pub path_others : (k : Kind) → KindNumbered w.kind k → (ks : List Kind) → Without kind.Var ks → Without kind.RefDot ks → Without kind.RefBrack ks
        → OneOf k ks → None ≡ found_path (path_at t row)
    path_others k e ks v d b one =
        let no-var : k ≡ kind.Var → ⊥ = none_of ks v one in
        let no-dot : k ≡ kind.RefDot → ⊥ = none_of ks d one in
        let no-brack : k ≡ kind.RefBrack → ⊥ = none_of ks b one in
        path_other (other_number w.kind e no-var) (other_number w.kind e no-dot) (other_number w.kind e no-brack)

    -- Where what has the field, or is with_index, has no path, and where it has one.
    pub dot_none : w.kind ≡ 15 → None ≡ found_path (path_at t w.first) → None ≡ found_path (path_at t row)
    unfolding get_path_string
    dot_none e k = rw (tree_is t ok row there high, sym is, e) (go (path_at t w.first) k)
      where
        go : (o : found.Option (List ℕ)) → None ≡ found_path o → None ≡ found_path (append o w.name)
        go found.none k = refl
        go (found.some l) k = cc

    pub path_dot : w.kind ≡ 15 → (p r : Path) → Some p ≡ found_path (path_at t w.first) → r ≡ appended p w.name → Some r ≡ found_path (path_at t row)
    unfolding get_path_string
    path_dot e p r k put = rw (tree_is t ok row there high, sym is, e) (go (path_at t w.first) k)
      where
        go : (o : found.Option (List ℕ)) → Some p ≡ found_path o → Some r ≡ found_path (append o w.name)
        go found.none k = cc
        go (found.some l) k =
            let at : p ≡ short_of l = cc in
            ap Some (put ∙ ap (λ (u : Path). appended u w.name) at ∙ short_append l w.name)

    abbrev index : Row
    index = row_of (tree_at (sheet_at t) w.second)

    pub brack_none : w.kind ≡ 16 → None ≡ found_path (path_at t w.first) → None ≡ found_path (path_at t row)
    unfolding get_path_string
    brack_none e k = rw (tree_is t ok row there high, sym is, e) (go (is_string index) (path_at t w.first) k)
      where
        go : (s : Bool) (o : found.Option (List ℕ)) → None ≡ found_path o → None ≡ found_path (cond s (append o index.name) o)
        go true found.none k = refl
        go false found.none k = refl
        go s (found.some l) k = cc

    pub path_brack : w.kind ≡ 16 → (p r : Path) → Some p ≡ found_path (path_at t w.first) → IndexStep t w.second p r → Some r ≡ found_path (path_at t row)
    unfolding get_path_string
    path_brack e p r k step = rw (tree_is t ok row there high, sym is, e) (go (path_at t w.first) k)
      where
        by : (s : Bool) (l : List ℕ) → r ≡ short_of (cond s (l ++ (index.name ∷ [])) l) → Some r ≡ found_path (cond s (append (found.some l) index.name) (found.some l))
        by true l k = ap Some k
        by false l k = ap Some k

        go : (o : found.Option (List ℕ)) → Some p ≡ found_path o → Some r ≡ found_path (cond (is_string index) (append o index.name) o)
        go found.none k = cc
        go (found.some l) k = let at : p ≡ short_of l = cc in by (is_string index) l (step l at)

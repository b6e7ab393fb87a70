-- A test that all rows of a tree pass: so do the rows of what the walks meet.
use mathlib.Core.Path.{◌≡◌, refl}
use mathlib.Core.Bool.{Bool, true, false, cond, ◌&&◌}
use mathlib.Core.List.{List, [], ◌∷◌}
use mathlib.Core.Option.{Option, none, some}
use Prim.Native.Nat.{ℕ, zero, suc, ◌+◌}
use lib.Dec.{eqb}
use lib.ListN.{length, get_or}
use Rattle.base.proofs.Laws.Truth.{and_intro, and_left, and_right}
use Rattle.base.specs.Lists.{all, last}
use Rattle.base.proofs.Laws.Members.{all_get_d}
use Rattle.sheet.specs.declared.Builtin.{Builtin}
use Rattle.base.proofs.Laws.Mapping.{to_list}
use Rattle.base.proofs.Laws.ListLaws.{all_append, all-last, all-concat_map}
use Rattle.sheet.specs.declared.Row.{Row}
use Rattle.sheet.specs.Sheet.{Sheet, no_row}
use Rattle.sheet.specs.Kinds.{is_var, is_pattern, is_compr, is_call}
use Rattle.scope.specs.Trees.{Tree, nil, node, third_of, decode, tree_at, row_of, first_of, second_of, chain, outputs_of}
use Rattle.scope.specs.Traverse.{Child, first_field, second_field, third_field, children_of, child_of, entered, traverse, leaves, vars, comprs}
use Rattle.scope.specs.Paths.{get_path_string, builtin_with, beyond, get_extra_arg}

module _ (q : Row → Bool) where
  abbrev pub rows_pass : Tree → Bool
  rows_pass nil = true
  rows_pass (node w a b c n) = q w && (rows_pass a && (rows_pass b && (rows_pass c && rows_pass n)))

  pub record RowsOfParts (w : Row) (a b c n : Tree) : Type 0 where
    pub row : q w ≡ true
    pub first : rows_pass a ≡ true
    pub second : rows_pass b ≡ true
    pub third : rows_pass c ≡ true
    pub next : rows_pass n ≡ true

  pub rows_of-parts : (w : Row) (a b c n : Tree) → rows_pass (node w a b c n) ≡ true → RowsOfParts w a b c n
  rows_of-parts w a b c n h =
      let h1 = and_right (q w) _ h in
      let h2 = and_right (rows_pass a) _ h1 in
      let h3 = and_right (rows_pass b) _ h2 in
      record {
        row = and_left _ _ h;
        first = and_left _ _ h1;
        second = and_left _ _ h2;
        third = and_left _ _ h3;
        next = and_right (rows_pass c) _ h3;
      }

  whole : (w : Row) (a b c n : Tree) → RowsOfParts w a b c n → rows_pass (node w a b c n) ≡ true
  whole w a b c n p =
      and_intro _ _ p.row (and_intro _ _ p.first (and_intro _ _ p.second (and_intro _ _ p.third p.next)))

  pub alone-rows : (w : Row) (a b c n : Tree) → RowsOfParts w a b c n → rows_pass (node w a b c nil) ≡ true
  alone-rows w a b c n p =
      whole w a b c nil (record { row = p.row; first = p.first; second = p.second; third = p.third; next = refl })

  -- A test that every row passes.
  pub any-rows : ((w : Row) → q w ≡ true) → (t : Tree) → rows_pass t ≡ true
  any-rows f nil = refl
  any-rows f (node w a b c n) =
      whole w a b c n (record { row = f w; first = any-rows f a; second = any-rows f b; third = any-rows f c; next = any-rows f n })

  -- ---- what the walks meet

  pub chain-rows : (t : Tree) → rows_pass t ≡ true → all rows_pass (chain t) ≡ true
  unfolding chain
  chain-rows nil h = refl
  chain-rows (node w a b c n) h = let p = rows_of-parts w a b c n h in and_intro _ _ (alone-rows w a b c n p) (chain-rows n p.next)

  pub traverse-rows : (t : Tree) → rows_pass t ≡ true → all rows_pass (traverse t) ≡ true
  unfolding traverse
  traverse-rows nil h = refl
  traverse-rows (node w a b c n) h =
      let p = rows_of-parts w a b c n h in
      and_intro _ _ (alone-rows w a b c n p)
      (all_append rows_pass (entered (children_of w) (traverse a) (traverse b) (traverse c)) (traverse n)
      (go (children_of w) (traverse a) (traverse b) (traverse c)
      (traverse-rows a p.first) (traverse-rows b p.second) (traverse-rows c p.third))
      (traverse-rows n p.next))
    where
      child : (k : Child) (l m n : List Tree) → all rows_pass l ≡ true → all rows_pass m ≡ true → all rows_pass n ≡ true
          → all rows_pass (child_of k l m n) ≡ true
      child first_field l m n hl hm hn = hl
      child second_field l m n hl hm hn = hm
      child third_field l m n hl hm hn = hn

      go : (ks : List Child) (l m n : List Tree) → all rows_pass l ≡ true → all rows_pass m ≡ true → all rows_pass n ≡ true
          → all rows_pass (entered ks l m n) ≡ true
      go [] l m n hl hm hn = refl
      go (k ∷ ks) l m n hl hm hn = all_append rows_pass (child_of k l m n) (entered ks l m n) (child k l m n hl hm hn) (go ks l m n hl hm hn)

  pub leaves-rows : (t : Tree) → rows_pass t ≡ true → all rows_pass (leaves t) ≡ true
  unfolding leaves
  leaves-rows nil h = refl
  leaves-rows (node w a b c n) h =
      let p = rows_of-parts w a b c n h in
      all_append rows_pass (cond (is_pattern w) (leaves a) (node w a b c nil ∷ [])) (leaves n)
      (go (is_pattern w) (leaves-rows a p.first) (alone-rows w a b c n p)) (leaves-rows n p.next)
    where
      go : (b' : Bool) → all rows_pass (leaves a) ≡ true → rows_pass (node w a b c nil) ≡ true
          → all rows_pass (cond b' (leaves a) (node w a b c nil ∷ [])) ≡ true
      go true h1 h2 = h1
      go false h1 h2 = and_intro _ _ h2 refl

  pub first_rows_lem : (t : Tree) → rows_pass t ≡ true → rows_pass (first_of t) ≡ true
  first_rows_lem nil h = refl
  first_rows_lem (node w a b c n) h = (rows_of-parts w a b c n h).first

  pub second-rows : (t : Tree) → rows_pass t ≡ true → rows_pass (second_of t) ≡ true
  second-rows nil h = refl
  second-rows (node w a b c n) h = (rows_of-parts w a b c n h).second

  row-rows : q no_row ≡ true → (t : Tree) → rows_pass t ≡ true → q (row_of t) ≡ true
  row-rows d nil h = d
  row-rows d (node w a b c n) h = (rows_of-parts w a b c n h).row

  pub vars-rows : q no_row ≡ true → (l : List Tree) → all rows_pass l ≡ true → all q (vars l) ≡ true
  vars-rows d l h = all-concat_map q rows_pass (λ e. cond (is_var (row_of e)) (row_of e ∷ []) []) (λ e g. go e (is_var (row_of e)) g) l h
    where
      go : (e : Tree) (b : Bool) → rows_pass e ≡ true → all q (cond b (row_of e ∷ []) []) ≡ true
      go e true g = and_intro _ _ (row-rows d e g) refl
      go e false g = refl

  pub comprs-rows : (t : Tree) → rows_pass t ≡ true → all rows_pass (comprs t) ≡ true
  comprs-rows t h =
      all-concat_map rows_pass rows_pass (λ e. cond (is_compr (row_of e)) (e ∷ []) []) (λ e g. go e (is_compr (row_of e)) g) (traverse t)
      (traverse-rows t h)
    where
      go : (e : Tree) (b : Bool) → rows_pass e ≡ true → all rows_pass (cond b (e ∷ []) []) ≡ true
      go e true g = and_intro _ _ g refl
      go e false g = refl

  pub outputs-rows : (t : Tree) → rows_pass t ≡ true → all rows_pass (outputs_of t) ≡ true
  outputs-rows nil h = refl
  outputs-rows (node w a b c n) h =
      let p = rows_of-parts w a b c n h in
      all_append rows_pass (chain a) (chain b) (chain-rows a p.first) (chain-rows b p.second)

  pub extra_rows : (sheet : Sheet) (e : Tree) → rows_pass e ≡ true → all rows_pass (to_list (get_extra_arg sheet e)) ≡ true
  unfolding get_extra_arg
  extra_rows sheet e h = go (is_call (row_of e)) (builtin_with sheet.builtins (get_path_string (first_of e)))
    where
      args : all rows_pass (chain (second_of e)) ≡ true
      args = chain-rows (second_of e) (second-rows e h)

      last_arg : (b : Bool) → all rows_pass (to_list (cond b (last (chain (second_of e))) none)) ≡ true
      last_arg true = all-last rows_pass (chain (second_of e)) args
      last_arg false = refl

      go : (b : Bool) (x : Option Builtin) → all rows_pass (to_list (cond b (beyond x (chain (second_of e))) none)) ≡ true
      go false x = refl
      go true none = refl
      go true (some x) = last_arg (eqb (x.arity + 1) (length (chain (second_of e))))

  -- ---- the trees of a sheet whose rows pass

  decode-rows : (rows : List Row) → all q rows ≡ true → q no_row ≡ true → (n r : ℕ) → rows_pass (decode n rows r) ≡ true
  unfolding decode
  decode-rows rows h d zero r = refl
  decode-rows rows h d (suc n) zero = refl
  decode-rows rows h d (suc n) (suc r) =
      let w = get_or rows r no_row in
      whole w (decode n rows w.first) (decode n rows w.second) (decode n rows (third_of w)) (decode n rows w.next) (record {
        row = all_get_d q rows no_row h d r;
        first = decode-rows rows h d n w.first;
        second = decode-rows rows h d n w.second;
        third = decode-rows rows h d n (third_of w);
        next = decode-rows rows h d n w.next;
      })

  pub tree-rows : (sheet : Sheet) → all q sheet.exprs ≡ true → q no_row ≡ true → (r : ℕ) → rows_pass (tree_at sheet r) ≡ true
  unfolding tree_at
  tree-rows sheet h d r = decode-rows sheet.exprs h d (length sheet.exprs) r

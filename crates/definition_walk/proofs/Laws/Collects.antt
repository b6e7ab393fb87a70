-- What is collected at each expression that a walk meets, row by row.
use mathlib.Core.Path.{◌≡◌, refl, sym, ap, ◌∙◌}
use mathlib.Core.Bool.{Bool, true, false, cond}
use mathlib.Core.List.{List, [], ◌∷◌, ◌++◌, foldl}
use Prim.Native.Nat.{ℕ, ◌≤◌}
use native.Mathlib.Omega.{arith}
use Rattle.sheet.specs.declared.Row.{Row}
use Rattle.sheet.specs.Inner.Sheet.{row_at}
use Rattle.base.specs.Lists.{concat_map}
use Rattle.scope.specs.Trees.{Tree, tree_at}
use Rattle.scope.specs.Traverse.{traverse}
use Rattle.scope_walk.specs.declared.Kids.{Kids}
use Rattle.scope_walk.specs.Inner.Kids.{kids_of}
use Rattle.scope_walk.specs.Inner.Walks.{alone, over_by}
use Rattle.scope_walk.proofs.Laws.Walks.{alone_at, over, over_by-none, over_by-row}
use Rattle.scope_walk.specs.Inner.Sheets.{counts_at, special_at, sheet_at, Accepted, expr_count}
use Rattle.scope_walk.specs.Inner.Exprs.{expr_by}

module _ {B : Type 0} where
  append_assoc : (a b c : List B) → ((a ++ b) ++ c) ≡ (a ++ (b ++ c))
  append_assoc [] b c = refl
  append_assoc (x ∷ a) b c = ap (λ (r : List B). x ∷ r) (append_assoc a b c)

  pub append-nil : (a : List B) → (a ++ []) ≡ a
  append-nil [] = refl
  append-nil (x ∷ a) = ap (λ (r : List B). x ∷ r) (append-nil a)

  pub collect : {A : Type 0} (g : A → List B) (l : List B) (ts : List A) → foldl (λ (u : List B) (e : A). u ++ g e) l ts ≡ (l ++ concat_map g ts)
  collect g l [] = sym (append-nil l)
  collect g l (e ∷ ts) = collect g (l ++ g e) ts ∙ append_assoc l (g e) (concat_map g ts)

  module _ (t : List ℕ) (g : Tree → List B) where
    abbrev pub collected : Bool → ℕ → List B
    collected rest row = concat_map g (traverse (expr_by t rest row))

    abbrev step : List B → Tree → List B
    step u e = u ++ g e

    by-is : (rest : Bool) (l : List B) (row : ℕ) → over_by (counts_at t) (special_at t) t step rest l row ≡ (l ++ collected rest row)
    unfolding sheet_at
    by-is true l row = collect g l (traverse (tree_at (sheet_at t) row))
    by-is false l row = collect g l (traverse (alone (tree_at (sheet_at t) row)))

    over-is : (l : List B) (row : ℕ) → over (counts_at t) (special_at t) t step l row ≡ (l ++ collected true row)
    over-is l row = by-is true l row

    module _ (ok : Accepted t) where
      pub collected-none : (rest : Bool) → collected rest 0 ≡ []
      collected-none rest = sym (by-is rest [] 0) ∙ over_by-none (counts_at t) (special_at t) t ok.facts step rest []

      collected-row : (rest : Bool) (row : ℕ) → 1 ≤ row → row ≤ expr_count t
          → let k = kids_of (row_at t row) in
          collected rest row
          ≡ ((((g (alone_at (counts_at t) (special_at t) t row) ++ collected true k.first) ++ collected true k.second) ++ collected true k.third)
          ++ collected true (cond rest (row_at t row).next 0))
      collected-row rest row low high =
          let w = row_at t row in
          let k = kids_of w in
          let a = g (alone_at (counts_at t) (special_at t) t row) in
          sym (by-is rest [] row) ∙ over_by-row (counts_at t) (special_at t) t ok.facts step rest [] row low high
          ∙ over-is _ (cond rest w.next 0) ∙ ap (λ (l : List B). l ++ collected true (cond rest w.next 0))
          (over-is _ k.third ∙ ap (λ (l : List B). l ++ collected true k.third)
          (over-is _ k.second ∙ ap (λ (l : List B). l ++ collected true k.second) (over-is a k.first)))

      -- The same of the parts and the row after it, as the code has them.
      pub collected-turn : (rest : Bool) (row : ℕ) → (row ≡ 0 → ⊥) → row ≤ expr_count t → (w : Row) → w ≡ row_at t row
          → (p : Kids) → p ≡ kids_of w → (next : ℕ) → next ≡ cond rest w.next 0
          → collected rest row
          ≡ ((((g (alone_at (counts_at t) (special_at t) t row) ++ collected true p.first) ++ collected true p.second) ++ collected true p.third)
          ++ collected true next)
      collected-turn rest row ne high w is p ps next ns =
          let parts : p ≡ kids_of (row_at t row) = ps ∙ ap kids_of is in
          let after : next ≡ cond rest (row_at t row).next 0 = ns ∙ ap (λ (v : Row). cond rest v.next 0) is in
          rw (parts, after) (collected-row rest row (omega arith) high)

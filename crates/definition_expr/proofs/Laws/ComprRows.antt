-- Laws of `ComprRows`.
use mathlib.Core.Path.{◌≡◌, refl, sym, ap, ap₂, ◌∙◌}
use mathlib.Core.Bool.{Bool, true, false, cond}
use mathlib.Core.List.{List, [], ◌∷◌, ◌++◌, append-nil}
use mathlib.Core.Logic.{inl, inr}
use Prim.Native.Nat.{ℕ, zero, suc, ◌≤◌}
use native.Mathlib.Omega.{arith}
use Rattle.base.specs.Lists.{concat_map}
use Rattle.sheet.specs.Inner.Sheet.{row_at}
use Rattle.sheet.specs.Kinds.{is_compr}
use Rattle.sheet.specs.declared.Row.{Row}
use Rattle.scope.specs.Trees.{Tree, nil, node, third_of, row_of, tree_at}
use Rattle.scope.specs.Traverse.{children_of, entered, traverse, comprs}
use Rattle.base.proofs.Laws.ListLaws.{concat_map-append}
use Rattle.scope_walk.specs.Inner.Sheets.{sheet_at, Accepted, expr_count}
use Rattle.scope_walk.specs.Inner.Exprs.{expr_by}
use Rattle.scope_walk.proofs.Laws.Exprs.{none_is, tree_is}
use Rattle.definition_expr.specs.Inner.ComprRows.{joined_row, ComprsAt}

pub row_first : (first others row : ℕ) → (first ≡ 0 → ⊥) → row ≡ joined_row first others row
row_first zero others row ne = absurd (ne refl)
row_first (suc n) others row ne = refl

pub row_others : (first others row : ℕ) → first ≡ 0 → (others ≡ 0 → ⊥) → row ≡ joined_row first others row
row_others zero zero row z ne = absurd (ne refl)
row_others zero (suc n) row z ne = refl
row_others (suc n) others row z ne = refl

pub row-none : (first others row : ℕ) → first ≡ 0 → others ≡ 0 → 0 ≡ joined_row first others row
row-none zero zero row z y = refl
row-none zero (suc n) row z y = absurd (omega arith)
row-none (suc n) others row z y = absurd (omega arith)

-- ---- the comprehensions of a chain

-- An expression is walked, then the rest of its chain.
then_rest : (w : Row) (a b c n : Tree) → traverse (node w a b c n) ≡ traverse (node w a b c nil) ++ traverse n
unfolding traverse
then_rest w a b c n =
    ap (λ (l : List Tree). l ++ traverse n)
    (sym (append-nil (node w a b c nil ∷ entered (children_of w) (traverse a) (traverse b) (traverse c))))

chained : (t : Tree) (n : Tree) (e : Tree) → traverse t ≡ traverse e ++ traverse n → comprs t ≡ comprs e ++ comprs n
chained t n e is =
    ap (concat_map (λ (x : Tree). cond (is_compr (row_of x)) (x ∷ []) [])) is
    ∙ concat_map-append (λ (x : Tree). cond (is_compr (row_of x)) (x ∷ []) []) (traverse e) (traverse n)

module _ (t : List ℕ) where
  pub comprs-here : (rest : Bool) (row : ℕ) → ComprsAt t rest row row
  comprs-here rest row = record { is = inl refl; same = refl }

  module _ (ok : Accepted t) where
    none-there : (rest : Bool) → comprs (expr_by t rest 0) ≡ []
    unfolding traverse
    none-there rest = rw (none_is t ok rest)

    pub comprs_if : (b : Bool) (rest : Bool) (row at : ℕ) → at ≡ cond b row 0 → (b ≡ false → comprs (expr_by t rest row) ≡ []) → ComprsAt t rest row at
    comprs_if true rest row at e none = rw e (comprs-here rest row)
    comprs_if false rest row at e none = rw e (record { is = inr refl; same = none-there rest ∙ sym (none refl) })

    -- The first expression and the rest of its chain.
    module _ (row : ℕ) (some : row ≡ 0 → ⊥) (high : row ≤ expr_count t) where
      parts : traverse (expr_by t true row) ≡ traverse (expr_by t false row) ++ traverse (expr_by t true (row_at t row).next)
      parts =
          rw (tree_is t ok row some high)
          (then_rest (row_at t row) (tree_at (sheet_at t) (row_at t row).first) (tree_at (sheet_at t) (row_at t row).second)
          (tree_at (sheet_at t) (third_of (row_at t row))) (tree_at (sheet_at t) (row_at t row).next))

      chain-is : comprs (expr_by t true row) ≡ comprs (expr_by t false row) ++ comprs (expr_by t true (row_at t row).next)
      chain-is = chained (expr_by t true row) (expr_by t true (row_at t row).next) (expr_by t false row) parts

      pub comprs_joined : (next : ℕ) → next ≡ (row_at t row).next → (first others : ℕ) → ComprsAt t false row first → ComprsAt t true next others
          → ComprsAt t true row (joined_row first others row)
      comprs_joined next ns zero zero a b = record {
        is = inr refl;
        same =
            none-there true
            ∙ sym (chain-is ∙ ap₂ (λ (k l : List Tree). k ++ l) (sym a.same ∙ none-there false)
            (ap (λ (n : ℕ). comprs (expr_by t true n)) (sym ns) ∙ sym b.same ∙ none-there true));
      }
      comprs_joined next ns zero (suc n) a b = comprs-here true row
      comprs_joined next ns (suc n) others a b = comprs-here true row

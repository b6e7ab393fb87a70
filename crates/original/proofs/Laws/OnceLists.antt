-- The walk done once sees the variables and meets the comprehensions that `traverse` meets, in its order.
use mathlib.Core.Path.{◌≡◌, refl, sym, ap, ◌∙◌}
use mathlib.Core.Bool.{Bool, true, false, cond}
use mathlib.Core.List.{List, [], ◌∷◌, ◌++◌, append-nil}
use Prim.Native.Nat.{ℕ}
use borrow.Author.Tests.{eqb-true}
use Rattle.base.proofs.Laws.Truth.{not-both}
use Rattle.base.specs.Lists.{concat_map}
use Rattle.sheet.specs.declared.Row.{Row}
use Rattle.sheet.specs.Sheet.{Sheet}
use Rattle.sheet.specs.Kinds.{is_var, is_compr, is_ref_brack}
use Rattle.scope.specs.Trees.{Tree, nil, node, row_of}
use Rattle.scope.specs.Traverse.{children_of, entered, traverse, vars, comprs}
use Rattle.base.proofs.Laws.ListLaws.{concat_map-append}
use Rattle.scope.specs.Scopes.{Scope}
use Rattle.definition.specs.Uses.{index_vars}
use Rattle.original.proofs.Laws.Lists.{concat_map-entered}
use Rattle.original.specs.Inner.Events.{Event, seen, met, seen_at, met_at, vars_seen, comprs_met}
use Rattle.original.specs.Inner.RustWalk.{indexed, own_events}
use Rattle.original.proofs.Laws.RustWalk.{walk_once}

module _ (sheet : Sheet) (s : Scope) (extras : List ℕ) (i : ℕ) where
  -- What g reads off events and h off expressions, where a bracket's own events say nothing to g.
  module _ {X : Type 0} (g : Event → List X) (h : Tree → List X)
      (own : (e : Tree) → h e ≡ concat_map g (own_events sheet s extras i (row_of e) e))
      (quiet : (k : List Event) (x : ℕ) → concat_map g (indexed sheet s extras i k x) ≡ []) where
    quiet_all : (k : List Event) (xs : List ℕ) → concat_map g (concat_map (indexed sheet s extras i k) xs) ≡ []
    quiet_all k [] = refl
    quiet_all k (x ∷ xs) =
        concat_map-append g (indexed sheet s extras i k x) (concat_map (indexed sheet s extras i k) xs)
        ∙ ap (λ (l : List X). l ++ concat_map g (concat_map (indexed sheet s extras i k) xs)) (quiet k x)
        ∙ quiet_all k xs

    listed-node : (w : Row) (e : Tree) (bracket : Bool) → is_ref_brack w ≡ bracket → (xs : List ℕ) (a b c : List Event)
        → concat_map g
        (cond bracket (a ++ (concat_map (indexed sheet s extras i a) xs ++ b)) (own_events sheet s extras i w e ++ entered (children_of w) a b c))
        ≡ concat_map g (own_events sheet s extras i w e)
        ++ entered (children_of w) (concat_map g a) (concat_map g b) (concat_map g c)
    listed-node w e false q xs a b c =
        let o = own_events sheet s extras i w e in
        let en = children_of w in
        concat_map-append g o (entered en a b c) ∙ ap (λ (l : List X). concat_map g o ++ l) (concat_map-entered g en a b c)
    listed-node w e true q xs a b c =
        let ix = concat_map (indexed sheet s extras i a) xs in
        concat_map-append g a (ix ++ b)
        ∙ ap (λ (l : List X). concat_map g a ++ l)
        (concat_map-append g ix b ∙ ap (λ (l : List X). l ++ concat_map g b) (quiet_all a xs) ∙ sym (append-nil (concat_map g b)))
        ∙ rw (eqb-true w.kind 16 q) refl

    listed-once : (t : Tree) → concat_map g (walk_once sheet s extras i t) ≡ concat_map h (traverse t)
    unfolding walk_once traverse
    listed-once nil = refl
    listed-once (node w a b c n) =
        let once = walk_once sheet s extras i in
        let e = node w a b c nil in
        let en = children_of w in
        let xs = index_vars s e in
        concat_map-append g
        (cond (is_ref_brack w) (once a ++ (concat_map (indexed sheet s extras i (once a)) xs ++ once b))
        (own_events sheet s extras i w e ++ entered en (once a) (once b) (once c)))
        (once n)
        ∙ cc (
          listed-node w e (is_ref_brack w) refl xs (once a) (once b) (once c),
          listed-once a,
          listed-once b,
          listed-once c,
          listed-once n,
          own e,
          concat_map-append h (e ∷ entered en (traverse a) (traverse b) (traverse c)) (traverse n),
          concat_map-entered h en (traverse a) (traverse b) (traverse c),
        )

  -- The variables, in order.
  pub vars-once : (t : Tree) → vars_seen (walk_once sheet s extras i t) ≡ vars (traverse t)
  vars-once t =
      listed-once seen_at (λ e. cond (is_var (row_of e)) (row_of e ∷ []) []) (λ e. go e (is_var (row_of e)) (is_compr (row_of e))) (λ k x. refl) t
    where
      go : (e : Tree) (b c : Bool) → cond b (row_of e ∷ []) [] ≡ vars_seen (cond b (seen (row_of e) ∷ []) (cond c (met e ∷ []) []))
      go e true c = refl
      go e false true = refl
      go e false false = refl

  -- The comprehensions, in order.
  pub comprs-once : (t : Tree) → comprs_met (walk_once sheet s extras i t) ≡ comprs t
  comprs-once t =
      listed-once met_at (λ e. cond (is_compr (row_of e)) (e ∷ []) [])
      (λ e. go e (is_var (row_of e)) refl (is_compr (row_of e)) refl) (λ k x. refl) t
    where
      go : (e : Tree) (b : Bool) → is_var (row_of e) ≡ b → (c : Bool) → is_compr (row_of e) ≡ c
          → cond c (e ∷ []) [] ≡ comprs_met (cond b (seen (row_of e) ∷ []) (cond c (met e ∷ []) []))
      go e true q false p = refl
      go e true q true p = absurd (not-both p (rw (eqb-true (row_of e).kind 6 q) refl))
      go e false q true p = refl
      go e false q false p = refl

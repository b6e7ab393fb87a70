-- The walk done once uses the names and makes the definitions that the definitions of `Uses` list; as sets, for a bracket's own stand
-- elsewhere in the list.
use mathlib.Core.Path.{◌≡◌, refl, sym, ap, ap₂, ◌∙◌}
use mathlib.Core.Bool.{Bool, true, false, cond}
use mathlib.Core.List.{List, [], ◌∷◌, ◌++◌, map, append-nil}
use Prim.Native.Nat.{ℕ}
use lib.Dec.{eqb}
use borrow.Author.Tests.{eqb-true}
use Rattle.base.specs.Lists.{elem, concat_map, any}
use Rattle.base.proofs.Laws.Truth.{not-both}
use Rattle.order.specs.Definitions.{Definition}
use Rattle.sheet.specs.declared.Row.{Row}
use Rattle.sheet.specs.Sheet.{Sheet}
use Rattle.sheet.specs.Kinds.{is_var, is_compr, is_ref_brack}
use Rattle.scope.specs.Trees.{Tree, nil, node}
use Rattle.scope.specs.Traverse.{Child, children_of, entered, traverse}
use Rattle.scope_walk.proofs.Laws.Kids.{children-at}
use Rattle.base.proofs.Laws.ListLaws.{concat_map-append}
use Rattle.scope.specs.Scopes.{Scope}
use Rattle.definition.specs.Uses
use Rattle.definition.specs.Uses.{define, index_vars, is_use, used_vars, index_definitions_at, index_definitions}
use Rattle.original.proofs.Laws.Lists.{concat_map-entered, any_append, any_swap, any-entered, elem-any}
use Rattle.original.specs.Inner.Events.{Event, seen, met, event_defines, definitions_made}
use Rattle.original.specs.Inner.RustWalk.{rust_used_at, names_used, indexed, own_events}
use Rattle.original.proofs.Laws.RustWalk.{walk_once}
use Rattle.original.proofs.Laws.SameEvents.{define-same}

module _ (sheet : Sheet) (s : Scope) (extras : List ℕ) (i : ℕ) where
  -- What g reads off events and h off expressions: the same at each expression, taken alone.
  module _ {X : Type 0} (p : X → Bool) (g : Event → List X) (h : Tree → List X)
      (brackets : (w : Row) (a b c : Tree) → is_ref_brack w ≡ true
      → concat_map g (concat_map (indexed sheet s extras i (walk_once sheet s extras i a)) (index_vars s (node w a b c nil))) ≡ h (node w a b c nil))
      (others : (w : Row) (a b c : Tree) → is_ref_brack w ≡ false
      → concat_map g (own_events sheet s extras i w (node w a b c nil)) ≡ h (node w a b c nil)) where
    set-node : (w : Row) (a b c : Tree) (bracket : Bool) → is_ref_brack w ≡ bracket
        → (let once = walk_once sheet s extras i in
        any p (concat_map g
        (cond bracket (once a ++ (concat_map (indexed sheet s extras i (once a)) (index_vars s (node w a b c nil)) ++ once b))
        (own_events sheet s extras i w (node w a b c nil) ++ entered (children_of w) (once a) (once b) (once c))))
        ≡ any p (h (node w a b c nil)
        ++ entered (children_of w) (concat_map g (once a)) (concat_map g (once b)) (concat_map g (once c))))
    set-node w a b c false q =
        let once = walk_once sheet s extras i in
        let o = own_events sheet s extras i w (node w a b c nil) in
        let en = children_of w in
        let k : concat_map g (o ++ entered en (once a) (once b) (once c))
        ≡ h (node w a b c nil) ++ entered en (concat_map g (once a)) (concat_map g (once b)) (concat_map g (once c)) =
        concat_map-append g o (entered en (once a) (once b) (once c))
        ∙ ap₂ ◌++◌ (others w a b c q) (concat_map-entered g en (once a) (once b) (once c)) in
        ap (any p) k
    set-node w a b c true q =
        let once = walk_once sheet s extras i in
        let e = node w a b c nil in
        let ix = concat_map (indexed sheet s extras i (once a)) (index_vars s e) in
        let j : concat_map g (ix ++ once b) ≡ h e ++ (concat_map g (once b) ++ []) =
        concat_map-append g ix (once b) ∙ ap₂ ◌++◌ (brackets w a b c q) (sym (append-nil (concat_map g (once b)))) in
        let k : concat_map g (once a ++ (ix ++ once b)) ≡ concat_map g (once a) ++ (h e ++ (concat_map g (once b) ++ [])) =
        concat_map-append g (once a) (ix ++ once b) ∙ ap (λ (l : List X). concat_map g (once a) ++ l) j in
        ap (any p) k ∙ any_swap p (concat_map g (once a)) (h e) (concat_map g (once b) ++ [])
        ∙ ap (λ (ks : List Child). any p (h e ++ entered ks (concat_map g (once a)) (concat_map g (once b)) (concat_map g (once c))))
        (sym (children-at w 16 (eqb-true w.kind 16 q)))

    set-once : (t : Tree) → any p (concat_map g (walk_once sheet s extras i t)) ≡ any p (concat_map h (traverse t))
    unfolding walk_once traverse
    set-once nil = refl
    set-once (node w a b c n) =
        let once = walk_once sheet s extras i in
        let e = node w a b c nil in
        let en = children_of w in
        let here =
        cond (is_ref_brack w) (once a ++ (concat_map (indexed sheet s extras i (once a)) (index_vars s e) ++ once b))
        (own_events sheet s extras i w e ++ entered en (once a) (once b) (once c))
        in
        ap (any p) (concat_map-append g here (once n))
        ∙ any_append p (concat_map g here) (concat_map g (once n))
        ∙ cc (
          set-node w a b c (is_ref_brack w) refl,
          any_append p (h e) (entered en (concat_map g (once a)) (concat_map g (once b)) (concat_map g (once c))),
          any-entered p en (concat_map g (once a)) (concat_map g (once b)) (concat_map g (once c)) (concat_map h (traverse a))
              (concat_map h (traverse b)) (concat_map h (traverse c)) (set-once a) (set-once b) (set-once c),
          set-once n,
          any_append p (h e) (entered en (concat_map h (traverse a)) (concat_map h (traverse b)) (concat_map h (traverse c))),
          concat_map-entered h en (traverse a) (traverse b) (traverse c),
          any_append p (h e ++ concat_map h (entered en (traverse a) (traverse b) (traverse c))) (concat_map h (traverse n)),
        )
        ∙ sym (ap (any p) (concat_map-append h (e ∷ entered en (traverse a) (traverse b) (traverse c)) (traverse n)))

  -- The names used.
  pub names-once : (t : Tree) (x : ℕ) → elem x (names_used sheet s extras i (walk_once sheet s extras i t)) ≡ elem x (used_vars sheet s extras t)
  unfolding used_vars Uses.used_at
  names-once t x =
      elem-any x (names_used sheet s extras i (walk_once sheet s extras i t))
      ∙ set-once (eqb x) (rust_used_at sheet s extras i) (Uses.used_at sheet s extras)
      (λ w a b c q. names_of (walk_once sheet s extras i a) (index_vars s (node w a b c nil)) ∙ rw (eqb-true w.kind 16 q) refl)
      (λ w a b c q. go w (node w a b c nil) (is_var w) (is_compr w) (is_ref_brack w) q) t
      ∙ sym (elem-any x (used_vars sheet s extras t))
    where
      names_of : (k : List Event) (xs : List ℕ) → names_used sheet s extras i (concat_map (indexed sheet s extras i k) xs) ≡ xs
      names_of k [] = refl
      names_of k (y ∷ xs) = ap (λ (l : List ℕ). y ∷ l) (names_of k xs)

      go : (w : Row) (e : Tree) (v c b : Bool) → b ≡ false
          → names_used sheet s extras i (cond v (seen w ∷ []) (cond c (met e ∷ []) []))
          ≡ cond v (cond (is_use sheet s extras w) (w.name ∷ []) []) (cond b (index_vars s e) [])
      go w e true c b q = append-nil (cond (is_use sheet s extras w) (w.name ∷ []) [])
      go w e false true true q = absurd (not-both refl q)
      go w e false true false q = refl
      go w e false false true q = absurd (not-both refl q)
      go w e false false false q = refl

  -- The definitions.
  pub definitions-once : (t : Tree) (p : Definition → Bool)
      → any p (definitions_made (walk_once sheet s extras i t)) ≡ any p (index_definitions sheet s extras i t)
  unfolding index_definitions index_definitions_at
  definitions-once t p =
      set-once p event_defines (index_definitions_at sheet s extras i)
      (λ w a b c q. definitions_of a (index_vars s (node w a b c nil)) ∙ rw q refl)
      (λ w a b c q. go w (node w a b c nil) (is_var w) (is_compr w) ∙ rw q refl) t
    where
      definitions_of : (a : Tree) (xs : List ℕ)
          → definitions_made (concat_map (indexed sheet s extras i (walk_once sheet s extras i a)) xs)
          ≡ map (λ x. define i x (used_vars sheet s extras a)) xs
      definitions_of a [] = refl
      definitions_of a (x ∷ xs) =
          ap₂ ◌∷◌
          (define-same i x (names_used sheet s extras i (walk_once sheet s extras i a)) (used_vars sheet s extras a) (names-once a))
          (definitions_of a xs)

      go : (w : Row) (e : Tree) (v c : Bool) → definitions_made (cond v (seen w ∷ []) (cond c (met e ∷ []) [])) ≡ []
      go w e true c = refl
      go w e false true = refl
      go w e false false = refl

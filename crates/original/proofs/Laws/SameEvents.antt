-- The Rust's walk and the walk done once come to the same for whatever takes their events and is settled.
use mathlib.Core.Path.{◌≡◌, refl, sym, ap, ◌∙◌, fun_ext}
use mathlib.Core.Bool.{Bool, true, false, cond}
use mathlib.Core.List.{List, [], ◌∷◌, ◌++◌, append_assoc, append-nil, foldl, foldl-append}
use Prim.Native.Nat.{ℕ}
use lib.Dec.{eqb}
use borrow.Author.Tests.{eqb-true}
use Rattle.base.specs.Lists.{filter, elem, range, concat_map, any}
use Rattle.order.specs.Definitions.{Definition}
use Rattle.sheet.specs.declared.Row.{Row}
use Rattle.sheet.specs.Sheet.{Sheet, name_bound}
use Rattle.sheet.specs.Kinds.{is_ref_brack}
use Rattle.scope.specs.Trees.{Tree, nil, node}
use Rattle.scope.specs.Traverse.{Child, first_field, second_field, third_field, children_of, child_of, entered}
use Rattle.scope_walk.proofs.Laws.Kids.{children-at}
use Rattle.scope.specs.Scopes.{Scope}
use Rattle.definition.specs.Uses.{define, index_vars}
use Rattle.original.proofs.Laws.Lists.{elem-any}
use Rattle.original.specs.Inner.Settled.{Settled}
use Rattle.original.proofs.Laws.Settled.{repeats, foldl_concat_map, settled-parts}
use Rattle.original.proofs.Laws.Takers.{or_passes, foldl_any, any_settled}
use Rattle.original.specs.Inner.Events.{Event, defined, used}
use Rattle.original.specs.Inner.RustWalk.{names_used, rust_used_at, indexed, own_events, visit, rust_walk}
use Rattle.original.proofs.Laws.RustWalk.{walk_once}

-- Two sequences of events that nothing settled tells apart.
abbrev pub SameEvents : List Event → List Event → Type 1
SameEvents k l = (S : Type 0) (step : S → Event → S) → Settled step → (t : S) → foldl step t k ≡ foldl step t l

-- What is read off the events, by something settled, is the same.
pub same_read : {S X : Type 0} (g : Event → List X) (step : S → X → S) → Settled step → (k l : List Event) → SameEvents k l → (t : S)
    → foldl step t (concat_map g k) ≡ foldl step t (concat_map g l)
same_read {S} g step st k l h t =
    foldl_concat_map step g t k ∙ h S (λ u e. foldl step u (g e)) (settled-parts step g st) t ∙ sym (foldl_concat_map step g t l)

-- A test asked of what is read off gives the same.
pub same-any : {X : Type 0} (g : Event → List X) (p : X → Bool) (k l : List Event) → SameEvents k l → any p (concat_map g k) ≡ any p (concat_map g l)
same-any g p k l h =
    sym (foldl_any p false (concat_map g k)) ∙ same_read g (or_passes p) (any_settled p) k l h false ∙ foldl_any p false (concat_map g l)

-- A definition depends on the set of the names alone.
pub define-same : (i x : ℕ) (k l : List ℕ) → ((y : ℕ) → elem y k ≡ elem y l) → define i x k ≡ define i x l
unfolding define
define-same i x k l h =
    ap {B = Definition} (λ (f : ℕ → Bool). record { statement = i; var = x; used = filter f (range 0 name_bound) }) (fun_ext h)

-- One after the other.
same-append : (a a' b b' : List Event) → SameEvents a a' → SameEvents b b' → SameEvents (a ++ b) (a' ++ b')
same-append a a' b b' ha hb S step st t =
    foldl-append step t a b
    ∙ ap (λ (u : S). foldl step u b) (ha S step st t)
    ∙ hb S step st (foldl step t a')
    ∙ sym (foldl-append step t a' b')

-- What is entered.
same-entered : (ks : List Child) (a a' b b' c c' : List Event) → SameEvents a a' → SameEvents b b' → SameEvents c c' → SameEvents (entered ks a b c) (entered ks a' b' c')
same-entered [] a a' b b' c c' ha hb hc S step st t = refl
same-entered (k ∷ ks) a a' b b' c c' ha hb hc S step st t =
    same-append (child_of k a b c) (child_of k a' b' c') (entered ks a b c) (entered ks a' b' c') (child k)
    (same-entered ks a a' b b' c c' ha hb hc) S step st t
  where
    child : (j : Child) → SameEvents (child_of j a b c) (child_of j a' b' c')
    child first_field = ha
    child second_field = hb
    child third_field = hc

module _ (sheet : Sheet) (s : Scope) (extras : List ℕ) (i : ℕ) where
  -- The names used are the same set.
  pub same_names : (k l : List Event) → SameEvents k l → (x : ℕ) → elem x (names_used sheet s extras i k) ≡ elem x (names_used sheet s extras i l)
  same_names k l h x =
      let names = names_used sheet s extras i in
      elem-any x (names k) ∙ same-any (rust_used_at sheet s extras i) (eqb x) k l h ∙ sym (elem-any x (names l))

  -- The names of an index, after walks that are the same.
  indexed-same : (k l : List Event) → SameEvents k l → indexed sheet s extras i k ≡ indexed sheet s extras i l
  indexed-same k l h =
      fun_ext (λ x. ap {B = List Event} (λ (d : Definition). defined d ∷ used x ∷ [])
      (define-same i x (names_used sheet s extras i k) (names_used sheet s extras i l) (same_names k l h)))

  -- At a bracket.
  same_bracket : (xs : List ℕ) (a a' b b' : List Event) → SameEvents a a' → SameEvents b b'
      → SameEvents (concat_map (λ x. a ++ indexed sheet s extras i a x) xs ++ (a ++ b)) (a' ++ (concat_map (indexed sheet s extras i a') xs ++ b'))
  same_bracket xs a a' b b' ha hb S step st t =
      let ix = indexed sheet s extras i in
      ap (foldl step t) (sym (append_assoc (concat_map (λ x. a ++ ix a x) xs) a b))
      ∙ foldl-append step t (concat_map (λ x. a ++ ix a x) xs ++ a) b
      ∙ ap (λ (u : S). foldl step u b) (repeats step st a (ix a) xs t)
      ∙ hb S step st (foldl step t (a ++ concat_map (ix a) xs))
      ∙ ap (λ (d : ℕ → List Event). foldl step (foldl step t (a ++ concat_map d xs)) b') (indexed-same a a' ha)
      ∙ ap (λ (u : S). foldl step u b')
      (foldl-append step t a (concat_map (ix a') xs)
      ∙ ap (λ (u : S). foldl step u (concat_map (ix a') xs)) (ha S step st t)
      ∙ sym (foldl-append step t a' (concat_map (ix a') xs)))
      ∙ sym (foldl-append step t (a' ++ concat_map (ix a') xs) b')
      ∙ ap (foldl step t) (append_assoc a' (concat_map (ix a') xs) b')

  -- At an expression.
  same-node : (w : Row) (e : Tree) (bracket : Bool) → is_ref_brack w ≡ bracket → (a a' b b' c c' : List Event) → SameEvents a a' → SameEvents b b' → SameEvents c c'
      → SameEvents
      (cond bracket (concat_map (λ x. a ++ indexed sheet s extras i a x) (index_vars s e)) (own_events sheet s extras i w e)
      ++ entered (children_of w) a b c)
      (cond bracket (a' ++ (concat_map (indexed sheet s extras i a') (index_vars s e) ++ b')) (own_events sheet s extras i w e ++ entered (children_of w) a' b' c'))
  same-node w e false q a a' b b' c c' ha hb hc S step st t =
      let own = own_events sheet s extras i w e in
      let ks = children_of w in
      same-append own own (entered ks a b c) (entered ks a' b' c') (λ T f h u. refl) (same-entered ks a a' b b' c c' ha hb hc) S step st t
  same-node w e true q a a' b b' c c' ha hb hc S step st t =
      let parts : entered (children_of w) a b c ≡ a ++ b =
      ap (λ (ks : List Child). entered ks a b c) (children-at w 16 (eqb-true w.kind 16 q)) ∙ ap (λ (l : List Event). a ++ l) (append-nil b) in
      ap (λ (l : List Event). foldl step t (concat_map (λ x. a ++ indexed sheet s extras i a x) (index_vars s e) ++ l)) parts
      ∙ same_bracket (index_vars s e) a a' b b' ha hb S step st t

  -- Whatever takes events in turn, and is not changed by one that it took before, comes to the same.
  pub rust_once : (t : Tree) → SameEvents (rust_walk sheet s extras i t) (walk_once sheet s extras i t)
  unfolding rust_walk walk_once
  rust_once nil S step st u = refl
  rust_once (node w a b c n) S step st u =
      let rust = rust_walk sheet s extras i in
      let once = walk_once sheet s extras i in
      let e = node w a b c nil in
      let ks = children_of w in
      same-append
      (visit sheet s extras i w e (rust a) ++ entered ks (rust a) (rust b) (rust c))
      (cond (is_ref_brack w) (once a ++ (concat_map (indexed sheet s extras i (once a)) (index_vars s e) ++ once b))
      (own_events sheet s extras i w e ++ entered ks (once a) (once b) (once c)))
      (rust n) (once n)
      (same-node w e (is_ref_brack w) refl (rust a) (once a) (rust b) (once b) (rust c) (once c)
      (λ T f h v. rust_once a T f h v) (λ T f h v. rust_once b T f h v) (λ T f h v. rust_once c T f h v))
      (λ T f h v. rust_once n T f h v) S step st u

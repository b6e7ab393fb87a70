-- Laws of `SomeVars`.
use mathlib.Core.Path.{◌≡◌, refl, sym, ap, ◌∙◌, subst}
use mathlib.Core.Bool.{Bool, true, false, cond, ◌&&◌, and-true, and-false}
use mathlib.Core.List.{List, [], ◌∷◌, ◌++◌, foldl, map}
use Prim.Native.Nat.{ℕ, ◌≤◌}
use lib.ListN.{length}
use borrow.Author.Tests.{eq-eqb}
use Rattle.base.specs.Lists.{filter, concat_map}
use Rattle.base.specs.Sets.{member}
use Rattle.names.specs.Inner.Sets.{Inserted}
use Rattle.names.specs.Inner.Names.{Names}
use Rattle.sheet.specs.declared.Row.{Row}
use Rattle.sheet.specs.Inner.Sheet.{row_at}
use Rattle.sheet.specs.Sheet.{is_input}
use Rattle.sheet.specs.Kinds.{is_var}
use Rattle.scope.specs.Trees.{Tree, row_of, tree_at}
use Rattle.scope.specs.Traverse.{leaves, vars}
use Rattle.scope.specs.Scopes as spec
use Rattle.scope.specs.Scopes.{Span, span_of, is_local}
use Rattle.definition.specs.Uses.{name_of, add_first_use}
use Rattle.definition.specs.SomeIn.{some_vars_in}
use Rattle.scope_state.specs.declared.Scope.{Scope}
use Rattle.scope_walk.specs.Inner.Sheets.{sheet_at, Accepted, expr_count}
use Rattle.scope_walk.specs.Inner.Exprs.{expr_by}
use Rattle.scope_walk.proofs.Laws.Walking.{LeavesWalk, walked_none, walked-turn}
use Rattle.scope_walk.proofs.Laws.Patterns.{PatternTurn}
use Rattle.definition_walk.specs.Inner.Adds.{Adds}
use Rattle.definition_walk.proofs.Laws.Adds.{adds_none, adds_one}
use Rattle.definition_walk.specs.Inner.Firsts.{Firsts, FirstUse}
use Rattle.definition_walk.proofs.Laws.Gathered.{at_leaves, gathered_none, gathered-turn}
use Rattle.definition_record.specs.Inner.SomeVars.{Binds, binds, SomeStep, SomeVars, EnterStep, SomeEntered}

module _ (t : List ℕ) where
  module _ (k : Scope) (w : Row) where
    module _ (v : w.kind ≡ 6) (i : Bool) (is : i ≡ is_input (sheet_at t) w.name) where
      pub binds-input : i ≡ true → Binds t k w false
      binds-input p s h = sym (rw (eq-eqb w.kind 6 v, sym is, p) (and-false (is_local s w.name)))

      pub binds_local : i ≡ false → (r : Bool) → r ≡ member k.locals.words w.name → Binds t k w r
      binds_local p r e s h = sym (rw (eq-eqb w.kind 6 v, sym is, p) (and-true (is_local s w.name) ∙ h.locals w.name ∙ sym e))

  module _ (s : spec.Scope) where
    -- ---- names

    abbrev name_at : Row → List ℕ
    name_at w = cond (is_var w && (binds t) s w) (w.name ∷ []) []

    no_other : (w : Row) → is_var w ≡ false → name_at w ≡ []
    no_other w e = rw e

    names_are : (ts : List Tree) → map name_of (some_vars_in (sheet_at t) s ts) ≡ concat_map (λ (e : Tree). name_at (row_of e)) ts
    unfolding some_vars_in
    names_are [] = refl
    names_are (e ∷ ts) = go (is_var (row_of e)) (binds t s (row_of e)) refl (names_are ts)
      where
        go : (v b : Bool) → binds t s (row_of e) ≡ b → map name_of (filter (binds t s) (vars ts)) ≡ concat_map (λ (e : Tree). name_at (row_of e)) ts
            → map name_of (filter (binds t s) (cond v (row_of e ∷ []) [] ++ vars ts))
            ≡ (cond (v && b) ((row_of e).name ∷ []) [] ++ concat_map (λ (e : Tree). name_at (row_of e)) ts)
        go false b is ih = ih
        go true true is ih = rw is (ap (λ (l : List ℕ). (row_of e).name ∷ l) ih)
        go true false is ih = rw is ih

    -- ---- first uses

    abbrev enter : List Span → Row → List Span
    enter spans w = cond (is_var w && (binds t) s w) (add_first_use spans (span_of w)) spans

    uses_are : (spans : List Span) (ts : List Tree)
        → foldl (λ (u : List Span) (e : Tree). enter u (row_of e)) spans ts ≡ foldl add_first_use spans (map span_of (some_vars_in (sheet_at t) s ts))
    unfolding some_vars_in
    uses_are spans [] = refl
    uses_are spans (e ∷ ts) = uses_are (enter spans (row_of e)) ts ∙ go (is_var (row_of e)) (binds t s (row_of e)) refl
      where
        go : (v b : Bool) → binds t s (row_of e) ≡ b
            → foldl add_first_use (cond (v && b) (add_first_use spans (span_of (row_of e))) spans) (map span_of (filter (binds t s) (vars ts)))
            ≡ foldl add_first_use spans (map span_of (filter (binds t s) (cond v (row_of e ∷ []) [] ++ vars ts)))
        go false b is = refl
        go true true is = rw is
        go true false is = rw is

  module _ (k : Scope) where
    module _ (w : Row) (a : Names) (r : Bool) (is : Binds t k w r) where
      pub some-bound : r ≡ true → (b : Names) → Inserted a.words w.name b.words → SomeStep t k w a b
      some-bound p b put s h = rw (sym (is s h), p) (adds_one a w.name b put)

      pub some_passed : r ≡ false → SomeStep t k w a a
      some_passed p s h = rw (sym (is s h), p) (adds_none a)

    pub some_still : (w : Row) → is_var w ≡ false → (a : Names) → SomeStep t k w a a
    some_still w e a s h = rw e (adds_none a)

    -- The match of a row.
    abbrev pub SomeTurn : Row → Names → Names → Type 0
    SomeTurn w = PatternTurn (SomeStep t k w) (SomeVars t k) w

    module _ (ok : Accepted t) where
      pub some-none : (row : ℕ) → row ≡ 0 → (a : Names) → SomeVars t k row a a
      some-none row z a s h =
          subst (λ (l : List ℕ). Adds a l a) (sym (names_are s (leaves (expr_by t true row)))) (gathered_none t (name_at s) (no_other s) ok row z true a)

      -- With the walk over the rest of its chain.
      pub some_turn : (row : ℕ) → (row ≡ 0 → ⊥) → row ≤ expr_count t → (w : Row) → w ≡ row_at t row
          → (next : ℕ) → next ≡ cond true w.next 0 → (a b c : Names) → SomeTurn w a b → SomeVars t k next b c → SomeVars t k row a c
      some_turn row ne high w is next n a b c turn on s h =
          let part : (v : ℕ) (x y : Names) → SomeVars t k v x y → Adds x (at_leaves t (name_at s) (no_other s) true v) y =
          λ v x y walked. subst (λ (l : List ℕ). Adds x l y) (names_are s (leaves (expr_by t true v))) (walked s h) in
          subst (λ (l : List ℕ). Adds a l c) (sym (names_are s (leaves (expr_by t true row))))
          (gathered-turn t (name_at s) (no_other s) ok row ne high true w is next n a turn.own b c (turn.step s h) (part _ turn.own b turn.parts) (part next b c on))

    module _ (w : Row) (ws : List ℕ) (r : Bool) (is : Binds t k w r) where
      pub enter-bound : r ≡ true → (rs : List ℕ) → FirstUse w ws rs → EnterStep t k w ws rs
      enter-bound p rs put s h spans f = rw (sym (is s h), p) (put spans f)

      pub enter_passed : r ≡ false → EnterStep t k w ws ws
      enter_passed p s h spans f = rw (sym (is s h), p) f

    pub enter_still : (w : Row) → is_var w ≡ false → (ws : List ℕ) → EnterStep t k w ws ws × (length ws ≡ length ws)
    enter_still w e ws = (λ s h spans f. rw e f, refl)

    -- The match of a row, which keeps the words' count.
    abbrev pub EnteredTurn : Row → List ℕ → List ℕ → Type 0
    EnteredTurn w = PatternTurn (λ ws rs. EnterStep t k w ws rs × (length rs ≡ length ws)) (λ n ws rs. SomeEntered t k n ws rs × (length rs ≡ length ws)) w

    abbrev Does : (List Span → List Span) → List ℕ → List ℕ → Type 0
    Does f ws rs = (spans : List Span) → Firsts ws spans → Firsts rs (f spans)

    does_as : (f g : List Span → List Span) (ws rs : List ℕ) → ((u : List Span) → f u ≡ g u) → Does f ws rs → Does g ws rs
    does_as f g ws rs same h spans a = subst (Firsts rs) (same spans) (h spans a)

    does_none : (ws : List ℕ) → Does (λ u. u) ws ws
    does_none ws spans a = a

    does_then : (f g : List Span → List Span) (ws us rs : List ℕ) → Does f ws us → Does g us rs → Does (λ u. g (f u)) ws rs
    does_then f g ws us rs h m spans a = m (f spans) (h spans a)

    module _ (s : spec.Scope) where
      others : (u : List Span) (w : Row) → is_var w ≡ false → enter s u w ≡ u
      others u w e = rw e

      abbrev Walks : ℕ → List ℕ → List ℕ → Type 0
      Walks row ws rs = LeavesWalk t Does does_as does_none does_then (enter s) others row true ws rs

      abbrev Entered : ℕ → List ℕ → List ℕ → Type 0
      Entered row = Does (λ spans. foldl add_first_use spans (map span_of (some_vars_in (sheet_at t) s (leaves (tree_at (sheet_at t) row)))))

      to-walk : (row : ℕ) (ws rs : List ℕ) → Entered row ws rs → Walks row ws rs
      to-walk row ws rs = does_as _ _ ws rs (λ u. sym (uses_are s u (leaves (expr_by t true row))))

      from-walk : (row : ℕ) (ws rs : List ℕ) → Walks row ws rs → Entered row ws rs
      from-walk row ws rs = does_as _ _ ws rs (λ u. uses_are s u (leaves (expr_by t true row)))

    module _ (ok : Accepted t) where
      pub entered-none : (row : ℕ) → row ≡ 0 → (ws : List ℕ) → SomeEntered t k row ws ws
      entered-none row z ws s h =
          from-walk s row ws ws (walked_none t Does does_as does_none does_then (enter s) (others s) ok row z true ws)

      -- With the walk over the rest of its chain.
      pub entered-turn : (row : ℕ) → (row ≡ 0 → ⊥) → row ≤ expr_count t → (w : Row) → w ≡ row_at t row
          → (next : ℕ) → next ≡ cond true w.next 0 → (a b c : List ℕ) → EnteredTurn w a b → SomeEntered t k next b c → SomeEntered t k row a c
      entered-turn row ne high w is next n a b c turn on s h =
          from-walk s row a c
          (walked-turn t Does does_as does_none does_then (enter s) (others s) ok row ne high true w is _ refl next n a turn.own b c
          (turn.step.0 s h) (to-walk s _ turn.own b (turn.parts.0 s h)) (to-walk s next b c (on s h)))

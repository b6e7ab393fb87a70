-- The arms of a pattern walk's match on the kind: a leaf's step is done, or the parts of an Array or an Object are walked.
use mathlib.Core.Path.{◌≡◌, refl, sym, ap, ◌∙◌, subst}
use mathlib.Core.Bool.{Bool, true, false, ◌||◌, cond}
use mathlib.Core.List.{List, [], ◌∷◌, map}
use Prim.Native.Nat.{ℕ, zero, suc, ◌+◌, ◌≤◌}
use native.Mathlib.Omega.{arith}
use lib.Dec.{eqb}
use lib.ListN.{length, get_or}
use borrow.Author.Tests.{ne_eqb}
use Rattle.sheet.specs.declared.Row.{Row}
use Rattle.sheet.specs.declared.kinds.Kind.{Kind}
use Rattle.sheet.specs.declared.kinds.Kind.TheVariants as kind
use Rattle.sheet.specs.Inner.Kinds.{KindNumbered}
use Rattle.sheet.specs.Kinds.{is_pattern, is_var}
use Rattle.sheet_fields.proofs.Laws.Tables.{left_over}
use Rattle.scope.specs.Traverse.{Child, first_field, child_of}
use Rattle.scope_walk.specs.Inner.Patterns.{pattern_children, pattern_children_of}
use Rattle.scope_walk.proofs.Laws.Numbers.{number_of, by_number, other_number, OneOf, same_of, patterns}
use Rattle.scope_walk.proofs.Laws.Arms.{no_such_kind}
use Rattle.scope_walk.proofs.Laws.Walking.{no_var}

-- ---- the children that a pattern walk enters: the items of an Array, the fields of an Object, and none of the other twenty

abbrev entered_by : ℕ → List Child
entered_by k = cond (eqb k 7 || eqb k 9) (first_field ∷ []) []

-- A table from kind n on, and what lies behind it.
abbrev Keeps : ℕ → List (List Child) → Type 0
Keeps n [] = (k : ℕ) → n ≤ k → [] ≡ entered_by k
Keeps n (ks ∷ l) = (ks ≡ entered_by n) × Keeps (suc n) l

kept_at : (n : ℕ) (l : List (List Child)) → Keeps n l → (k j : ℕ) → j ≡ n + k → get_or l k [] ≡ entered_by j
kept_at n [] h k j e = h j (omega arith)
kept_at n (ks ∷ l) h zero j e = let is : n ≡ j = omega arith in h.0 ∙ ap entered_by is
kept_at n (ks ∷ l) h (suc k) j e = kept_at (suc n) l h.1 k j (omega arith)

none-behind : (k : ℕ) → 23 ≤ k → [] ≡ entered_by k
none-behind k high = sym (rw (ne_eqb k 7 (λ e. omega arith), ne_eqb k 9 (λ e. omega arith)))

by_kind : Keeps 0 pattern_children
by_kind = (refl, (refl, (refl, (refl, (refl, (refl, (refl, (refl, (refl, (refl, (refl, (refl, (refl, (refl, (refl, (refl, (refl, (refl, (refl, (refl, (refl, (refl, (refl, none-behind)))))))))))))))))))))))

pub pattern-enters : (w : Row) → pattern_children_of w ≡ cond (is_pattern w) (first_field ∷ []) []
pattern-enters w = kept_at 0 pattern_children by_kind w.kind w.kind (omega arith)

-- ---- a row's turn, but for the rest of its chain

module _ {S : Type 0} (Step : S → S → Type 0) (Walk : ℕ → S → S → Type 0) (w : Row) where
  -- What an arm does that enters these children: the walk over them, and where there are none the row's own step.
  abbrev pub Entering : List Child → S → S → Type 0
  Entering [] s r = Step s r
  Entering (k ∷ ks) s r = Walk (child_of k w.first w.second w.third) s r

  -- What the match comes to: the row's own step, then the walk over what it is made of. One of the two does nothing.
  pub record PatternTurn (s r : S) : Type 0 where
    pub own : S
    pub step : Step s own
    pub parts : Walk (cond (is_pattern w) w.first 0) own r

module _ {S : Type 0} {Step : S → S → Type 0} {Walk : ℕ → S → S → Type 0} {w : Row} (none : (s : S) → Walk 0 s s) {s r : S} where
  module _ (still : is_pattern w ≡ true → (s : S) → Step s s) where
    by-pattern : Entering Step Walk w (pattern_children_of w) s r → PatternTurn Step Walk w s r
    by-pattern h = go (is_pattern w) refl (subst (λ (ks : List Child). Entering Step Walk w ks s r) (pattern-enters w) h)
      where
        go : (b : Bool) → is_pattern w ≡ b → Entering Step Walk w (cond b (first_field ∷ []) []) s r → PatternTurn Step Walk w s r
        go true p did = record { own = s; step = still p s; parts = rw p did }
        go false p did = record { own = r; step = did; parts = rw p (none r) }

    -- The arm of kind n, which enters what the table says.
    pub entering_arm : {v : S} (n : ℕ) → w.kind ≡ n → Entering Step Walk w (get_or pattern_children n []) s v → r ≡ v → PatternTurn Step Walk w s r
    entering_arm n e did is = by-pattern (rw (e, is) did)

-- ---- the arms

abbrev pattern_by : Kind → List Child
pattern_by k = get_or pattern_children (number_of k) []

pattern-by : (w : Row) (k : Kind) → KindNumbered w.kind k → pattern_children_of w ≡ pattern_by k
pattern-by w k e =
    by_number (λ n. get_or pattern_children n []) w.kind k e (λ other. sym (left_over pattern_children [] 22 w.kind (omega arith) refl other))

leaf-by : (k : Kind) → (k ≡ kind.Array → ⊥) → (k ≡ kind.Object → ⊥) → pattern_by k ≡ []
leaf-by kind.Array a o = absurd (a refl)
leaf-by kind.Object a o = absurd (o refl)
leaf-by _ a o = refl

-- Leaves, and leaves none of which is a Var.
abbrev pub AreLeaves : List Kind → Type 0
AreLeaves ks = map pattern_by ks ≡ map (λ j. []) ks

abbrev told_leaf : Kind → Bool × List Child
told_leaf k = (eqb (number_of k) 6, pattern_by k)

abbrev quiet_leaf : Bool × List Child
quiet_leaf = (false, [])

abbrev pub QuietLeaves : List Kind → Type 0
QuietLeaves ks = map told_leaf ks ≡ map (λ j. quiet_leaf) ks

pub other_than_var : {k : Kind} (w : Row) → KindNumbered w.kind k → (k ≡ kind.Var → ⊥) → is_var w ≡ false
other_than_var w e v = ne_eqb w.kind 6 (other_number w.kind e v)

module _ {S : Type 0} {Step : S → S → Type 0} {Walk : ℕ → S → S → Type 0} {w : Row} (none : (s : S) → Walk 0 s s) {s r : S} where
  module _ (still : is_pattern w ≡ true → (s : S) → Step s s) where
    enters : (k : Kind) → KindNumbered w.kind k → (ks : List Child) → pattern_by k ≡ ks
        → {v : S} → Entering Step Walk w ks s v → r ≡ v → PatternTurn Step Walk w s r
    enters k e ks is did is-r = by-pattern none still (rw (pattern-by w k e, is, is-r) did)

    module _ {k : Kind} (e : KindNumbered w.kind k) where
      -- The arm of an Array and an Object, and that of a leaf.
      pub items_turn : OneOf k patterns → {v : S} → Walk w.first s v → r ≡ v → PatternTurn Step Walk w s r
      items_turn is did is-r = enters k e (first_field ∷ []) (same_of pattern_by (first_field ∷ []) k patterns refl is) did is-r

      pub leaf_turn : (k ≡ kind.Array → ⊥) → (k ≡ kind.Object → ⊥) → {v : S} → Step s v → r ≡ v → PatternTurn Step Walk w s r
      leaf_turn a o did is-r = enters k e [] (leaf-by k a o) did is-r

    -- The arm of several leaves.
    pub leaves_turn : (k : Kind) → KindNumbered w.kind k → (ks : List Kind) → AreLeaves ks → OneOf k ks
        → {v : S} → Step s v → r ≡ v → PatternTurn Step Walk w s r
    leaves_turn k e ks leaves is did is-r = enters k e [] (same_of pattern_by [] k ks leaves is) did is-r

  -- Where something is done at a Var alone.
  module _ (quiet : is_var w ≡ false → (s : S) → Step s s) {k : Kind} (e : KindNumbered w.kind k) where
    pub var_arm : k ≡ kind.Var → {v : S} → Step s v → r ≡ v → PatternTurn Step Walk w s r
    var_arm is did is-r = enters (λ p. quiet (no_var w p)) k e [] (ap pattern_by is) did is-r

    pub items_arm : OneOf k patterns → {v : S} → Walk w.first s v → r ≡ v → PatternTurn Step Walk w s r
    items_arm is did is-r = items_turn (λ p. quiet (no_var w p)) e is did is-r

    pub other_arm : (k ≡ kind.Var → ⊥) → (k ≡ kind.Array → ⊥) → (k ≡ kind.Object → ⊥) → r ≡ s → PatternTurn Step Walk w s r
    other_arm v a o is-r = leaf_turn (λ p. quiet (no_var w p)) e a o (quiet (other_than_var w e v) s) is-r

  -- At several leaves, none of which is a Var.
  pub leaves_arm : (is_var w ≡ false → (s : S) → Step s s) → (k : Kind) → KindNumbered w.kind k
      → (ks : List Kind) → QuietLeaves ks → OneOf k ks → r ≡ s → PatternTurn Step Walk w s r
  leaves_arm quiet k e ks leaves is is-r =
      let told = same_of told_leaf quiet_leaf k ks leaves is in
      let other : is_var w ≡ false =
      by_number (λ n. eqb n 6) w.kind k e (no_such_kind w 6 (omega arith) (omega arith)) ∙ ap (λ (x : Bool × List Child). x.0) told in
      enters (λ p. quiet (no_var w p)) k e [] (ap (λ (x : Bool × List Child). x.1) told) (quiet other s) is-r

-- A step or a walk that also writes a list, whose length it keeps.
abbrev pub Lengthwise : {S : Type 0} → (S → List ℕ → S → List ℕ → Type 0) → S × List ℕ → S × List ℕ → Type 0
Lengthwise W a b = W a.0 a.1 b.0 b.1 × (length b.1 ≡ length a.1)

-- Laws of `Index`.
use mathlib.Core.Path.{◌≡◌, refl, sym, ap, ◌∙◌, subst}
use mathlib.Core.Bool.{Bool, true, false, cond, ◌||◌}
use mathlib.Core.List.{List, [], ◌∷◌, ◌++◌, map}
use Prim.Native.Nat.{ℕ, suc, ◌+◌, ◌*◌, ◌/◌, ◌≤◌}
use native.Mathlib.Nat.{div-le_self}
use native.Mathlib.Omega.{arith}
use lib.ListN.{length}
use borrow.Author.Tests.{eq-eqb}
use Rattle.names.specs.Inner.Names.{Names}
use Rattle.names_width.specs.declared.Width.{Width}
use Rattle.names_width.specs.Inner.Widths as Widths
use Rattle.names_width.proofs.Laws.Laws.{room_whole}
use Rattle.sheet.specs.declared.Row.{Row}
use Rattle.sheet.specs.Inner.Sheet.{row_at}
use Rattle.sheet.specs.Kinds.{is_var, is_pattern}
use Rattle.sheet.specs.declared.kinds.Kind.{Kind}
use Rattle.sheet.specs.Inner.Kinds.{KindNumbered}
use Rattle.scope_walk.proofs.Laws.Arms.{no_such_kinds}
use Rattle.scope_walk.proofs.Laws.Numbers.{number_of, by_number, OneOf, same_of, patterns}
use lib.Dec.{eqb}
use Rattle.scope.specs.Trees.{tree_at}
use Rattle.scope.specs.Scopes as spec
use Rattle.definition.specs.Uses.{define, assigned_vars}
use Rattle.scope_state.specs.declared.Scope.{Scope}
use Rattle.scope_walk.specs.Inner.Sheets.{sheet_at, Accepted, expr_count}
use Rattle.scope_state.specs.Inner.Agrees.{Sets}
use Rattle.scope_walk.proofs.Laws.Patterns.{PatternTurn, Lengthwise}
use Rattle.definition_walk.specs.Inner.Own.{Owns}
use Rattle.definition_walk.specs.Inner.Assigned.{leaf_at}
use Rattle.definition_walk.proofs.Laws.Assigned.{assigned_zero, assigned_row}
use Rattle.definition_walk.specs.Inner.Appended.{Appended, Pushed}
use Rattle.definition_walk.proofs.Laws.Appended.{appended-none, appended_then}
use Rattle.definition_walk.specs.Inner.Index.{Defined, LeafDefined, LeafFits, IndexDefined, IndexFits}

-- ---- lengths

module _ {A B : Type 0} where
  pub map-length : (f : A → B) (l : List A) → length (map f l) ≡ length l
  map-length f [] = refl
  map-length f (x ∷ l) = ap suc (map-length f l)

  pub map-append : (f : A → B) (k l : List A) → map f (k ++ l) ≡ (map f k ++ map f l)
  map-append f [] l = refl
  map-append f (x ∷ k) l = ap (λ (r : List B). f x ∷ r) (map-append f k l)

module _ {A : Type 0} where
  pub append-length : (k l : List A) → length (k ++ l) ≡ length k + length l
  append-length [] l = omega arith
  append-length (x ∷ k) l = let e = append-length k l in omega (arith, e)

-- ---- the kind of an arm

pub items_pattern : {k : Kind} (w : Row) → KindNumbered w.kind k → OneOf k patterns → is_pattern w ≡ true
items_pattern {k} w e is =
    by_number (λ n. eqb n 7 || eqb n 9) w.kind k e (no_such_kinds w 7 9 (omega arith) (omega arith) (omega arith) (omega arith))
    ∙ same_of (λ j. eqb (number_of j) 7 || eqb (number_of j) 9) true k patterns refl is

-- ---- names that are defined

module _ (v : Width) (k : Scope) where
  pub defined-none : (i : ℕ) (names : spec.Scope → List ℕ) (used : Names) (ws : List ℕ) (a : ℕ)
      → ((s : spec.Scope) → Sets k s → names s ≡ []) → Defined v k i names used ws ws a a
  defined-none i names used ws a none = record {
    count = λ s h. rw (none s h) (omega arith);
    rows = λ s h l e. rw (none s h) (appended-none v ws a);
  }

  pub defined_then : (i : ℕ) (m n : spec.Scope → List ℕ) (used : Names) (ws us rs : List ℕ) (a b c : ℕ)
      → Defined v k i m used ws us a b → Defined v k i n used us rs b c → Defined v k i (λ s. m s ++ n s) used ws rs a c
  defined_then i m n used ws us rs a b c p q = record {
    count = λ s h. omega (arith, p.count s h, q.count s h, append-length (m s) (n s));
    rows = λ s h l e.
        subst (Appended v ws rs a c) (sym (map-append (λ (x : ℕ). define i x l) (m s) (n s)))
        (appended_then v ws us rs a b c _ _ (p.rows s h l e) (q.rows s h l e));
  }

  pub defined_as : (i : ℕ) (m n : spec.Scope → List ℕ) (used : Names) (ws rs : List ℕ) (a b : ℕ)
      → ((s : spec.Scope) → m s ≡ n s) → Defined v k i m used ws rs a b → Defined v k i n used ws rs a b
  defined_as i m n used ws rs a b is p = record {
    count = λ s h. rw (sym (is s)) (p.count s h);
    rows = λ s h l e. rw (sym (is s)) (p.rows s h l e);
  }

  -- ---- a leaf

  module _ (i : ℕ) (w : Row) (used : Names) (ws : List ℕ) (a : ℕ) where
    pub leaf_undefined : is_var w ≡ false → LeafDefined v k i w used ws ws a a
    leaf_undefined e = defined-none i (λ s. leaf_at s w) used ws a (λ s h. rw e)

    module _ (var : w.kind ≡ 6) (o : Bool) (owned : Owns k w.name o) where
      pub leaf_not_own : o ≡ false → LeafDefined v k i w used ws ws a a
      leaf_not_own p = defined-none i (λ s. leaf_at s w) used ws a (λ s h. rw (eq-eqb w.kind 6 var, sym (owned s h), p))

      own_is : o ≡ true → (s : spec.Scope) → Sets k s → leaf_at s w ≡ w.name ∷ []
      own_is p s h = rw (eq-eqb w.kind 6 var, sym (owned s h), p)

      pub leaf_room : o ≡ true → (size : ℕ) → LeafFits v k w a size → Widths.row_words v * a + Widths.row_words v ≤ size
      leaf_room p size f =
          let e : length (leaf_at f.scope w) ≡ 1 = ap length (own_is p f.scope f.sets) in
          room_whole (Widths.row_words v) a size (omega (arith, e, f.low))

      pub leaf_few : o ≡ true → (size : ℕ) → LeafFits v k w a size → a + 1 ≤ size
      leaf_few p size f =
          let e : length (leaf_at f.scope w) ≡ 1 = ap length (own_is p f.scope f.sets) in
          omega (arith, e, f.low, div-le_self size (Widths.row_words v))

      pub leaf_defined : o ≡ true → (rs : List ℕ) → Pushed v i w.name used a ws rs → LeafDefined v k i w used ws rs a (a + 1)
      leaf_defined p rs put = record {
        count = λ s h. rw (own_is p s h) refl;
        rows = λ s h l e. rw (own_is p s h) (put l e);
      }

-- ---- the walk

module _ (t : List ℕ) (v : Width) (k : Scope) where
  -- The match of a row: counts, each with the definitions' words.
  abbrev pub IndexTurn : ℕ → Row → Names → ℕ × List ℕ → ℕ × List ℕ → Type 0
  IndexTurn i w used =
      PatternTurn (Lengthwise (λ a ws b rs. LeafDefined v k i w used ws rs a b)) (λ n. Lengthwise (λ a ws b rs. IndexDefined t v k i n used ws rs a b)) w

  abbrev names : ℕ → spec.Scope → List ℕ
  names row s = assigned_vars s (tree_at (sheet_at t) row)

  -- At a row that is the same.
  pub index_as : (i r row : ℕ) → r ≡ row → (used : Names) (ws rs : List ℕ) (a b : ℕ) → IndexDefined t v k i r used ws rs a b → IndexDefined t v k i row used ws rs a b
  index_as i r row is used ws rs a b = subst (λ (n : ℕ). IndexDefined t v k i n used ws rs a b) is

  module _ (ok : Accepted t) where
    pub index-none : (row : ℕ) → row ≡ 0 → (i : ℕ) (used : Names) (ws : List ℕ) (a : ℕ) → IndexDefined t v k i row used ws ws a a
    index-none row z i used ws a = defined-none v k i (names row) used ws a (λ s h. rw (z, assigned_zero t s ok true))

    module _ (row : ℕ) (ne : row ≡ 0 → ⊥) (high : row ≤ expr_count t) (w : Row) (is : w ≡ row_at t row)
        (inner : ℕ) (i-is : inner ≡ cond (is_pattern w) w.first 0) (next : ℕ) (n-is : next ≡ w.next) where
      parts : (s : spec.Scope) → ((leaf_at s w ++ names inner s) ++ names next s) ≡ names row s
      parts s = sym (rw (i-is, n-is, is) (assigned_row t s ok true row (omega arith) high))

      sum : (s : spec.Scope) → length (names row s) ≡ length (leaf_at s w) + length (names inner s) + length (names next s)
      sum s =
          ap length (sym (parts s)) ∙ append-length (leaf_at s w ++ names inner s) (names next s)
          ∙ ap (λ (n : ℕ). n + length (names next s)) (append-length (leaf_at s w) (names inner s))

      module _ (i : ℕ) (used : Names) (a size : ℕ) (fits : IndexFits t v k row a size) where
        pub leaf_fits : LeafFits v k w a size
        leaf_fits = record { scope = fits.scope; sets = fits.sets; low = omega (arith, fits.low, sum fits.scope) }

        module _ (ws us : List ℕ) (b : ℕ) (leaf : LeafDefined v k i w used ws us a b) where
          pub inner_fits : (n : ℕ) → n ≡ size → IndexFits t v k inner b n
          inner_fits n e =
              let s = fits.scope in
              record { scope = s; sets = fits.sets; low = omega (arith, ap (λ (m : ℕ). m / Widths.row_words v) e, fits.low, sum s, leaf.count s fits.sets) }

          pub next_fits : (vs : List ℕ) (c : ℕ) → IndexDefined t v k i inner used us vs b c → (n : ℕ) → n ≡ size → IndexFits t v k next c n
          next_fits vs c d n e =
              let s = fits.scope in
              record {
                scope = s;
                sets = fits.sets;
                low = omega (arith, ap (λ (m : ℕ). m / Widths.row_words v) e, fits.low, sum s, leaf.count s fits.sets, d.count s fits.sets);
              }

      pub index-turn : (i : ℕ) (used : Names) (ws us vs rs : List ℕ) (a b c d : ℕ) → LeafDefined v k i w used ws us a b
          → IndexDefined t v k i inner used us vs b c → IndexDefined t v k i next used vs rs c d → IndexDefined t v k i row used ws rs a d
      index-turn i used ws us vs rs a b c d p q r =
          defined_as v k i (λ s. (leaf_at s w ++ names inner s) ++ names next s) (names row) used ws rs a d parts
          (defined_then v k i (λ s. leaf_at s w ++ names inner s) (names next) used ws vs rs a c d
          (defined_then v k i (λ s. leaf_at s w) (names inner) used ws us vs a b c p q) r)

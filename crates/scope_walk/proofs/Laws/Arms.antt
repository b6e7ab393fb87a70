-- The arms of a walk's match on the kind: each does something at the row, or nothing, and gives the children that it enters.
use mathlib.Core.Path.{◌≡◌, refl, sym, ap, ap₂, ◌∙◌, subst}
use mathlib.Core.Bool.{Bool, true, false, ◌||◌, ◌&&◌}
use Prim.Native.Nat.{ℕ, zero, suc, ◌≤◌}
use native.Mathlib.Omega.{arith}
use mathlib.Core.Logic.{◌⊎◌, inl, inr}
use lib.Dec.{eqb, leb}
use lib.ListN.{get_or}
use mathlib.Core.List.{List, [], ◌∷◌, map}
use borrow.Author.Tests.{eqb-true, eqb-false, ne_eqb, leb-true}
use Rattle.base.proofs.Laws.Truth.{bool_cases, and_left, and_right}
use Rattle.sheet.specs.declared.Row.{Row}
use Rattle.sheet.specs.Kinds.{is_compr, is_var}
use Rattle.sheet.specs.Inner.Kinds.{KindNumbered, NoArm}
use Rattle.sheet.specs.declared.kinds.Kind.{Kind}
use Rattle.scope.specs.Traverse.{Child, child_of, children, children_of}
use Rattle.scope.proofs.Laws.Children.{of_children}
use Rattle.scope_walk.specs.declared.Kids.{Kids}
use Rattle.scope_walk.specs.Inner.Kids.{kids_by, kids_of}
use Rattle.scope_walk.proofs.Laws.Numbers.{number_of, by_number, OneOf, same_of}
use Rattle.scope_walk.proofs.Laws.Kids.{children-at, kids_at, no_children}

-- A Membership is no comprehension.
pub membership_no_compr : (w : Row) → w.kind ≡ 22 → is_compr w ≡ false
membership_no_compr w e = ap (λ (k : ℕ). leb 10 k && leb k 12) e

-- No arm has the row's kind.
abbrev pub NoKind : Row → Type 0
NoKind w = NoArm 22 w.kind

-- So it is none of those that have one.
not_among : (n j k : ℕ) → 1 ≤ j → j ≤ n → NoArm n k → k ≡ j → ⊥
not_among zero j k a b h e = omega arith
not_among (suc n) j k a b h e = go (λ l. not_among n j k a l h.0 e) (eqb j (suc n)) refl
  where
    go : (j ≤ n → ⊥) → (q : Bool) → eqb j (suc n) ≡ q → ⊥
    go on true p = h.1 (e ∙ eqb-true j (suc n) p)
    go on false p = let m = eqb-false j (suc n) p in on (omega arith)

pub no_such_kind : (w : Row) (j : ℕ) → 1 ≤ j → j ≤ 22 → NoKind w → eqb w.kind j ≡ false
no_such_kind w j a b none = ne_eqb w.kind j (not_among 22 j w.kind a b none)

pub no_such_kinds : (w : Row) (i j : ℕ) → 1 ≤ i → i ≤ 22 → 1 ≤ j → j ≤ 22 → NoKind w → (eqb w.kind i || eqb w.kind j) ≡ false
no_such_kinds w i j a b c d none = ap₂ ◌||◌ (no_such_kind w i a b none) (no_such_kind w j c d none)

pub no_compr_kind : (w : Row) → NoKind w → is_compr w ≡ false
no_compr_kind w none = go (bool_cases (is_compr w))
  where
    among : (j : ℕ) → 1 ≤ j → j ≤ 22 → w.kind ≡ j → ⊥
    among j a b = not_among 22 j w.kind a b none

    go : (is_compr w ≡ true) ⊎ (is_compr w ≡ false) → is_compr w ≡ false
    go (inr p) = p
    go (inl p) =
        let low = leb-true 10 w.kind (and_left (leb 10 w.kind) _ p) in
        let high = leb-true w.kind 12 (and_right (leb 10 w.kind) _ p) in
        let ten = among 10 (omega arith) (omega arith) in
        let eleven = among 11 (omega arith) (omega arith) in
        let twelve = among 12 (omega arith) (omega arith) in
        absurd (omega arith)

-- ---- a row's turn, but for the walks over its children

module _ {S : Type 0} (Step : S → S → Type 0) (w : Row) where
  -- What is done at the row takes s to r, and k are its children.
  pub record KidsTurn (s r : S) (k : Kids) : Type 0 where
    pub step : Step s r
    pub kids : k ≡ kids_of w

module _ {S : Type 0} {Step : S → S → Type 0} {w : Row} {s r : S} {k : Kids} where
  -- The arm of kind n: its children are those of the definitions, in their order.
  pub arm : {v : S} (n : ℕ) → w.kind ≡ n → Step s v → r ≡ v → k ≡ kids_by (get_or children n []) w → KidsTurn Step w s r k
  arm n e did is ks = record { step = subst (Step s) (sym is) did; kids = ks ∙ kids_at w n e }

-- ---- a row's turn in full: each arm walks the children of its kind, one after the other

module _ {S : Type 0} (W : ℕ → S → S → Type 0) where
  -- The walks over some children of a row.
  abbrev pub ChildrenWalked : List Child → Row → S → S → Type 0
  ChildrenWalked [] w a b = b ≡ a
  ChildrenWalked (k ∷ ks) w a b = (u : S) × W (child_of k w.first w.second w.third) a u × ChildrenWalked ks w u b

  -- The same over the rows that are entered, and over none behind the last.
  pub record KidsWalked (k : Kids) (a b : S) : Type 0 where
    pub one : S
    pub two : S
    pub first : W k.first a one
    pub second : W k.second one two
    pub third : W k.third two b

  pub kids_walked : ((s : S) → W 0 s s) → (w : Row) (a b : S) → ChildrenWalked (children_of w) w a b → KidsWalked (kids_of w) a b
  unfolding kids_of
  kids_walked none w a b =
      of_children (λ ks. ChildrenWalked ks w a b → KidsWalked (kids_by ks w) a b)
      (λ e. record { one = a; two = a; first = none a; second = none a; third = subst (W 0 a) (sym e) (none a) })
      (λ h. record { one = h.0; two = h.0; first = h.1; second = none h.0; third = subst (W 0 h.0) (sym h.2) (none h.0) })
      (λ h. record { one = h.0; two = h.0; first = h.1; second = none h.0; third = subst (W 0 h.0) (sym h.2) (none h.0) })
      (λ h. let g = h.2 in record { one = h.0; two = g.0; first = h.1; second = g.1; third = subst (W 0 g.0) (sym g.2) (none g.0) })
      (λ h. let g = h.2 in let f = g.2 in record { one = h.0; two = g.0; first = h.1; second = g.1; third = subst (W w.third g.0) (sym f.2) f.1 })
      w.kind

module _ {S : Type 0} (Step : S → S → Type 0) (W : ℕ → S → S → Type 0) (w : Row) where
  -- What is done at the row takes s to `own`, and the walks over its children take that to r.
  pub record FullTurn (s r : S) : Type 0 where
    pub own : S
    pub step : Step s own
    pub parts : ChildrenWalked W (children_of w) w own r

module _ {S : Type 0} {Step : S → S → Type 0} {W : ℕ → S → S → Type 0} {w : Row} {s r : S} where
  pub full_arm : (n : ℕ) (v : S) → w.kind ≡ n → Step s v → ChildrenWalked W (get_or children n []) w v r → FullTurn Step W w s r
  full_arm n v e did h = record { own = v; step = did; parts = subst (λ (ks : List Child). ChildrenWalked W ks w v r) (sym (children-at w n e)) h }

-- ---- arms for some kinds, where a match has the row's kind by name

-- At which numbers something is done, and at the rest nothing: what the arms of one match have in common.
pub record Quiet {S : Type 0} (Step : S → S → Type 0) (w : Row) (special : ℕ → Bool) (kind : Kind) (s : S) : Type 0 where
  pub numbered : KindNumbered w.kind kind
  pub past : NoKind w → special w.kind ≡ special 0
  pub still : special w.kind ≡ false → Step s s

-- Where something is done at a Var alone, and at comprehensions alone.
abbrev pub var_number : ℕ → Bool
var_number n = eqb n 6

abbrev pub compr_number : ℕ → Bool
compr_number n = leb 10 n && leb n 12

module _ {S : Type 0} {Step : S → S → Type 0} {w : Row} {kind : Kind} {s : S} (is : KindNumbered w.kind kind) where
  pub quiet_but_vars : (is_var w ≡ false → Step s s) → Quiet Step w var_number kind s
  quiet_but_vars still = record { numbered = is; past = no_such_kind w 6 (omega arith) (omega arith); still = still }

  pub quiet_but_comprs : (is_compr w ≡ false → Step s s) → Quiet Step w compr_number kind s
  quiet_but_comprs still = record { numbered = is; past = no_compr_kind w; still = still }

abbrev pub children_by : Kind → List Child
children_by k = get_or children (number_of k) []

-- The children of the first of some kinds, which are those of each.
abbrev pub children_among : List Kind → List Child
children_among [] = []
children_among (k ∷ ks) = children_by k

-- The kinds have the same children.
abbrev pub SameChildren : List Kind → Type 0
SameChildren ks = map children_by ks ≡ map (λ j. children_among ks) ks

-- And nothing is done at them.
abbrev told_by : (ℕ → Bool) → Kind → Bool × List Child
told_by special k = (special (number_of k), children_by k)

abbrev told_quiet : List Child → Bool × List Child
told_quiet cs = (false, cs)

abbrev pub SameAndQuiet : (ℕ → Bool) → List Kind → Type 0
SameAndQuiet special ks = map (told_by special) ks ≡ map (λ j. told_quiet (children_among ks)) ks

children-by : (w : Row) (k : Kind) → KindNumbered w.kind k → children_of w ≡ children_by k
children-by w k e = by_number (λ n. get_or children n []) w.kind k e (no_children w)

module _ {S : Type 0} {Step : S → S → Type 0} {w : Row} {special : ℕ → Bool} {kind : Kind} {s : S} (q : Quiet Step w special kind s) (ks : List Kind) (is : OneOf kind ks) where
  children-alike : SameChildren ks → children_among ks ≡ children_of w
  children-alike alike = sym (children-by w kind q.numbered ∙ same_of children_by (children_among ks) kind ks alike is)

  told-alike : SameAndQuiet special ks → told_by special kind ≡ told_quiet (children_among ks)
  told-alike alike = same_of (told_by special) (told_quiet (children_among ks)) kind ks alike is

  children-quiet : SameAndQuiet special ks → children_among ks ≡ children_of w
  children-quiet alike = sym (children-by w kind q.numbered ∙ ap (λ (x : Bool × List Child). x.1) (told-alike alike))

  stays : SameAndQuiet special ks → Step s s
  stays alike = q.still (by_number special w.kind kind q.numbered q.past ∙ ap (λ (x : Bool × List Child). x.0) (told-alike alike))

  module _ {r : S} where
    module _ {k : Kids} where
      -- The arm of some kinds at which something is done.
      pub acting_arm : SameChildren ks → {v : S} → Step s v → r ≡ v → k ≡ kids_by (children_among ks) w → KidsTurn Step w s r k
      unfolding kids_of
      acting_arm alike did is-r is-k =
          record { step = subst (Step s) (sym is-r) did; kids = is-k ∙ ap (λ (l : List Child). kids_by l w) (children-alike alike) }

      -- The arm of kinds at which nothing is done.
      pub plain_arm : SameAndQuiet special ks → r ≡ s → k ≡ kids_by (children_among ks) w → KidsTurn Step w s r k
      unfolding kids_of
      plain_arm alike is-r is-k =
          record { step = subst (Step s) (sym is-r) (stays alike); kids = is-k ∙ ap (λ (l : List Child). kids_by l w) (children-quiet alike) }

    -- The same in full.
    module _ {W : ℕ → S → S → Type 0} where
      pub acting_full_arm : SameChildren ks → (v : S) → Step s v → ChildrenWalked W (children_among ks) w v r → FullTurn Step W w s r
      acting_full_arm alike v did h = record { own = v; step = did; parts = subst (λ (l : List Child). ChildrenWalked W l w v r) (children-alike alike) h }

      pub plain_full_arm : SameAndQuiet special ks → ChildrenWalked W (children_among ks) w s r → FullTurn Step W w s r
      plain_full_arm alike h =
          record { own = s; step = stays alike; parts = subst (λ (l : List Child). ChildrenWalked W l w s r) (children-quiet alike) h }

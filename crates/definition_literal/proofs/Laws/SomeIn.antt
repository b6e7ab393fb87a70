-- Laws of `SomeIn`.
use mathlib.Core.Path.{◌≡◌, refl, sym, ap, ◌∙◌}
use mathlib.Core.Bool.{Bool, true, false, ◌||◌}
use mathlib.Core.List.{List}
use Prim.Native.Nat.{ℕ}
use native.Mathlib.Omega.{arith}
use lib.Dec.{eqb}
use borrow.Author.Tests.{eq-eqb}
use Rattle.base.specs.Sets.{member}
use Rattle.sheet.specs.declared.Row.{Row}
use Rattle.sheet.specs.Sheet.{is_input}
use Rattle.sheet.specs.Kinds.{is_var, is_pattern}
use Rattle.scope_state.specs.declared.Scope.{Scope}
use Rattle.scope_walk.specs.Inner.Sheets.{sheet_at}
use Rattle.sheet.specs.declared.kinds.Kind.{Kind}
use Rattle.sheet.specs.declared.kinds.Kind.TheVariants as kind
use Rattle.sheet.specs.Inner.Kinds.{KindNumbered}
use Rattle.scope_walk.proofs.Laws.Arms.{no_such_kinds}
use Rattle.scope_walk.proofs.Laws.Numbers.{number_of, by_number, OneOf, Without, none_of}
use Rattle.scope_walk.proofs.Laws.Patterns.{other_than_var}
use Rattle.definition_literal.specs.Inner.SomeIn.{IsName, NonVar}

module _ (t : List ℕ) (k : Scope) where
  module _ (w : Row) where
    -- ---- the ways out of `is_name`

    module _ (v : w.kind ≡ 6) (i : Bool) (is : i ≡ is_input (sheet_at t) w.name) where
      pub name-input : i ≡ true → IsName t k w true
      name-input p s h = sym (rw (eq-eqb w.kind 6 v, sym is, p))

      pub name_local : i ≡ false → (b : Bool) → b ≡ member k.locals.words w.name → IsName t k w b
      name_local p b e s h = rw (eq-eqb w.kind 6 v, sym is, p) (e ∙ sym (h.locals w.name))

    -- ---- and of `non_var`

    module _ (row : ℕ) where
      pub in_pattern : is_pattern w ≡ true → NonVar t k row w 0
      in_pattern p s h = sym (rw p)

      module _ (v : w.kind ≡ 6) (n : Bool) (name : IsName t k w n) where
        no_pattern : is_pattern w ≡ false
        no_pattern = ap (λ (j : ℕ). eqb j 7 || eqb j 9) v

        pub is-var : n ≡ true → NonVar t k row w 0
        is-var p s h = sym (rw (no_pattern, sym (name s h), p))

        pub is_no_var : n ≡ false → NonVar t k row w row
        is_no_var p s h = sym (rw (no_pattern, sym (name s h), p))

      -- Neither made of parts nor a variable.
      pub is-other : is_pattern w ≡ false → is_var w ≡ false → NonVar t k row w row
      is-other p v s h = sym (rw (p, v))

-- The kinds that a match leaves beside an Array and an Object.
pub other_than_pattern : {k : Kind} (w : Row) → KindNumbered w.kind k → (k ≡ kind.Array → ⊥) → (k ≡ kind.Object → ⊥) → is_pattern w ≡ false
other_than_pattern {k} w e a o =
    by_number (λ n. eqb n 7 || eqb n 9) w.kind k e (no_such_kinds w 7 9 (omega arith) (omega arith) (omega arith) (omega arith)) ∙ go k a o
  where
    go : (j : Kind) → (j ≡ kind.Array → ⊥) → (j ≡ kind.Object → ⊥) → (eqb (number_of j) 7 || eqb (number_of j) 9) ≡ false
    go kind.Array a o = absurd (a refl)
    go kind.Object a o = absurd (o refl)
    go _ a o = refl

module _ (t : List ℕ) (k : Scope) (w : Row) (row : ℕ) where
  -- One of several kinds, of which none is made of parts and none is a variable.
  pub is-part : (j : Kind) → KindNumbered w.kind j → (ks : List Kind) → Without kind.Array ks → Without kind.Object ks → Without kind.Var ks
      → OneOf j ks → NonVar t k row w row
  is-part j e ks a o v one =
      let no-array : j ≡ kind.Array → ⊥ = none_of ks a one in
      let no-object : j ≡ kind.Object → ⊥ = none_of ks o one in
      let no-var : j ≡ kind.Var → ⊥ = none_of ks v one in
      is-other t k w row (other_than_pattern w e no-array no-object) (other_than_var w e no-var)

-- Laws of `Sheets`.
use mathlib.Core.Path.{◌≡◌, refl}
use mathlib.Core.Bool.{true, false, ◌||◌}
use mathlib.Core.List.{List}
use Prim.Native.Nat.{ℕ}
use lib.Dec.{eqb}
use lib.ListN.{get_or}
use borrow.Author.Tests.{eq-eqb, ne_eqb}
use Rattle.sheet.specs.Inner.Sheet.{sheet_of}
use Rattle.sheet.specs.Sheet.{is_input, is_special}
use Rattle.scope_walk.specs.Inner.Sheets.{sheet_at}

module _ (t : List ℕ) where
  -- ---- the special names

  pub input-at : (x : ℕ) → eqb x (get_or t 6 0) ≡ is_input (sheet_at t) x
  unfolding is_input sheet_at sheet_of
  input-at x = refl

  special-at : (x : ℕ) → (eqb x (get_or t 5 0) || (is_input (sheet_at t) x || eqb x (get_or t 7 0))) ≡ is_special (sheet_at t) x
  unfolding is_special is_input sheet_at sheet_of
  special-at x = refl

  -- Each test of the three.
  module _ (x : ℕ) where
    pub is-blank : x ≡ get_or t 5 0 → true ≡ is_special (sheet_at t) x
    is-blank e = rw (eq-eqb x (get_or t 5 0) e) at (special-at x)

    module _ (not-blank : x ≡ get_or t 5 0 → ⊥) where
      pub is-input : is_input (sheet_at t) x ≡ true → true ≡ is_special (sheet_at t) x
      is-input p = rw (ne_eqb x (get_or t 5 0) not-blank, p) at (special-at x)

      pub is_data : is_input (sheet_at t) x ≡ false → eqb x (get_or t 7 0) ≡ is_special (sheet_at t) x
      is_data p = rw (ne_eqb x (get_or t 5 0) not-blank, p) at (special-at x)

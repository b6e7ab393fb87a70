-- What a test chooses.
use mathlib.Core.Path.{◌≡◌, sym}
use mathlib.Core.Bool.{Bool, true, false, cond, ◌&&◌}

module _ {A : Type 0} (x y : A) where
  -- By one test.
  module _ (a : Bool) where
    pub chosen : a ≡ true → x ≡ cond a x y
    chosen p = sym (rw p)

    pub passed_over : a ≡ false → y ≡ cond a x y
    passed_over p = sym (rw p)

  -- By two, of which the first passes.
  module _ (a b : Bool) (first : a ≡ true) where
    pub chosen_by_both : b ≡ true → x ≡ cond (a && b) x y
    chosen_by_both q = sym (rw (first, q))

    pub passed_over_second : b ≡ false → y ≡ cond (a && b) x y
    passed_over_second q = sym (rw (first, q))

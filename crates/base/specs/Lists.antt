-- Lists: tests of their elements, what a function gives at each, and the numbers of a range. Membership is a Bool here, so that it
-- computes.
-- Beside: nothing: these are common functions.
use Rattle.std.specs.Prelude.{Bool, true, false, cond, ◌&&◌, ◌||◌, List, [], ◌∷◌, ◌++◌, ℕ, zero, suc, ◌-◌, eqb}
use Rattle.std.proofs.Math.Option.{Option, none, some}

-- ---- tests of elements

module _ {A : Type 0} where
  -- Does every element pass the test?
  abbrev pub all : (A → Bool) → List A → Bool
  all f [] = true
  all f (x ∷ l) = f x && all f l

  -- The elements that pass the test, in their order.
  abbrev pub filter : (A → Bool) → List A → List A
  filter f [] = []
  filter f (x ∷ l) = cond (f x) (x ∷ filter f l) (filter f l)

-- Is n on the list?
abbrev pub elem : ℕ → List ℕ → Bool
elem n [] = false
elem n (x ∷ l) = eqb n x || elem n l

-- ---- what a function gives at each, the first, the last

module _ {A B : Type 0} where
  -- What f gives at each element, one after the other.
  abbrev pub concat_map : (A → List B) → List A → List B
  concat_map f [] = []
  concat_map f (x ∷ l) = f x ++ concat_map f l

module _ {A : Type 0} where
  -- Does an element pass the test?
  abbrev pub any : (A → Bool) → List A → Bool
  any p [] = false
  any p (x ∷ l) = p x || any p l

  -- The first element that passes the test.
  abbrev pub find : (A → Bool) → List A → Option A
  find p [] = none
  find p (x ∷ l) =
      let rest = find p l in
      cond (p x) (some x) rest

  -- The last element.
  abbrev pub last : List A → Option A
  last [] = none
  last (x ∷ []) = some x
  last (x ∷ (y ∷ l)) = last (y ∷ l)

  -- Is there a value?
  abbrev pub is_some : Option A → Bool
  is_some none = false
  is_some (some a) = true

-- ---- the numbers of a range

-- The c numbers from a up.
abbrev pub counted : ℕ → ℕ → List ℕ
counted a zero = []
counted a (suc c) = a ∷ counted (suc a) c

-- The numbers from a up that are below e, as Rust's `a..e`. No `abbrev`: between two numerals it would be written out.
unfoldable pub range : ℕ → ℕ → List ℕ
range a e = counted a (e - a)

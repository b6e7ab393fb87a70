-- Sets written out, and their members computed: each fact would fail if a definition of Sets.antt were wrong.
use mathlib.Core.Path.{◌≡◌, refl}
use mathlib.Core.Bool.{true, false}
use mathlib.Core.List.{[], ◌∷◌}
use Prim.Native.Nat.{◌+◌, ◌^◌}
use Rattle.base.specs.Lists.{all, range}
use Rattle.base.specs.Sets.{bit, member, members}
use Rattle.names.specs.Inner.Sets.{is_empty}

-- 5 is 101 in binary.
in_two_words : members (5 ∷ 1 ∷ []) ≡ 0 ∷ 2 ∷ 64 ∷ []
unfolding members member bit range
in_two_words = refl

-- The lowest and the highest bit of each word.
at_the_ends : members ((2 ^ 63 + 1) ∷ (2 ^ 63 + 1) ∷ []) ≡ 0 ∷ 63 ∷ 64 ∷ 127 ∷ []
unfolding members member bit range
at_the_ends = refl

none : members (0 ∷ 0 ∷ []) ≡ []
unfolding members member bit range
none = refl

empty : is_empty (0 ∷ 0 ∷ []) ≡ true
unfolding is_empty members member bit range
empty = refl

-- 127 is there.
not-empty : is_empty (0 ∷ 2 ^ 63 ∷ []) ≡ false
unfolding is_empty members member bit range
not-empty = refl

in_the_third_word : members (0 ∷ 0 ∷ 6 ∷ []) ≡ 129 ∷ 130 ∷ []
unfolding members member bit range
in_the_third_word = refl

past_the_words : member (5 ∷ 1 ∷ []) 128 ≡ false
unfolding member bit
past_the_words = refl

a_subset : all (member (7 ∷ 1 ∷ [])) (members (5 ∷ 1 ∷ [])) ≡ true
unfolding members member bit range
a_subset = refl

-- 64 is missing.
no_subset : all (member (7 ∷ 2 ∷ [])) (members (5 ∷ 1 ∷ [])) ≡ false
unfolding members member bit range
no_subset = refl

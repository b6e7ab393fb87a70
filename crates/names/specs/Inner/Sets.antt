-- Sets of names as lists of machine words, and what each operation does to them: all that a reader of the contracts has to believe.
-- The lists may be of any length: how many words a set has is the code's choice.
use Rattle.std.specs.Prelude.{◌≡◌, Bool, true, false, not, ◌&&◌, ◌||◌, List, [], ◌∷◌, ℕ, ◌*◌, ◌≤◌, ◌<◌, min, eqb, length}
use Rattle.base.specs.Sets.{members, member}

abbrev pub is_nil : List ℕ → Bool
is_nil [] = true
is_nil (n ∷ l) = false

-- Is there no member?
unfoldable pub is_empty : List ℕ → Bool
is_empty ws = is_nil (members ws)

-- No name from a up that is below e is a member.
abbrev pub Gap : List ℕ → ℕ → ℕ → Type 0
Gap ws a e = (n : ℕ) → a ≤ n → n < e → member ws n ≡ false

-- The set r has no member.
pub record Empty (r : List ℕ) : Type 0 where
  pub has : (n : ℕ) → member r n ≡ false

-- The name x is the only member of the set r.
pub record Only (x : ℕ) (r : List ℕ) : Type 0 where
  pub has : (n : ℕ) → member r n ≡ eqb n x

-- The set r is ws with the name x.
pub record Inserted (ws : List ℕ) (x : ℕ) (r : List ℕ) : Type 0 where
  pub has : (n : ℕ) → member r n ≡ (eqb n x || member ws n)

-- The set r is ws without the name x.
pub record Removed (ws : List ℕ) (x : ℕ) (r : List ℕ) : Type 0 where
  pub has : (n : ℕ) → member r n ≡ (not (eqb n x) && member ws n)

-- The set r has the members of a and those of b.
pub record Union (a b r : List ℕ) : Type 0 where
  pub has : (n : ℕ) → member r n ≡ (member a n || member b n)

-- The set r has the members of a that b has not.
pub record Difference (a b r : List ℕ) : Type 0 where
  pub has : (n : ℕ) → member r n ≡ (member a n && not (member b n))

-- The set r has the members of a that b has too.
pub record Intersection (a b r : List ℕ) : Type 0 where
  pub has : (n : ℕ) → member r n ≡ (member a n && member b n)

-- The number r is the lowest member from a up, or the end of the words where there is none: so always where a is the end or more.
pub record Next (ws : List ℕ) (end a r : ℕ) : Type 0 where
  pub whole : 64 * length ws ≡ end
  pub low : min a end ≤ r
  pub high : r ≤ end
  pub gap : Gap ws a r
  pub found : r < end → member ws r ≡ true

-- Walks over numbered items that wait for names. An item is ready or not by the names known, and gives names once it is taken. The plain
-- walk of the scheduler is one such walk, its items being statements; the definitions of one statement make another.
-- Beside: document 01, Order.
use Rattle.std.specs.Prelude.{Bool, true, false, not, cond, ◌&&◌, ◌||◌, ◌≡◌, List, [], ◌∷◌, ◌++◌, ℕ, zero, suc, ltb, eqb, length}
use Rattle.base.specs.Lists.{elem}

module _ (ready : (ℕ → Bool) → ℕ → Bool) (gives : ℕ → ℕ → Bool) where
  -- The names that the items on the list give.
  abbrev pub known : List ℕ → ℕ → Bool
  known [] x = false
  known (i ∷ taken) x = gives i x || known taken x

  -- Of n items, can i be taken when those on the list are? It is one of them, not taken yet, and ready.
  abbrev pub takeable : ℕ → List ℕ → ℕ → Bool
  takeable n taken i = ltb i n && (not (elem i taken) && ready (known taken) i)

  -- A pick is taken if it can be; any other is skipped and changes nothing.
  abbrev pub pick : ℕ → List ℕ → ℕ → List ℕ
  pick n taken i = cond (takeable n taken i) (taken ++ (i ∷ [])) taken

  -- What is taken, in order, after a list of picks.
  abbrev pub walk : ℕ → List ℕ → List ℕ → List ℕ
  walk n taken [] = taken
  walk n taken (i ∷ picks) = walk n (pick n taken i) picks

  -- Is none of the picks skipped?
  abbrev pub walkable : ℕ → List ℕ → List ℕ → Bool
  walkable n taken [] = true
  walkable n taken (i ∷ picks) = takeable n taken i && walkable n (taken ++ (i ∷ [])) picks

  -- The walk has ended: every pick would be skipped.
  abbrev pub Ended : ℕ → List ℕ → Type 0
  Ended n taken = (i : ℕ) → takeable n taken i ≡ false

-- Passes until one takes nothing more. At most `fuel` of them: one more than there are items is enough.
abbrev pub rounds : (List ℕ → List ℕ) → ℕ → List ℕ → List ℕ
rounds pass zero taken = taken
rounds pass (suc fuel) taken =
    let after = pass taken in
    let rest = rounds pass fuel after in
    cond (eqb (length after) (length taken)) after rest

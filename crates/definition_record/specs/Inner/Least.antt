-- A statement that recorded nothing gets a definition of the empty name. Its definitions stand behind those of the statements before it.
use Rattle.std.specs.Prelude.{◌≡◌, Bool, true, false, List, ℕ, ◌*◌, ◌≤◌, ◌<◌, get_or}
use Rattle.names_width.specs.Inner.Widths.{row_words}
use Rattle.definition.specs.States.{sound}
use Rattle.definition.specs.Using.{at_least_one}
use Rattle.definition_state.specs.declared.Progress.{Progress}
use Rattle.definition_state.specs.Inner.Faults.{meaning}
use Rattle.definition_state.specs.Inner.Frames.{guarded, Runs}

-- ---- the rows of a statement

module _ (v : ℕ) (i : ℕ) (w : List ℕ) where
  -- No row from a on that is below e is the statement's.
  abbrev pub NoRow : ℕ → ℕ → Type 0
  NoRow a e = (j : ℕ) → a ≤ j → j < e → get_or w (v * j) 0 ≡ i → ⊥

  -- Whether there is one.
  pub record Looked (a e : ℕ) (r : Bool) : Type 0 where
    pub found : r ≡ true → (j : ℕ) × (a ≤ j) × (j < e) × (get_or w (v * j) 0 ≡ i)
    pub missed : r ≡ false → NoRow a e

-- ---- and the code

-- Where no row in front of the first is the statement's; after a fault nothing is asked of them.
abbrev pub LeastOne : ℕ → ℕ → Progress → List ℕ → Progress → List ℕ → Type 0
LeastOne i first p w r w' =
    (meaning p.fault ≡ sound → (j : ℕ) → j < first → get_or w (row_words p.width * j) 0 ≡ i → ⊥) → (t fs : List ℕ) → Runs t (guarded (at_least_one i)) p fs w r fs w'

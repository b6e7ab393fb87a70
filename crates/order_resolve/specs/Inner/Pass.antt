-- One pass over definitions, in the order of a list: a definition whose used names are all in the set puts its name in; any other waits.
use Rattle.std.specs.Prelude.{◌≡◌, Bool, true, false, not, cond, ◌||◌, List, [], ◌∷◌, ℕ, eqb}
use Rattle.base.specs.Lists.{all}
use Rattle.base.specs.Sets.{member, members}
use Rattle.order.specs.Definitions.{Definition, of_statement, resolves, defines}
use Rattle.order.specs.Call.{row_count, definitions}
use Rattle.order_rows.specs.Inner.Links.{chain_of}
use Rattle.order_resolve.specs.declared.Passed.{Passed}
use Rattle.order_resolve.specs.declared.Passed.TheVariants.{Resolved, Grew, Stuck}

-- The set after one definition.
abbrev pub gain : (ℕ → Bool) → Definition → ℕ → Bool
gain S d = cond (all S d.used) (λ x. eqb x d.var || S x) S

-- The set after the pass.
abbrev pub gather : List Definition → (ℕ → Bool) → ℕ → Bool
gather [] S = S
gather (d ∷ rest) S = gather rest (gain S d)

-- Does a definition wait?
abbrev pub waits : List Definition → (ℕ → Bool) → Bool
waits [] S = false
waits (d ∷ rest) S = not (all S d.used) || waits rest (gain S d)

-- Has `seen` a member that `start` lacks?
abbrev pub grows : List ℕ → List ℕ → Bool
grows start seen = not (all (member start) (members seen))

-- What a pass comes to, by whether a definition waits and whether there is a name more than before.
abbrev pub pass_of : Bool → Bool → Passed
pass_of waiting grew = cond waiting (cond grew Grew Stuck) (Resolved grew)

-- What `pass` answers for the definitions of statement s, and the set that it leaves.
pub record Passes (w : ℕ) (ws : List ℕ) (s : ℕ) (start seen : List ℕ) (p : Passed) : Type 0 where
  pub gathered : (x : ℕ) → member seen x ≡ gather (chain_of w ws s (row_count w ws)) (member start) x
  pub came-to : p ≡ pass_of (waits (chain_of w ws s (row_count w ws)) (member start)) (grows start seen)

-- What `try_statement` answers: do the definitions of statement s resolve from the names known; if so, what is known then, and if not, the same.
pub record Tries (w : ℕ) (ws : List ℕ) (s : ℕ) (known : List ℕ) (resolved : Bool) (after : List ℕ) : Type 0 where
  pub says : resolved ≡ resolves (member known) (of_statement s (definitions w ws))
  pub knows : resolved ≡ true → (x : ℕ) → member after x ≡ (defines (definitions w ws) s x || member known x)
  pub stays : resolved ≡ false → after ≡ known

-- The scheduler's state: what is placed, in sets and in their order.
use Rattle.std.specs.Prelude.{◌≡◌, true, false, not, ◌&&◌, List, ℕ, ◌≤◌, ◌<◌, length, take, Option, MatchOption}
use Rattle.base.specs.Limits as limits
use Rattle.base.specs.Lists.{elem}
use Rattle.base.specs.Sets.{member}
use Rattle.order.specs.Walk.{known, takeable}
use Rattle.order.specs.Inner.Count.{AddsUp}
use Rattle.order.specs.Definitions.{Definition, of_statement, some, defines, ready}
use Rattle.order_place.specs.declared.State.{State}

-- From a up and below b, no member of `own` is worth a try.
abbrev pub Untried : List ℕ → List ℕ → ℕ → ℕ → Type 0
Untried own idle a b = (i : ℕ) → a ≤ i → i < b → (member own i && not (member idle i)) ≡ false

-- The number i is the lowest member of `own`, from a up, that is not idle.
pub record Untired (own idle : List ℕ) (a i : ℕ) : Type 0 where
  pub low : a ≤ i
  pub gap : Untried own idle a i
  pub found : (member own i && not (member idle i)) ≡ true

-- What is tried next: that number, or none where there is none.
abbrev pub NextTry : List ℕ → List ℕ → ℕ → Option ℕ → Type 0
NextTry own idle a r = MatchOption r (Untried own idle a limits.most_statements) (λ i. Untired own idle a i)

-- The order so far: the first entries.
abbrev pub order_of : State → List ℕ
order_of s = take s.count s.order

-- The words have the names that the statements of an order define.
pub record Knows (defs : List Definition) (words o : List ℕ) : Type 0 where
  pub long : length words ≡ 8
  pub has : (x : ℕ) → member words x ≡ known (ready defs) (defines defs) o x

-- The state has an order of `count` statements below n, each once, and its sets go with that order. `idle` has statements that a try would
-- not place: all that are placed, and some that failed since the last placing.
pub record HoldsPlaced (defs : List Definition) (n : ℕ) (s : State) : Type 0 where
  pub long : length s.order ≡ limits.most_statements
  pub filled : s.count ≤ limits.most_statements
  pub adds_up : AddsUp n (order_of s)
  pub taken : (i : ℕ) → member s.placed.words i ≡ elem i (order_of s)
  pub rests : (i : ℕ) → member s.placed.words i ≡ true → member s.idle.words i ≡ true
  pub idles : (i : ℕ) → member s.idle.words i ≡ true → takeable (ready defs) (defines defs) n (order_of s) i ≡ false
  pub knows : Knows defs s.known.words (order_of s)

-- Statement i, one of n, waits for a try: it has definitions, and is not placed.
pub record Waiting (defs : List Definition) (n : ℕ) (s : State) (i : ℕ) : Type 0 where
  pub below : i < n
  pub has : some (of_statement i defs) ≡ true
  pub unplaced : member s.placed.words i ≡ false

-- The state after a step whose order is o.
pub record After (defs : List Definition) (n : ℕ) (o : List ℕ) (s : State) : Type 0 where
  pub holds : HoldsPlaced defs n s
  pub now_is : order_of s ≡ o

-- A definition, when the definitions of a statement resolve, and the plain walk: statements are taken in any sequence of picks, each
-- once it resolves.
-- Beside: document 01, Definition and Order (Resolving, Plain walk); scheduler.rs, `Definition`.
use Rattle.std.specs.Prelude.{Bool, ◌||◌, true, false, ◌&&◌, ℕ, suc, ◌<◌, eqb, length, get_or}
use mathlib.Core.List.{List, [], Memᴰ, ◌∷◌}
use Rattle.base.specs.Lists.{all, filter, counted}
use Rattle.order.specs.Walk.{walk, rounds, walkable, Ended}

-- ---- definitions

-- Statement `statement` defines the name `var` from the names `used`. Name 0 is the empty name.
pub record Definition : Type 0 where
  pub statement : ℕ
  pub var : ℕ
  pub used : List ℕ

-- The definitions of one statement, in their order.
abbrev pub of_statement : ℕ → List Definition → List Definition
of_statement i defs = filter (λ (d : Definition). eqb d.statement i) defs

-- Every defined name is below m.
abbrev pub Named : List Definition → ℕ → Type 0
Named defs m = (d : Definition) → Memᴰ d defs → d.var < m

-- Stands at a place where a list of definitions has none.
abbrev pub no_definition : Definition
no_definition = record { statement = 0; var = 0; used = [] }

-- ---- resolving: a definition resolves when each used name is known or defined by a resolved definition of its statement.
-- The definitions of a statement are the items of a walk, by their places on the list: K are the names known, and what the walk knows
-- are the names that resolved definitions define.
module _ (K : ℕ → Bool) (defs : List Definition) where
  abbrev pub resolvable : (ℕ → Bool) → ℕ → Bool
  resolvable L j = all (λ x. K x || L x) (get_or defs j no_definition).used

  abbrev pub defined_at : ℕ → ℕ → Bool
  defined_at j x = eqb (get_or defs j no_definition).var x

  -- The places of the definitions that resolve, in a sequence in which they do: passes over the list until one adds nothing.
  abbrev pub resolved : List ℕ
  resolved =
      let n = length defs in
      rounds (λ sequence. walk resolvable defined_at n sequence (counted 0 n)) (suc n) []

-- Do all definitions on the list resolve when the names K are known?
unfoldable pub resolves : (ℕ → Bool) → List Definition → Bool
resolves K defs = eqb (length (resolved K defs)) (length defs)

-- Has the list a definition?
abbrev pub some : List Definition → Bool
some [] = false
some (d ∷ defs) = true

-- ---- the plain walk

-- Does statement i define the name x?
abbrev pub defines : List Definition → ℕ → ℕ → Bool
defines [] i x = false
defines (d ∷ defs) i x = (eqb d.statement i && eqb d.var x) || defines defs i x

module _ (defs : List Definition) where
  -- A statement is reached when it has definitions and all of them resolve; its names are then known.
  abbrev pub ready : (ℕ → Bool) → ℕ → Bool
  ready K i = some (of_statement i defs) && resolves K (of_statement i defs)

  -- What the picks take of n statements, in order.
  abbrev pub plain_walk : ℕ → List ℕ → List ℕ
  plain_walk n picks = walk ready (defines defs) n [] picks

  -- After such a walk, would every pick be skipped?
  abbrev pub WalkEnded : ℕ → List ℕ → Type 0
  WalkEnded n taken = Ended ready (defines defs) n taken

  -- An order can be walked when none of its picks is skipped.
  abbrev pub can_be_walked : ℕ → List ℕ → Bool
  can_be_walked n order = walkable ready (defines defs) n [] order

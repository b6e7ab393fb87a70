-- The turn rule depends on which definitions are listed: neither on their order nor on repeats.
use mathlib.Core.Path.{◌≡◌, refl, sym, ap, ap₂, ◌∙◌}
use mathlib.Core.Bool.{Bool, true, cond, ◌&&◌}
use mathlib.Core.List.{List, [], ◌∷◌, Memᴰ}
use Prim.Native.Nat.{ℕ, suc}
use lib.Dec.{eqb}
use lib.ListN.{length}
use Rattle.base.proofs.Laws.Truth.{bool_ext}
use Rattle.base.specs.Lists.{elem, filter, range}
use Rattle.order.specs.Walk.{walk, rounds}
use Rattle.order.specs.Definitions.{Definition, of_statement, some, defines, ready}
use Rattle.order.proofs.Laws.Statements.{mem_statement, statement_mem, mem_some, some_mem, by-defines, defines-by}
use Rattle.order.proofs.Laws.Resolving.{resolves-same}
use Rattle.order.specs.Turns.{placed, order, reached}
use Rattle.order.specs.Inner.Orders.{turn_order, followed_order, round_order, placed_order}
use Rattle.order.proofs.Laws.Labels.{placed_by_order, order_by_order, reached_by_order}

-- The definitions of a are on b.
abbrev pub AllAmong : List Definition → List Definition → Type 0
AllAmong a b = (d : Definition) → Memᴰ d a → Memᴰ d b

of_within : (a b : List Definition) → AllAmong a b → (i : ℕ) → AllAmong (of_statement i a) (of_statement i b)
of_within a b up i d m = let s = statement_mem i a m in mem_statement i b (up d s.0) s.1

some-within : (a b : List Definition) → AllAmong a b → some a ≡ true → some b ≡ true
some-within a b up h = let s = some_mem a h in mem_some b (up s.0 s.1)

defines-within : (a b : List Definition) → AllAmong a b → (i x : ℕ) → defines a i x ≡ true → defines b i x ≡ true
defines-within a b up i x h =
    let d = defines-by a i x h in
    by-defines b i x (record { listed = up d.0 d.1.listed; statement = d.1.statement; var = d.1.var })

module _ (a b : List Definition) (up : AllAmong a b) (down : AllAmong b a) where
  same-ready : ready a ≡ ready b
  same-ready j K i =
      ap₂ ◌&&◌ (bool_ext (some (of_statement i a)) (some (of_statement i b)) (some-within _ _ (of_within a b up i)) (some-within _ _ (of_within b a down i)))
      (resolves-same K (of_statement i a) (of_statement i b) (of_within a b up i) (of_within b a down i)) j

  same-defines : defines a ≡ defines b
  same-defines j i x = bool_ext (defines a i x) (defines b i x) (defines-within a b up i x) (defines-within b a down i x) j

  module _ (n : ℕ) where
    same_turn : (x : ℕ) (o : List ℕ) → turn_order a n x o ≡ turn_order b n x o
    same_turn x o j = walk (same-ready j) (same-defines j) n o (filter (λ i. same-defines j i x) (range 0 n))

    same-followed : (o : List ℕ) (x : ℕ) → followed_order a n o x ≡ followed_order b n o x
    same-followed o x =
        ap₂ (λ (own more : List ℕ). cond (eqb (length own) (length o)) own more) (same_turn x o)
        (ap (turn_order a n 0) (same_turn x o) ∙ same_turn 0 (turn_order b n x o))

    same-round : (names o : List ℕ) → round_order a n names o ≡ round_order b n names o
    unfolding round_order
    same-round [] o = refl
    same-round (x ∷ names) o = ap (round_order a n names) (same-followed o x) ∙ same-round names (followed_order b n o x)

    pub same-placed_order : (m : ℕ) → placed_order a n m ≡ placed_order b n m
    unfolding placed_order
    same-placed_order m j = rounds (λ o. same-round (range 0 m) o j) (suc n) (same_turn 0 [] j)

    pub same-placed : (m : ℕ) → placed a n m ≡ placed b n m
    same-placed m =
        placed_by_order a n m ∙ ap (λ (o : List ℕ). eqb (length o) n) (same-placed_order m) ∙ sym (placed_by_order b n m)

    pub same-order : (m : ℕ) → order a n m ≡ order b n m
    same-order m =
        order_by_order a n m ∙ ap₂ (λ (p : Bool) (o : List ℕ). cond p o (range 0 n)) (same-placed m) (same-placed_order m) ∙ sym (order_by_order b n m)

    pub same-reached : (m i : ℕ) → reached a n m i ≡ reached b n m i
    same-reached m i = reached_by_order a n m i ∙ ap (elem i) (same-placed_order m) ∙ sym (reached_by_order b n m i)

-- Demand 3: how the rows of an answer are read, and what they mean for every plain walk.
-- Beside: document 01, Order.
use mathlib.Core.List.{List, [], ◌∷◌, map, Memᴰ, ◌++◌}
use Rattle.std.specs.Prelude.{◌⊎◌, ◌↔◌, ℕ, suc, ◌-◌, get_or, length, replicate, ◌≡◌, true}
use Rattle.std.proofs.Math.Option.{Option, none, some}
use Rattle.base.specs.Lists.{elem, range, concat_map}
use Rattle.order.specs.Definitions.{Definition, plain_walk, WalkEnded, can_be_walked}
use Rattle.order.specs.Turns.{statements, placements, order, mark}
use Rattle.order.specs.Relisting.{Bijection, Permutes, Relisted, OrderOfAll}
use Rattle.sheet.specs.Sheet.{sheet_in, name_bound}
use Rattle.definition.specs.States.{QuerySchedule}
use Rattle.definition.specs.RustWay.{schedule_in}
use Rattle.answer.specs.Text.{query_rows, place_rows, set_rows, section}
use Rattle.promises.specs.Demand2.{text}

-- The mark placed, in the row `query placed input` of a query.
abbrev pub placed_in : List (List ℕ) → ℕ
placed_in rows = get_or (get_or rows 0 []) 1 0

-- The order, in the rows `query place index reached` of a query: their indexes.
abbrev pub order_in : List (List ℕ) → List ℕ
order_in rows = map (λ row. get_or row 2 0) rows

-- The rows `query set name line col` of query q list x as a local or as unscoped.
abbrev pub Listed : ℕ → ℕ → List (List ℕ) → Type 0
Listed q x rows =
    ((l c : ℕ) × Memᴰ (q ∷ 1 ∷ x ∷ l ∷ c ∷ []) rows) ⊎ Memᴰ (q ∷ 2 ∷ x ∷ 0 ∷ 0 ∷ []) rows

-- Of query q, which the analysis left with the schedule a.
pub record Meaning (q : ℕ) (a : QuerySchedule) : Type 0 where
  -- However its statements are relisted by π, its names exchanged one to one by ρ (the empty name with them, and to any numbers), its definitions
  -- listed and repeated, and whatever is picked until nothing can be taken: the marks in its rows are those of the statements that the plain walk
  -- over the exchanged list took.
  pub marks : (π ρ : Bijection) (others : List Definition) → Permutes a.count π → Relisted π.to ρ.to a.definitions others
      → (picks : List ℕ) → WalkEnded others a.count (plain_walk others a.count picks)
      → place_rows q (some a)
      ≡ map (λ k. let i = get_or (order a.definitions a.count name_bound) k 0 in
      q ∷ k ∷ i ∷ mark (elem (π.to i) (plain_walk others a.count picks)) ∷ []) (range 0 a.count)
  -- It is placed in its row exactly when some order of all its statements, each once, can be walked.
  pub placed_exactly : (placed_in (query_rows q (some a)) ≡ 1)
      ↔ ((o : List ℕ) × OrderOfAll a.count o × (can_be_walked a.definitions a.count o ≡ true))
  -- The order in its rows is then such a one, that of the turns.
  pub order_of_turns : placed_in (query_rows q (some a)) ≡ 1
      → (order_in (place_rows q (some a)) ≡ statements (placements a.definitions a.count name_bound))
      × OrderOfAll a.count (order_in (place_rows q (some a)))
      × (can_be_walked a.definitions a.count (order_in (place_rows q (some a))) ≡ true)
  -- Otherwise it is the written one.
  pub order_as_written : placed_in (query_rows q (some a)) ≡ 0 → order_in (place_rows q (some a)) ≡ range 0 a.count
  -- Every name in what it recorded is the empty one, or listed in its rows as local or unscoped.
  pub own_names_listed : (d : Definition) → Memᴰ d a.definitions
      → ((d.var ≡ 0) ⊎ Listed q d.var (set_rows q (some a))) × ((x : ℕ) → elem x d.used ≡ true → Listed q x (set_rows q (some a)))

-- A query that is never analysed has placed 2, input 0 and no other row.
pub record NoRows (q : ℕ) (o : Option QuerySchedule) : Type 0 where
  pub placed_2 : query_rows q o ≡ (q ∷ 2 ∷ 0 ∷ []) ∷ []
  pub no_place : place_rows q o ≡ []
  pub no_set : set_rows q o ≡ []

-- The lent bytes are a text with zeros behind it. Its rows are these, in its three sections, for the queries 1 to the last: each query that is
-- analysed has its meaning, nested ones included, and any other has no rows but one.
pub record Demand3 (s : List ℕ) (room : ℕ) (answer : List ℕ) : Type 0 where
  pub the_text : answer ≡ text s ++ replicate (room - length (text s)) 0
  pub the_rows : (let of : (ℕ → Option QuerySchedule → List (List ℕ)) → List (List ℕ) = λ rows.
      concat_map (λ q. rows q (schedule_in (sheet_in s) q)) (range 1 (suc (length (sheet_in s).queries))) in
      text s ≡ section "query placed input" (of query_rows) ++ (section "query place index reached" (of place_rows) ++ section "query set name line col" (of set_rows)))
  pub analysed : (q : ℕ) (a : QuerySchedule) → schedule_in (sheet_in s) q ≡ some a → Meaning q a
  pub never : (q : ℕ) → schedule_in (sheet_in s) q ≡ none → NoRows q (schedule_in (sheet_in s) q)

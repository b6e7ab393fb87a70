-- A turn, try by try: what is left of it at each statement that is worth a try.
use mathlib.Core.Path.{◌≡◌, refl, sym, ap, ◌∙◌}
use mathlib.Core.Bool.{Bool, true, false, not, ◌&&◌, and-false, and-true}
use mathlib.Core.List.{List}
use mathlib.Core.Logic.{◌⊎◌, inl, inr, ⊎_elim}
use Prim.Native.Nat.{ℕ, zero, suc, ◌+◌, ◌-◌, ◌≤◌, ◌<◌}
use native.Mathlib.Omega.{arith}
use borrow.Author.Tests.{not-true}
use Rattle.base.specs.Limits as limits
use Rattle.base.proofs.Laws.Truth.{bool_cases, lt_cases, not-both, and_left, and_right}
use Rattle.base.specs.Lists.{filter, range}
use Rattle.base.proofs.Laws.Ranges.{range-nil, range_cons}
use Rattle.base.specs.Sets.{member}
use Rattle.order.specs.Walk.{takeable, pick, walk}
use Rattle.order.proofs.Laws.Laws.{pick_skipped}
use Rattle.order.specs.Definitions.{Definition, of_statement, defines, ready}
use Rattle.order.proofs.Laws.Statements.{mem_statement, mem_some, defines-by}
use Rattle.order.specs.Inner.Orders.{turn_order}
use Rattle.order.specs.Call.{statement_at, definitions}
use Rattle.order_rows.proofs.Laws.RowLaws.{listed-row}
use Rattle.order_rows.specs.Inner.Masks.{mask_at, Masked}
use Rattle.order_rows.proofs.Laws.DefinesLaws.{defines_in-all}
use Rattle.names.specs.Inner.Names.{Statements}
use Rattle.order_place.specs.Inner.Sound.{SoundRows}
use Rattle.order_place.specs.Inner.State.{Untried, Untired, order_of, HoldsPlaced, Waiting, After}
use Rattle.order_place.specs.declared.State.{State}

-- A walk along the numbers from a up that pass a test may start at b, if none before b both passes and can be taken.
walk_skip : (ready : (ℕ → Bool) → ℕ → Bool) (gives : ℕ → ℕ → Bool) (n : ℕ) (f : ℕ → Bool) (o : List ℕ) (a b e : ℕ) → a ≤ b
    → ((j : ℕ) → a ≤ j → j < b → (f j && takeable ready gives n o j) ≡ false)
    → walk ready gives n o (filter f (range a e)) ≡ walk ready gives n o (filter f (range b e))
walk_skip ready gives n f o a b e h skipped = go (b - a) a (omega arith) (omega arith)
  where
    left : ℕ → List ℕ
    left x = walk ready gives n o (filter f (range x e))

    past : (x : ℕ) → x < e → (f x && takeable ready gives n o x) ≡ false → (f x ≡ true) ⊎ (f x ≡ false) → left x ≡ left (x + 1)
    past x l s (inl p) =
        rw (range_cons x e l, p)
        (ap (λ (q : List ℕ). walk ready gives n q (filter f (range (x + 1) e))) (pick_skipped ready gives n o x (rw p at s)))
    past x l s (inr p) = rw (range_cons x e l, p)

    go : (c x : ℕ) → a ≤ x → x + c ≡ b → left x ≡ left b
    go zero x h s = let q : x ≡ b = omega arith in ap left q
    go (suc c) x h s =
        ⊎_elim (λ (l : x < e). past x l (skipped x h (omega arith)) (bool_cases (f x)) ∙ go c (x + 1) (omega arith) (omega arith))
        (λ (l : e ≤ x). rw (range-nil x e l, range-nil b e (omega arith))) (lt_cases x e)

-- In a turn of the name x, at the statements from a up: the walk along those that define it makes `result`.
pub record Turning (defs : List Definition) (n x : ℕ) (result : List ℕ) (s : State) (a : ℕ) : Type 0 where
  pub holds : HoldsPlaced defs n s
  pub high : a ≤ limits.most_statements
  pub left : walk (ready defs) (defines defs) n (order_of s) (filter (λ j. defines defs j x) (range a n)) ≡ result

pub turning_first : {defs : List Definition} {n : ℕ} (x : ℕ) {s : State} → HoldsPlaced defs n s → Turning defs n x (turn_order defs n x (order_of s)) s 0
turning_first x h = record { holds = h; high = omega arith; left = refl }

module _ {w : ℕ} {ws first next : List ℕ} {masks : List Statements} {names : List ℕ} {n : ℕ} (sound : SoundRows w ws first next n)
    (masked : Masked w ws masks names) {x : ℕ} (named : x < limits.per_name) where
  abbrev defs : List Definition
  defs = definitions w ws

  sets : (i : ℕ) → member (mask_at masks x) i ≡ defines defs i x
  sets i = masked.masked x named i ∙ defines_in-all w ws i x

  module _ {s : State} {result : List ℕ} {a : ℕ} (turn : Turning defs n x result s a) where
    -- What is no untried member does not define the name, or is idle.
    passed : (b : ℕ) → a ≤ b → Untried (mask_at masks x) s.idle.words a b
        → walk (ready defs) (defines defs) n (order_of s) (filter (λ j. defines defs j x) (range b n)) ≡ result
    passed b h none =
        sym (walk_skip (ready defs) (defines defs) n (λ j. defines defs j x) (order_of s) a b n h
        (λ j low high. skipped j (none j low high) (bool_cases (member s.idle.words j)))) ∙ turn.left
      where
        skipped : (j : ℕ) → (member (mask_at masks x) j && not (member s.idle.words j)) ≡ false
            → (member s.idle.words j ≡ true) ⊎ (member s.idle.words j ≡ false)
            → (defines defs j x && takeable (ready defs) (defines defs) n (order_of s) j) ≡ false
        skipped j out (inl idle) = rw (turn.holds.idles j idle, and-false (defines defs j x))
        skipped j out (inr active) = rw (sym (sets j) ∙ sym (and-true (member (mask_at masks x) j)) ∙ (rw active at out))

    -- Past the last statement nothing is left.
    pub turning_done : Untried (mask_at masks x) s.idle.words a limits.most_statements → After defs n result s
    turning_done none = record {
      holds = turn.holds;
      now_is = rw (range-nil limits.most_statements n sound.few) at (passed limits.most_statements turn.high none);
    }

    module _ {i : ℕ} (tried : Untired (mask_at masks x) s.idle.words a i) where
      here : defines defs i x ≡ true
      here = sym (sets i) ∙ and_left _ _ tried.found

      -- A statement that defines a name and is not idle may be tried.
      pub is_waiting : Waiting defs n s i
      is_waiting =
          let by = defines-by defs i x here in
          let row = listed-row w ws by.1.listed in
          let is : statement_at w ws row.0 ≡ i = ap (λ (e : Definition). e.statement) row.2 ∙ by.1.statement in
          let active = not-true _ (and_right (member (mask_at masks x) i) _ tried.found) in
          record {
            below = omega (arith, sound.stated row.0 row.1);
            has = mem_some (of_statement i defs) (mem_statement i defs by.1.listed by.1.statement);
            unplaced =
                ⊎_elim (λ (p : member s.placed.words i ≡ true). absurd (not-both (turn.holds.rests i p) active))
                (λ (p : member s.placed.words i ≡ false). p) (bool_cases (member s.placed.words i));
          }

      -- After its try the turn goes on above it.
      pub turning_next : {s' : State} → After defs n (pick (ready defs) (defines defs) n (order_of s) i) s' → Turning defs n x result s' (i + 1)
      turning_next after = record {
        holds = after.holds;
        high = omega (arith, is_waiting.below, sound.few);
        left = rw after.now_is (rw (range_cons i n is_waiting.below, here) at (passed i tried.low tried.gap));
      }

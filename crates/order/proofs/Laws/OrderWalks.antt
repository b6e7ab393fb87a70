-- Turns, rounds and all placements are walks; all placements are a walk that has ended.
use mathlib.Core.Path.{◌≡◌, refl, sym, ap, ◌∙◌}
use mathlib.Core.Bool.{Bool, true, ◌||◌}
use mathlib.Core.List.{List, [], ◌∷◌}
use mathlib.Core.Logic.{⊎_elim}
use Prim.Native.Nat.{ℕ, suc, ◌<◌}
use native.Mathlib.Omega.{arith}
use lib.Dec.{eqb}
use lib.ListN.{length}
use borrow.Author.Tests.{eqb-true}
use Rattle.base.proofs.Laws.Truth.{eq_cases, not-both, and_intro, and_left, or_left, or_right, or_cases}
use Rattle.base.specs.Lists.{elem, range}
use Rattle.base.proofs.Laws.Lists.{elem-filter}
use Rattle.base.proofs.Laws.Members.{elem-append}
use Rattle.base.proofs.Laws.Ranges.{elem-range}
use Rattle.order.proofs.Laws.Count.{nil_adds_up}
use Rattle.order.proofs.Laws.Walked.{Walked, walked_trans, walked_adds_up}
use Rattle.order.proofs.Laws.Rounds.{Sweeps, rounds-ended, rounds-walked}
use Rattle.order.specs.Definitions.{Definition, of_statement, Named, defines, ready, WalkEnded}
use Rattle.order.proofs.Laws.Statements.{statement_mem, some_mem, by-defines}
use Rattle.order.specs.Turns.{defining}
use Rattle.order.specs.Inner.Orders.{turn_order, followed_order, round_order, placed_order}
use Rattle.order.proofs.Laws.OrderLaws.{followed_still, followed-more}

module _ (defs : List Definition) (n : ℕ) where
  -- A walk makes l of o, and picks every statement that defines a name in S.
  record Tried (S : ℕ → Bool) (o l : List ℕ) : Type 0 where
    walked : Walked (ready defs) (defines defs) n o l
    meets : (x : ℕ) → S x ≡ true → (i : ℕ) → i < n → defines defs i x ≡ true → elem i walked.picks ≡ true

  -- What is tried first and what is tried then is tried together.
  tried_then : {S T : ℕ → Bool} {o l k : List ℕ} → Tried S o l → Tried T l k → Tried (λ x. S x || T x) o k
  unfolding walked_trans
  tried_then {S} {T} v w = record {
    walked = walked_trans v.walked w.walked;
    meets = λ x h i l d.
        elem-append i v.walked.picks w.walked.picks
        ∙ ⊎_elim (λ (s : S x ≡ true). or_left _ _ (v.meets x s i l d))
        (λ (t : T x ≡ true). or_right (elem i v.walked.picks) _ (w.meets x t i l d)) (or_cases _ _ h);
  }

  -- A turn tries the statements of its name, followed or not, and a round those of its names.
  turn_tried : (x : ℕ) (o : List ℕ) → Tried (λ y. eqb y x) o (turn_order defs n x o)
  turn_tried x o = record {
    walked = record { picks = defining defs n x; along = refl };
    meets = λ y q i l d.
        elem-filter (λ j. defines defs j x) i (range 0 n)
        ∙ and_intro _ _ (ap (defines defs i) (sym (eqb-true y x q)) ∙ d) (elem-range i 0 n (omega arith) l);
  }

  followed_tried : (o : List ℕ) (x : ℕ) → Tried (λ y. eqb y x) o (followed_order defs n o x)
  followed_tried o x =
      let own = turn_order defs n x o in
      let both = tried_then (turn_tried x o) (turn_tried 0 own) in
      ⊎_elim (λ (e : length own ≡ length o). rw (followed_still defs n o x e) (turn_tried x o))
      (λ (ne : length own ≡ length o → ⊥). rw (followed-more defs n o x ne)
      (record { walked = both.walked; meets = λ y q. both.meets y (or_left _ _ q) }))
      (eq_cases (length own) (length o))

  round_tried : (names o : List ℕ) → Tried (λ y. elem y names) o (round_order defs n names o)
  unfolding round_order
  round_tried [] o = record { walked = record { picks = []; along = refl }; meets = λ x h. absurd (not-both h refl) }
  round_tried (x ∷ names) o = tried_then (followed_tried o x) (round_tried names (followed_order defs n o x))

  -- Turns, followed turns, rounds and all placements are walks: they only grow (`walked-length`), and keep the count (`walked_adds_up`).
  pub turn-walked : (x : ℕ) (o : List ℕ) → Walked (ready defs) (defines defs) n o (turn_order defs n x o)
  turn-walked x o = (turn_tried x o).walked

  pub round-walked : (names o : List ℕ) → Walked (ready defs) (defines defs) n o (round_order defs n names o)
  round-walked names o = (round_tried names o).walked

  pub placed-walked : (m : ℕ) → Walked (ready defs) (defines defs) n [] (placed_order defs n m)
  unfolding placed_order
  placed-walked m =
      walked_trans (turn-walked 0 [])
      (rounds-walked (ready defs) (defines defs) n (round_order defs n (range 0 m)) (round-walked (range 0 m)) (suc n)
      (turn_order defs n 0 []))

  module _ (m : ℕ) (named : Named defs m) where
    -- A statement that can be ready defines a name, and a round tries the statements of all names.
    round_sweeps : (o : List ℕ) → Sweeps (ready defs) (defines defs) n (round_order defs n (range 0 m)) o
    round_sweeps o = record {
      walked = (round_tried (range 0 m) o).walked;
      meets = λ K i h r.
          let d = some_mem (of_statement i defs) (and_left _ _ r) in
          let s = statement_mem i defs d.1 in
          (round_tried (range 0 m) o).meets d.0.var (elem-range _ 0 m (omega arith) (named d.0 s.0)) i h
          (by-defines defs i _ (record { listed = s.0; statement = s.1; var = refl }));
    }

    -- After all placements every pick would be skipped.
    pub placed-ended : WalkEnded defs n (placed_order defs n m)
    unfolding placed_order
    placed-ended =
        let o = turn_order defs n 0 [] in
        let s = walked_adds_up (turn-walked 0 []) (nil_adds_up n) in
        rounds-ended (ready defs) (defines defs) n (round_order defs n (range 0 m)) round_sweeps (suc n) o s (omega arith)

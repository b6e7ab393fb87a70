-- A try of a statement: what decides it, and the state after it.
use mathlib.Core.Path.{◌≡◌, sym, ap, ap₂, ◌∙◌, fun_ext}
use mathlib.Core.Bool.{Bool, true, false, ◌||◌, and-false}
use mathlib.Core.List.{List, [], ◌∷◌, ◌++◌}
use mathlib.Core.Logic.{⊎_elim}
use Prim.Native.Nat.{ℕ, ◌+◌, ◌≤◌, ◌<◌}
use native.Mathlib.Numerals.{add-one}
use native.Mathlib.Omega.{arith}
use lib.Dec.{ltb, eqb}
use lib.ListN.{length, take, set, length-set}
use lib.Seq.{take-suc-set}
use borrow.Author.Tests.{eqb-true, lt-ltb}
use Rattle.base.proofs.Laws.Truth.{lt_cases, not-both, or_cases}
use Rattle.base.specs.Lists.{elem}
use Rattle.base.proofs.Laws.Members.{elem-snoc}
use Rattle.base.specs.Sets.{member}
use Rattle.names.specs.Inner.Sets.{Inserted}
use Rattle.names.proofs.Laws.Laws.{inserted_keeps}
use Rattle.order.specs.Walk.{takeable, pick}
use Rattle.order.proofs.Laws.Count.{snoc_adds_up, long_has_all}
use Rattle.order.proofs.Laws.Laws.{known-snoc, pick-taken, pick_skipped}
use Rattle.order.specs.Definitions.{Definition, of_statement, resolves, defines, ready}
use Rattle.base.specs.Limits as limits
use Rattle.order_place.specs.Inner.State.{order_of, HoldsPlaced, Waiting, After}
use Rattle.order_place.proofs.Laws.StateLaws.{state_order_length}
use Rattle.order_place.specs.declared.State.{State}

module _ {defs : List Definition} {n : ℕ} {s : State} (few : n ≤ limits.most_statements) (h : HoldsPlaced defs n s) {i : ℕ} (waits : Waiting defs n s i) where
  new : elem i (order_of s) ≡ false
  new = sym (h.taken i) ∙ waits.unplaced

  -- An unplaced statement leaves room for itself.
  pub room-left : s.count < n
  room-left =
      ⊎_elim (λ (l : s.count < n). l)
      (λ (l : n ≤ s.count). absurd (not-both (long_has_all (order_of s) h.adds_up
      (omega (arith, state_order_length h, h.adds_up)) i waits.below) new))
      (lt_cases s.count n)

  -- The order with it.
  abbrev pub longer : List ℕ
  longer = set s.order s.count i

  one-more : take (s.count + 1) longer ≡ order_of s ++ (i ∷ [])
  one-more = rw (add-one s.count) (take-suc-set s.order s.count i (omega (arith, room-left, few, h.long)))

  -- ---- the try

  module _ {resolved : Bool} (says : resolved ≡ resolves (member s.known.words) (of_statement i defs)) where
    -- It can be taken exactly if its definitions resolve from the names known.
    decides : takeable (ready defs) (defines defs) n (order_of s) i ≡ resolved
    decides =
        rw (lt-ltb i n waits.below, new, waits.has)
        (ap (λ (K : ℕ → Bool). resolves K (of_statement i defs)) (sym (fun_ext h.knows.has)) ∙ sym says)

    -- They do not: it becomes idle, and nothing else changes.
    pub stays : resolved ≡ false → (s' : State) → s'.placed ≡ s.placed → s'.known.words ≡ s.known.words → s'.order ≡ s.order → s'.count ≡ s.count
        → Inserted s.idle.words i s'.idle.words → After defs n (pick (ready defs) (defines defs) n (order_of s) i) s'
    stays fails s' placed known ordered counted more =
        let o : order_of s' ≡ order_of s = ap₂ take counted ordered in
        record {
          holds = record {
            long = ap length ordered ∙ h.long;
            filled = omega (arith, counted, h.filled);
            adds_up = rw o h.adds_up;
            taken = λ j. rw (o, placed) (h.taken j);
            rests = λ j m. inserted_keeps more j (h.rests j (rw placed at m));
            idles = λ j m.
                rw o
                (⊎_elim
                (λ (q : eqb j i ≡ true). ap (takeable (ready defs) (defines defs) n (order_of s)) (eqb-true j i q) ∙ decides ∙ fails)
                (h.idles j) (or_cases _ _ (sym (more.has j) ∙ m)));
            knows = record { long = ap length known ∙ h.knows.long; has = λ x. rw (known, o) (h.knows.has x) };
          };
          now_is = o ∙ sym (pick_skipped (ready defs) (defines defs) n (order_of s) i (decides ∙ fails));
        }

    -- They do: it is placed, and only those placed are idle.
    pub goes : resolved ≡ true → (s' : State) → s'.order ≡ longer → s'.count ≡ s.count + 1 → s'.idle ≡ s'.placed → Inserted s.placed.words i s'.placed.words
        → length s'.known.words ≡ 8 → ((x : ℕ) → member s'.known.words x ≡ (defines defs i x || member s.known.words x))
        → After defs n (pick (ready defs) (defines defs) n (order_of s) i) s'
    goes passes s' ordered counted idle placed long adds =
        let o : order_of s' ≡ order_of s ++ (i ∷ []) = ap₂ take counted ordered ∙ one-more in
        let has : (j : ℕ) → member s'.placed.words j ≡ elem j (order_of s') = λ j.
        rw o (placed.has j ∙ ap (λ (b : Bool). eqb j i || b) (h.taken j) ∙ sym (elem-snoc j i (order_of s))) in
        record {
          holds = record {
            long = ap length ordered ∙ length-set s.order s.count i ∙ h.long;
            filled = omega (arith, counted, room-left, few);
            adds_up = rw o (snoc_adds_up i (order_of s) waits.below new h.adds_up);
            taken = has;
            rests = λ j m. rw idle m;
            idles = λ j m. rw (sym (has j) ∙ (rw idle at m), and-false (ltb j n));
            knows = record {
              long = long;
              has = λ x.
                  rw o (adds x ∙ ap (λ (b : Bool). defines defs i x || b) (h.knows.has x)
                  ∙ sym (known-snoc (ready defs) (defines defs) (order_of s) i x));
            };
          };
          now_is = o ∙ sym (pick-taken (ready defs) (defines defs) n (order_of s) i (decides ∙ passes));
        }

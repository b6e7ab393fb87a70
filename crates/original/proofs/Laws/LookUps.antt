-- Laws of `LookUps`.
use mathlib.Core.Path.{◌≡◌, sym, ap, ◌∙◌}
use mathlib.Core.Bool.{true, false}
use mathlib.Core.List.{List, ◌++◌, append_assoc}
use mathlib.Core.Option.{Option, none}
use mathlib.Core.Logic.{⊎_elim}
use Prim.Native.Nat.{ℕ}
use lib.Dec.{eqb}
use Rattle.base.proofs.Laws.Truth.{bool_cases}
use Rattle.base.specs.Lists.{elem}
use Rattle.definition.specs.States.{sound, QuerySchedule, Run, schedule_of}
use Rattle.original.proofs.Laws.Lists.{or_else, or_else-none, or_else_twice, find-append}
use Rattle.original.proofs.Laws.Distinct.{Apart}
use Rattle.original.specs.Inner.LookUps.{Fresh}

-- Two tables in which every query has the same schedule, or none.
abbrev pub SameTable : List QuerySchedule → List QuerySchedule → Type 0
SameTable T U = (x : ℕ) → schedule_of T x ≡ schedule_of U x

-- The table has schedules of queries on a list alone.
abbrev pub OnlyIn : List ℕ → List QuerySchedule → Type 0
OnlyIn F T = (x : ℕ) → elem x F ≡ false → schedule_of T x ≡ none

-- A look-up in a table with another in front.
pub look_append : (T U : List QuerySchedule) (x : ℕ) → schedule_of (T ++ U) x ≡ or_else (schedule_of T x) (schedule_of U x)
look_append T U x = find-append (λ (a : QuerySchedule). eqb a.query x) T U

-- Two such tables, one in front of the other.
pub only-append : (F : List ℕ) (T U : List QuerySchedule) → OnlyIn F T → OnlyIn F U → OnlyIn F (T ++ U)
only-append F T U h k x n = look_append T U x ∙ ap (λ (o : Option QuerySchedule). or_else o (schedule_of U x)) (h x n) ∙ k x n

-- The run r of a query q changes nothing in the table: it has no fault, its schedules are all there, and so is that of q.
pub record HeldIn (r : Run) (q : ℕ) (T : List QuerySchedule) : Type 0 where
  pub is_sound : r.fault ≡ sound
  pub still : SameTable (r.schedules ++ T) T
  pub look : schedule_of T q ≡ schedule_of r.schedules q

-- More in front of two tables.
pub same-front : (W T U : List QuerySchedule) → SameTable T U → SameTable (W ++ T) (W ++ U)
same-front W T U h x =
    look_append W T x ∙ ap (λ (o : Option QuerySchedule). or_else (schedule_of W x) o) (h x) ∙ sym (look_append W U x)

-- The table T₀ stays behind.
pub same-behind : (W T U T₀ : List QuerySchedule) → SameTable T (U ++ T₀) → SameTable (W ++ T) ((W ++ U) ++ T₀)
same-behind W T U T₀ h x =
    same-front W T (U ++ T₀) h x ∙ ap (λ (l : List QuerySchedule). schedule_of l x) (sym (append_assoc W U T₀))

module _ (F : List ℕ) (W T T₁ : List QuerySchedule) (only : OnlyIn F W) (now : SameTable T₁ (W ++ T)) where
  -- Where W has no schedule, the table is as before.
  pub untouched : (x : ℕ) → elem x F ≡ false → schedule_of T₁ x ≡ schedule_of T x
  untouched x n = now x ∙ look_append W T x ∙ ap (λ (o : Option QuerySchedule). or_else o (schedule_of T x)) (only x n)

  -- What was fresh stays so.
  pub fresh_kept : (k : List ℕ) → Apart k F → Fresh k T → Fresh k T₁
  fresh_kept k a f x m = untouched x (a x m) ∙ f x m

  -- What was held stays so.
  pub held_kept : (r : Run) (q : ℕ) (k : List ℕ) → OnlyIn k r.schedules → elem q k ≡ true → Apart k F → HeldIn r q T → HeldIn r q T₁
  held_kept r q k own m a h = record {
    is_sound = h.is_sound;
    still = λ x.
        ⊎_elim
        (λ (p : elem x k ≡ true).
        look_append r.schedules T₁ x
        ∙ ap (λ (o : Option QuerySchedule). or_else (schedule_of r.schedules x) o) (untouched x (a x p))
        ∙ sym (look_append r.schedules T x)
        ∙ h.still x
        ∙ sym (untouched x (a x p)))
        (λ (p : elem x k ≡ false).
        look_append r.schedules T₁ x ∙ ap (λ (o : Option QuerySchedule). or_else o (schedule_of T₁ x)) (own x p)) (bool_cases (elem x k));
    look = untouched q (a q m) ∙ h.look;
  }

-- A run that has just entered, where its query was fresh, is held.
pub held_now : (r : Run) (q : ℕ) (T T₁ : List QuerySchedule) → r.fault ≡ sound → SameTable T₁ (r.schedules ++ T) → schedule_of T q ≡ none
    → HeldIn r q T₁
held_now r q T T₁ s now n = record {
  is_sound = s;
  still = λ x.
      look_append r.schedules T₁ x
      ∙ ap (λ (o : Option QuerySchedule). or_else (schedule_of r.schedules x) o) (now x ∙ look_append r.schedules T x)
      ∙ or_else_twice (schedule_of r.schedules x) (schedule_of T x)
      ∙ sym (look_append r.schedules T x)
      ∙ sym (now x);
  look =
      now q ∙ look_append r.schedules T q ∙ ap (λ (o : Option QuerySchedule). or_else (schedule_of r.schedules q) o) n
      ∙ or_else-none (schedule_of r.schedules q);
}

-- Laws of `Changes`.
use mathlib.Core.Path.{◌≡◌, refl, sym, ap, ◌∙◌}
use mathlib.Core.List.{List}
use mathlib.Core.Logic.{◌⊎◌, inl, inr}
use Prim.Native.Nat.{ℕ, ◌+◌, ◌≤◌, ◌<◌}
use native.Mathlib.Omega.{arith}
use lib.ListN.{length, get_or, set, length-set}
use lib.Seq.{get_or-set_same, get_or-set_other}
use Rattle.base.specs.Limits as limits
use Rattle.base.proofs.Laws.Truth.{lt_cases, eq_cases}
use Rattle.names.specs.Inner.Sets.{Gap}
use Rattle.names.specs.Inner.Members.{Lowest}
use Rattle.scope_state.specs.Inner.Changes.{changed, Changed}

module _ (ws : List ℕ) (f : ℕ → ℕ → ℕ) (l : List ℕ) where
  -- The numbers of the names below n are changed, and the others not yet.
  pub record Changing (m : List ℕ) (n : ℕ) : Type 0 where
    pub size : length m ≡ length l
    pub done : (x : ℕ) → x < n → get_or m x 0 ≡ changed ws f x (get_or l x 0)
    pub rest : (x : ℕ) → n ≤ x → get_or m x 0 ≡ get_or l x 0

  pub changing_first : Changing l 0
  changing_first = record { size = refl; done = λ x low. absurd (omega arith); rest = λ x up. refl }

  module _ (m : List ℕ) (n : ℕ) (c : Changing m n) where
    pub changing_next : {end : ℕ} (y : ℕ) → Lowest ws end n y → y < length m → Changing (set m y (f y (get_or m y 0))) (y + 1)
    changing_next y next room = record {
      size = length-set m y _ ∙ c.size;
      done = λ x under. go x under (eq_cases x y) (lt_cases x n);
      rest = λ x up. get_or-set_other m y x _ 0 (λ e. omega arith) ∙ c.rest x (omega (arith, next.low));
    }
      where
        go : (x : ℕ) → x < y + 1 → (x ≡ y) ⊎ (x ≡ y → ⊥) → (x < n) ⊎ (n ≤ x) → get_or (set m y (f y (get_or m y 0))) x 0 ≡ changed ws f x (get_or l x 0)
        go x under (inl e) other = rw e (get_or-set_same m y _ 0 room ∙ ap (f y) (c.rest y next.low) ∙ sym (rw next.found))
        go x under (inr ne) (inl below) = get_or-set_other m y x _ 0 ne ∙ c.done x below
        go x under (inr ne) (inr above) =
            get_or-set_other m y x _ 0 ne ∙ c.rest x above ∙ sym (rw (next.gap x above (omega arith)))

    -- Where none is left, all are changed.
    pub changing_all : Gap ws n limits.per_name → Changed ws f l m
    changing_all none = record { has = λ x low. go x low (lt_cases x n) }
      where
        go : (x : ℕ) → x < limits.per_name → (x < n) ⊎ (n ≤ x) → get_or m x 0 ≡ changed ws f x (get_or l x 0)
        go x low (inl below) = c.done x below
        go x low (inr above) = c.rest x above ∙ sym (rw (none x above low))

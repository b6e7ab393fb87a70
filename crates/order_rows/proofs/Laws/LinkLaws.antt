-- What a turn of `link` does to the cells.
use mathlib.Core.Path.{◌≡◌, sym, ap, ◌∙◌, subst}
use mathlib.Core.List.{List}
use mathlib.Core.Logic.{⊎_elim}
use Prim.Native.Nat.{ℕ, ◌+◌, ◌<◌, ◌≤◌}
use native.Mathlib.Numerals.{add-one}
use native.Mathlib.Omega.{arith}
use lib.ListN.{length, get_or, set}
use lib.Seq.{get_or-set_same, get_or-set_other}
use borrow.Author.Count.{below_more}
use borrow.Author.Tests.{eq-eqb, ne_eqb}
use Rattle.base.specs.Limits as limits
use Rattle.base.proofs.Laws.Truth.{eq_cases}
use Rattle.order.specs.Call.{statement_at}
use Rattle.order_rows.proofs.Laws.ChainLaws.{last_leads}
use Rattle.order_rows.specs.Inner.Links.{last_of, LinkedTo}

-- The last row of statement s, when there is one row more.
module _ (w : ℕ) (ws : List ℕ) (s k : ℕ) where
  last-here : statement_at w ws k ≡ s → last_of w ws s (k + 1) ≡ k + 1
  unfolding last_of
  last-here e = rw (add-one, eq-eqb (statement_at w ws k) s e)

  last-before : (statement_at w ws k ≡ s → ⊥) → last_of w ws s (k + 1) ≡ last_of w ws s k
  unfolding last_of
  last-before ne = rw (add-one, ne_eqb (statement_at w ws k) s ne)

pub linked-first : (w : ℕ) (ws first next : List ℕ) → ((i : ℕ) → get_or first i 0 ≡ 0) → ((i : ℕ) → get_or next i 0 ≡ 0) → LinkedTo w ws first next 0
unfolding last_of
linked-first w ws first next firsts nexts = record {
  room = omega arith;
  head = λ s l. firsts s;
  follow = λ j l. absurd (omega arith);
  ends = record { starts = λ s. omega (arith, firsts s); down = λ j. omega (arith, nexts j) };
}

-- Row k's cell gets what its statement's cell holds, and that cell gets row k.
module _ (w : ℕ) (ws first next : List ℕ) (k : ℕ) (l : LinkedTo w ws first next k) (few : k < limits.most_definitions)
    (small : statement_at w ws k < limits.most_statements) where
  abbrev own : ℕ
  own = statement_at w ws k

  abbrev before : ℕ
  before = get_or first own 0

  module _ (long : length first ≡ limits.most_statements) (longer : length next ≡ limits.most_definitions) where
    -- Each cell of a statement: this one's, or another.
    started : (s : ℕ) (P : ℕ → Type 0) → (s ≡ own → P (k + 1)) → ((s ≡ own → ⊥) → P (get_or first s 0)) → P (get_or (set first own (k + 1)) s 0)
    started s P this other =
        ⊎_elim
        (λ (e : s ≡ own). subst P (sym (ap (λ (i : ℕ). get_or (set first own (k + 1)) i 0) e ∙ get_or-set_same first own (k + 1) 0 (omega arith))) (this e))
        (λ (ne : s ≡ own → ⊥). subst P (sym (get_or-set_other first own s (k + 1) 0 ne)) (other ne)) (eq_cases s own)

    pub linked-next : LinkedTo w ws (set first own (k + 1)) (set next k before) (k + 1)
    linked-next = record {
      room = omega arith;
      head = λ s h.
          started s (λ (v : ℕ). v ≡ last_of w ws s (k + 1)) (λ e. sym (last-here w ws s k (sym e)))
          (λ ne. l.head s h ∙ sym (last-before w ws s k (λ e. ne (sym e))));
      follow = below_more _ k (λ j h. get_or-set_other next k j before 0 (λ e. omega arith) ∙ l.follow j h)
          (get_or-set_same next k before 0 (omega arith) ∙ l.head own small);
      ends = record {
        starts = λ s. started s (λ (v : ℕ). v ≤ limits.most_definitions) (λ e. omega arith) (λ ne. l.ends.starts s);
        down = down;
      };
    }
      where
        down : (j : ℕ) → get_or (set next k before) j 0 ≤ j
        down j =
            ⊎_elim
            (λ (e : j ≡ k).
            omega (arith, ap (λ (i : ℕ). get_or (set next k before) i 0) e, get_or-set_same next k before 0 (omega arith), l.head own small, (last_leads w ws own k).below))
            (λ (ne : j ≡ k → ⊥). omega (arith, get_or-set_other next k j before 0 ne, l.ends.down j)) (eq_cases j k)

-- Laws of `Concluded`.
use mathlib.Core.Path.{ap, ◌∙◌, subst}
use mathlib.Core.Bool.{Bool}
use mathlib.Core.List.{List}
use Prim.Native.Nat.{ℕ, ◌+◌, ◌*◌, ◌≤◌}
use native.Mathlib.Omega.{arith}
use lib.ListN.{length, get_or, take}
use lib.Seq.{get_or-take, length-take-le}
use Rattle.names_width.specs.declared.Width.{Width}
use Rattle.answer_blocks.specs.Inner.Layout.{word_at}
use Rattle.scope_state.specs.declared.Scope.{Scope}
use Rattle.answer_store.specs.Inner.Words.{BlockWritten}
use Rattle.answer_schedule.specs.Inner.Concluded.{AnswerWritten}

-- What is written of the first n entries of an order.
pub answer_cut : (v : Width) (w : List ℕ) (q : ℕ) (k : Scope) (l : List ℕ) (n : ℕ) (placed : Bool) (order reached u : List ℕ) → n ≤ length order
    → AnswerWritten v w q k l (length (take n order)) placed (take n order) reached u → AnswerWritten v w q k l n placed order reached u
answer_cut v w q k l n placed order reached u enough h =
    let long = length-take-le n order enough in record {
      between = h.between;
      block = subst (λ (m : ℕ). BlockWritten v w q k l m (word_at v w q 3) placed h.between) long h.block;
      places = record {
        long = h.places.long;
        within = λ i low. h.places.within i (omega (arith, long, low)) ∙ ap (λ (x : ℕ). 2 * x + get_or reached x 0) (get_or-take n order i 0 low);
        below = h.places.below;
        above = λ i high. h.places.above i (omega (arith, long, high));
      };
    }

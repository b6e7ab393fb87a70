-- Laws of `InBounds`.
use mathlib.Core.Path.{◌≡◌, refl, ap, ◌∙◌}
use mathlib.Core.Bool.{true}
use mathlib.Core.List.{List, [], ◌∷◌, Memᴰ}
use Prim.Native.Nat.{ℕ, ◌-◌, ◌%◌, ◌≤◌, ◌<◌}
use native.Mathlib.Omega.{arith}
use lib.ListN.{length, length-map}
use borrow.Author.Tests.{lt-ltb, le-leb}
use Rattle.base.proofs.Laws.Truth.{and_intro}
use Rattle.base.specs.Limits.{Limits}
use Rattle.base.specs.Lists.{all, counted, range}
use Rattle.base.proofs.Laws.Ranges.{length-counted}
use Rattle.order.specs.Definitions.{Definition}
use Rattle.order.specs.Call.{row_count, definition_at, definitions, within, accepts}
use Rattle.order_bounds.proofs.Laws.Answers.{by-definitions}
use Rattle.definition.specs.States.{QuerySchedule}
use Rattle.definition_room.specs.Inner.InBounds.{InBounds}

-- Definitions that are in bounds one by one pass the question's test of them all.
all-within : (lim : Limits) (n : ℕ) (defs : List Definition) → ((d : Definition) → Memᴰ d defs → d.statement < n)
    → ((d : Definition) → Memᴰ d defs → d.var ≤ lim.names) → all (within lim n) defs ≡ true
all-within lim n [] s v = refl
all-within lim n (d ∷ defs) s v =
    let here : Memᴰ d (d ∷ defs) = mathlib.Core.List.Memᴰ.head refl in
    and_intro (within lim n d) (all (within lim n) defs)
    (and_intro _ _ (lt-ltb d.statement n (s d here)) (le-leb d.var lim.names (v d here)))
    (all-within lim n defs (λ e m. s e (mathlib.Core.List.Memᴰ.tail m)) (λ e m. v e (mathlib.Core.List.Memᴰ.tail m)))

-- There are as many definitions as rows.
definitions-counted : (v : ℕ) (ws : List ℕ) → length (definitions v ws) ≡ row_count v ws
unfolding definitions range
definitions-counted v ws = length-map (counted 0 (row_count v ws - 0)) (definition_at v ws) ∙ length-counted 0 (row_count v ws - 0) ∙ less
  where
    less : row_count v ws - 0 ≡ row_count v ws
    less = omega arith

-- So the scheduler's one question is met: by every list of whole rows that are these definitions, with buffers that hold the count.
pub question_met : (lim : Limits) (a : QuerySchedule) → InBounds lim a → (ws : List ℕ) → length ws % lim.row ≡ 0
    → definitions lim.row ws ≡ a.definitions
    → (room marks : ℕ) → a.count ≤ room → a.count ≤ marks → accepts lim ws a.count room marks ≡ true
question_met lim a b ws whole these room marks ordered marked =
    by-definitions lim ws a.count room marks whole (omega (arith, b.few-statements))
    (omega (arith, definitions-counted lim.row ws, ap length these, b.few-definitions)) ordered marked
    ∙ ap (all (within lim a.count)) these ∙ all-within lim a.count a.definitions b.stated b.named

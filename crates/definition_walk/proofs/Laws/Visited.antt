-- A loop over the members of a set: what it has still to visit, from a number up. `Lowest` and `Gap` are what the iterator says.
use mathlib.Core.Path.{◌≡◌, ◌∙◌}
use mathlib.Core.List.{List, [], ◌∷◌}
use mathlib.Core.Logic.{⊎_elim}
use Prim.Native.Nat.{ℕ, ◌+◌, ◌≤◌, ◌<◌}
use native.Mathlib.Omega.{arith}
use Rattle.base.proofs.Laws.Truth.{lt_cases}
use Rattle.base.specs.Lists.{filter, range}
use Rattle.base.proofs.Laws.Ranges.{range-nil, range_cons, filter_skip}
use Rattle.base.specs.Sets.{member}
use Rattle.names.specs.Inner.Sets.{Gap}
use Rattle.names.specs.Inner.Members.{Lowest}

abbrev pub left_from : List ℕ → ℕ → ℕ → List ℕ
left_from ws end a = filter (member ws) (range a end)

pub left_at : {ws : List ℕ} {end a x : ℕ} → Lowest ws end a x → left_from ws end a ≡ x ∷ left_from ws end (x + 1)
left_at {ws} {end} {a} {x} l = filter_skip (member ws) a x end l.low (omega (arith, l.high)) l.gap ∙ rw (range_cons x end l.high, l.found)

pub left_none : (ws : List ℕ) (end a : ℕ) → Gap ws a end → left_from ws end a ≡ []
left_none ws end a gap =
    ⊎_elim (λ (h : end < a). rw (range-nil a end (omega arith)))
    (λ (h : a ≤ end). filter_skip (member ws) a end end h (omega arith) gap ∙ rw (range-nil end end (omega arith))) (lt_cases end a)

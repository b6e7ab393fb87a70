-- What `add_to_mask` and a turn of `mask` do to the sets of statements.
use mathlib.Core.Path.{◌≡◌, ap, ap₂, ◌∙◌}
use mathlib.Core.Bool.{Bool, true, false, ◌&&◌, ◌||◌, and_comm}
use mathlib.Core.List.{List, []}
use mathlib.Core.Logic.{◌⊎◌, inl, inr}
use Prim.Native.Nat.{ℕ, ◌+◌, ◌<◌}
use native.Mathlib.Numerals.{add-one}
use lib.Dec.{eqb}
use lib.ListN.{length, set}
use lib.Seq.{get_or-set_same, get_or-set_other}
use borrow.Author.Tests.{eqb-true, eqb-false}
use Rattle.base.proofs.Laws.Truth.{bool_cases, eqb_sym}
use Rattle.base.specs.Sets.{member}
use Rattle.names.specs.Inner.Names.{Statements}
use Rattle.names.specs.Inner.Sets.{Empty, Inserted}
use Rattle.order.specs.Call.{statement_at, var_at}
use Rattle.order_rows.specs.Inner.Masks.{mask_at, Added, defines_in, defined_in, MaskedTo}

-- The name x gets a set that has the statement s too.
pub mask_added : (masks : List Statements) (x s : ℕ) (more : Statements) → x < length masks → Inserted (mask_at masks x) s more.words
    → Added masks x s (set masks x more)
mask_added masks x s more low adds = record { has = λ y h t. go y t (bool_cases (eqb y x)) }
  where
    go : (y t : ℕ) → (eqb y x ≡ true) ⊎ (eqb y x ≡ false) → member (mask_at (set masks x more) y) t ≡ ((eqb y x && eqb t s) || member (mask_at masks y) t)
    go y t (inl p) =
        rw (p, eqb-true y x p)
        (ap (λ (l : Statements). member l.words t) (get_or-set_same masks x more (record { words = [] }) low) ∙ adds.has t)
    go y t (inr p) =
        rw p (ap (λ (l : Statements). member l.words t) (get_or-set_other masks x y more (record { words = [] }) (eqb-false y x p)))

-- ---- mask

pub masked-first : (w : ℕ) (ws : List ℕ) (masks : List Statements) (names : List ℕ) → ((x : ℕ) → Empty (mask_at masks x)) → Empty names → MaskedTo w ws masks names 0
unfolding defines_in defined_in
masked-first w ws masks names empty none = record { masked = λ x h s. (empty x).has s; named = none.has }

pub masked-next : (w : ℕ) (ws : List ℕ) (masks after : List Statements) (names more : List ℕ) (k : ℕ) → MaskedTo w ws masks names k
    → Added masks (var_at w ws k) (statement_at w ws k) after → Inserted names (var_at w ws k) more → MaskedTo w ws after more (k + 1)
unfolding defines_in defined_in
masked-next w ws masks after names more k m a i = record {
  masked = λ x h s.
      let own = ap₂ (λ (p q : Bool). p && q) (eqb_sym x (var_at w ws k)) (eqb_sym s (statement_at w ws k)) ∙ and_comm (eqb (var_at w ws k) x) _ in
      rw (add-one k) (a.has x h s ∙ ap₂ (λ (p q : Bool). p || q) own (m.masked x h s));
  named = λ x. rw (add-one k) (i.has x ∙ ap₂ (λ (p q : Bool). p || q) (eqb_sym x (var_at w ws k)) (m.named x));
}

-- Laws of `Listing`.
use mathlib.Core.Path.{◌≡◌, refl, ap, ◌∙◌}
use mathlib.Core.Bool.{Bool, true, false}
use mathlib.Core.List.Memᴰ
use mathlib.Core.List.{List, [], ◌∷◌, map}
use mathlib.Core.Logic.{inl, inr, ⊎_elim}
use mathlib.Core.Option.{Option, none, some}
use Prim.Native.Nat.{ℕ, ◌+◌, ◌-◌, ◌<◌}
use native.Mathlib.Omega.{arith}
use lib.ListN.{length, get_or}
use borrow.Author.Tests.{ltb-true}
use Rattle.base.proofs.Laws.Truth.{not-both, or_cases}
use Rattle.base.proofs.Laws.Members.{elem_mem, mem_filter}
use Rattle.base.specs.Lists.{counted, range, concat_map, is_some}
use Rattle.base.proofs.Laws.Ranges.{elem-range}
use Rattle.order.specs.Turns.{mark}
use Rattle.sheet.specs.Sheet.{name_bound}
use Rattle.scope.specs.Scopes.{contains, elements, Span, span_in, is_local, owns}
use Rattle.scope.specs.Inner.Below.{Below}
use Rattle.definition.specs.States.{QuerySchedule}
use Rattle.original.proofs.Laws.Members.{mem_left, mem_right, mem_concat_map}
use Rattle.sheet_read.proofs.Laws.ReadRows.{list-rows}
use Rattle.answer.specs.Text.{local_row, set_rows}
use Rattle.promises.specs.Demand3.{Listed}

-- ---- own names

module _ (q : ℕ) (a : QuerySchedule) (low : Below name_bound a.scope) where
  local_listed : (x : ℕ) → x < name_bound → (o : Option Span) → span_in a.scope.locals x ≡ o → is_some o ≡ true
      → Listed q x (set_rows q (some a))
  local_listed x l none e h = absurd (not-both h refl)
  local_listed x l (some p) e h =
      inl (
        p.line,
        p.col,
        mem_left _ _ _ (mem_concat_map (λ y. local_row q y (span_in a.scope.locals y)) (range 0 name_bound) x
            (elem_mem x (range 0 name_bound) (elem-range x 0 name_bound (omega arith) l)) _ (rw e (Memᴰ.head refl))),
      )

  pub own-listed : (x : ℕ) → owns a.scope x ≡ true → Listed q x (set_rows q (some a))
  unfolding owns elements
  own-listed x h =
      let l : x < name_bound = ltb-true x name_bound (low.own x h) in
      ⊎_elim (λ (p : is_local a.scope x ≡ true). local_listed x l (span_in a.scope.locals x) refl p)
      (λ (p : contains a.scope.unscoped x ≡ true).
      inr (mem_right (concat_map (λ y. local_row q y (span_in a.scope.locals y)) (range 0 name_bound)) _ _
      (mem_left _ _ _ (Memᴰ.map (λ y. q ∷ 2 ∷ y ∷ 0 ∷ 0 ∷ [])
      (mem_filter (contains a.scope.unscoped) (range 0 name_bound) (elem_mem x (range 0 name_bound) (elem-range x 0 name_bound (omega arith) l)) p)))))
      (or_cases _ _ h)

-- ---- a mark

pub mark-one : (b : Bool) → mark b ≡ 1 → b ≡ true
mark-one true e = refl
mark-one false e = absurd (omega arith)

pub mark-none : (b : Bool) → mark b ≡ 0 → b ≡ false
mark-none true e = absurd (omega arith)
mark-none false e = refl

-- ---- a list by its places

pub by-places : (l : List ℕ) (n : ℕ) → length l ≡ n → map (λ k. get_or l k 0) (range 0 n) ≡ l
unfolding range
by-places l n e =
    let m : n - 0 ≡ length l = omega arith in
    ap (λ (k : ℕ). map (λ j. get_or l j 0) (counted 0 k)) m
    ∙ list-rows 0 (λ k. get_or l k 0) l 0 (λ k b. let z : 0 + k ≡ k = omega arith in ap (λ (j : ℕ). get_or l j 0) z)

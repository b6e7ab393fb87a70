-- Laws of `SoundBlocks`.
use mathlib.Core.Path.{◌≡◌, refl, ◌∙◌}
use mathlib.Core.Bool.{Bool, true, false}
use mathlib.Core.List.{List}
use mathlib.Core.Option.{Option, none, some}
use Prim.Native.Nat.{ℕ, ◌≤◌}
use native.Mathlib.Omega.{arith}
use lib.ListN.{get_or}
use Rattle.base.proofs.Laws.Truth.{not-both}
use Rattle.order.specs.Turns as turns
use Rattle.base.specs.Lists.{is_some}
use Rattle.sheet.specs.Sheet.{name_bound}
use Rattle.scope.specs.Scopes.{span_in}
use Rattle.definition.specs.States.{QuerySchedule, schedule_of}
use Rattle.order.specs.Turns.{mark}
use Rattle.names_width.specs.declared.Width.{Width}
use Rattle.answer_blocks.specs.Inner.Layout.{word_at}
use Rattle.answer_text.specs.Inner.Stored.{HoldsSchedule, StoredAt, Stored}
use Rattle.answer_text.specs.Inner.Sound.{Bounds, SoundBlocks}

pub mark-low : (b : Bool) → mark b ≤ 1
mark-low true = omega arith
mark-low false = omega arith

held : {A : Type 0} (o : Option A) → is_some o ≡ true → (C : Type 0) → ((a : A) → o ≡ some a → C) → C
held none h C f = absurd (not-both h refl)
held (some a) h C f = f a refl

module _ (v : Width) (w : List ℕ) (q : ℕ) where
  analysed-bounds : (a : QuerySchedule) → HoldsSchedule v w q a → Bounds v w q
  analysed-bounds a s = record {
    state = omega (arith, s.placed, mark-low (turns.placed a.definitions a.count name_bound));
    input = omega (arith, s.input, mark-low a.scope.uses_input);
    room = omega (arith, s.count, s.room);
    span = λ x h.
        held (span_in a.scope.locals x) (s.locals x ∙ h) _ (λ p e. let n = s.spans x p e in omega (arith, n.line, n.col, n.both));
    place = λ k l.
        let i = get_or (turns.order a.definitions a.count name_bound) k 0 in
        let n = s.places k (omega (arith, s.count)) in
        omega (arith, n.index, n.both, mark-low (turns.reached a.definitions a.count name_bound i));
  }

  stored-bounds : (o : Option QuerySchedule) → StoredAt v w q o → 1 ≤ word_at v w q 0 → Bounds v w q
  stored-bounds none s h = absurd (omega (arith, s))
  stored-bounds (some a) s h = analysed-bounds a s

pub stored-sound : (v : Width) (w : List ℕ) (schedules : List QuerySchedule) → Stored v w schedules → SoundBlocks v w
stored-sound v w schedules s q l u h = stored-bounds v w q (schedule_of schedules q) (s q l u) h

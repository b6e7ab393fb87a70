-- A nested query is lent the part of work from a place on: the table lies at its end, too.
use mathlib.Core.Path.{◌≡◌, sym, ap, ◌∙◌, subst}
use mathlib.Core.List.{List, ◌++◌, append-nil}
use Prim.Native.Nat.{ℕ, ◌+◌, ◌-◌, ◌*◌, ◌/◌, ◌≤◌, ◌<◌}
use native.Mathlib.Omega.{arith}
use lib.ListN.{length, get_or, take, drop, length-drop, get_or-append, drop_of_length-le}
use lib.Seq.{take_all, length-take-le, drop-drop, drop-append-add, get_or-take}
use borrow.Rule.Slice.PartMut.{mid_of, put_mid, same_len_mid}
use Rattle.names_width.specs.declared.Width.{Width}
use Rattle.names_width.specs.declared.Width.TheVariants.{Two, Eight}
use Rattle.names_width.specs.Inner.Widths.{row_words}
use Rattle.answer_blocks.specs.Inner.Layout.{answers_size}
use Rattle.definition.specs.States.{QuerySchedule}
use Rattle.answer_text.specs.Inner.Stored.{Stored}
use Rattle.definition_state.specs.Inner.Table.{answers_of, Based, Table}

module _ (v : Width) (w : List ℕ) (a : ℕ) (low : a + answers_size v ≤ length w) where
  abbrev pub tail : List ℕ
  tail = mid_of a (length w - a) w

  tail-is : tail ≡ drop a w
  tail-is = take_all (length w - a) (drop a w) (omega (arith, length-drop a w))

  pub tail-length : length tail ≡ length w - a
  tail-length = ap length tail-is ∙ length-drop a w

  -- It has the same answers.
  pub tail-answers : answers_of v tail ≡ answers_of v w
  tail-answers =
      let last : a + (length (drop a w) - answers_size v) ≡ length w - answers_size v = omega (arith, length-drop a w) in
      ap (λ (l : List ℕ). drop (length l - answers_size v) l) tail-is ∙ drop-drop (length (drop a w) - answers_size v) a w ∙ ap (λ (n : ℕ). drop n w) last

  -- The whole, once the part is back as p.
  module _ (p : List ℕ) (long : length p ≡ length tail) where
    abbrev pub tail-whole : List ℕ
    tail-whole = put_mid a (length w - a) w p

    pub whole_length : length tail-whole ≡ length w
    whole_length = same_len_mid a (length w - a) w p long

    whole_is : tail-whole ≡ take a w ++ p
    whole_is =
        let none : length (drop a w) ≤ length w - a = omega (arith, length-drop a w) in
        ap (λ (l : List ℕ). take a w ++ l) (ap (λ (l : List ℕ). p ++ l) (drop_of_length-le (drop a w) none) ∙ append-nil p)

    pub whole-answers : answers_of v tail-whole ≡ answers_of v p
    whole-answers =
        let front : length (take a w) ≡ a = length-take-le a w (omega arith) in
        let last : length (take a w ++ p) - answers_size v ≡ length (take a w) + (length p - answers_size v) =
        omega (arith, front, ap length (sym whole_is), whole_length, long, tail-length) in
        ap (λ (l : List ℕ). drop (length l - answers_size v) l) whole_is ∙ ap (λ (n : ℕ). drop n (take a w ++ p)) last
        ∙ drop-append-add (take a w) p (length p - answers_size v)

    -- What lies in front is as it was.
    pub whole-front : (j : ℕ) → j < a → get_or tail-whole j 0 ≡ get_or w j 0
    whole-front j l =
        ap (λ (v : List ℕ). get_or v j 0) whole_is ∙ get_or-append (take a w) p 0 j (omega (arith, length-take-le a w (omega arith)))
        ∙ get_or-take a w j 0 l

-- Words with the same answers have the same table.
pub table_of : (v : Width) (t w u : List ℕ) (schedules : List QuerySchedule) → answers_size v ≤ length u → answers_of v u ≡ answers_of v w → Table v t w schedules
    → Table v t u schedules
table_of v t w u schedules enough same h = record {
  enough = enough;
  stored = subst (λ (a : List ℕ). Stored v a schedules) (sym same) h.stored;
  based = subst (λ (a : List ℕ). Based v t a) (sym same) h.based;
  fits = h.fits;
  narrow = h.narrow;
  low = h.low;
}

-- The part behind c rows has room for so many rows less.
pub tail-rows : (v : Width) (n c : ℕ) → row_words v * c + answers_size v ≤ n → (n - row_words v * c - answers_size v) / row_words v ≡ (n - answers_size v) / row_words v - c
tail-rows Two n c h = omega arith
tail-rows Eight n c h = omega arith

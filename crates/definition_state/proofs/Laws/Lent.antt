-- The rows of definitions lie in front of the table, and are lent without it.
use mathlib.Core.Path.{◌≡◌, sym, ◌∙◌, ap, subst}
use mathlib.Core.List.{List, ◌++◌}
use Prim.Native.Nat.{ℕ, ◌+◌, ◌-◌, ◌*◌, ◌≤◌, ◌<◌}
use native.Mathlib.Omega.{arith}
use lib.ListN.{length, get_or, take, drop, length-append, length-drop, get_or-append}
use lib.Seq.{get_or-take, drop_at}
use native.Mathlib.Nat.{mul-le-mul_left}
use Rattle.names_width.specs.declared.Width.{Width}
use Rattle.names_width.specs.Inner.Widths.{row_words}
use Rattle.answer_blocks.specs.Inner.Layout.{answers_size}
use Rattle.order.specs.Definitions.{Definition}
use Rattle.order.specs.Call.{definition_at}
use Rattle.definition.specs.States.{QuerySchedule}
use Rattle.answer_text.specs.Inner.Stored.{Stored}
use Rattle.definition_walk.specs.Inner.Appended.{Appended}
use Rattle.definition_walk.proofs.Laws.Appended.{rows_same_words}
use Rattle.definition_state.specs.Inner.Table.{answers_of, Based, Table}

-- Work with the same table.
pub table_same : (v : Width) (t w u : List ℕ) (schedules : List QuerySchedule) → length u ≡ length w → answers_of v u ≡ answers_of v w
    → Table v t w schedules → Table v t u schedules
table_same v t w u schedules long same h = record {
  enough = omega (arith, long, h.enough);
  stored = subst (λ (a : List ℕ). Stored v a schedules) (sym same) h.stored;
  based = subst (λ (a : List ℕ). Based v t a) (sym same) h.based;
  fits = h.fits;
  narrow = h.narrow;
  low = h.low;
}

-- The first e words of w were lent, and are ys now.
module _ (v : Width) (w ys : List ℕ) (e : ℕ) (few : e ≤ length w) (same : length ys ≡ e) where
  abbrev pub back : List ℕ
  back = ys ++ drop e w

  pub back-length : length back ≡ length w
  back-length = omega (arith, length-append ys (drop e w), length-drop e w)

  pub back-word : (j : ℕ) → j < e → get_or back j 0 ≡ get_or ys j 0
  back-word j l = get_or-append ys (drop e w) 0 j (omega arith)

  -- What was appended to the part was appended to the whole.
  pub back-appended : (a b : ℕ) (defs : List Definition) → row_words v * b ≤ e → Appended v (take e w) ys a b defs → Appended v w back a b defs
  back-appended a b defs low h = record {
    up = h.up;
    before = λ j l.
        let up : row_words v * a ≤ row_words v * b = mul-le-mul_left (row_words v) h.up in
        back-word j (omega (arith, up)) ∙ h.before j l ∙ get_or-take e w j 0 (omega (arith, up));
    each = λ j from to. let f = h.each j from to in (f.0, f.1, same_row j to ∙ f.2);
    all = λ d m. let f = h.all d m in (f.0, f.1, f.2, same_row f.0 f.2 ∙ f.3);
  }
    where
      same_row : (j : ℕ) → j < b → definition_at (row_words v) back j ≡ definition_at (row_words v) ys j
      same_row = rows_same_words v back ys b (λ j l. back-word j (omega arith))

  -- The table is as it was.
  pub back-table : (t : List ℕ) (schedules : List QuerySchedule) → e + answers_size v ≡ length w → Table v t w schedules → Table v t back schedules
  back-table t schedules last h =
      let behind : length back - answers_size v ≡ e = omega (arith, back-length) in
      let before : e ≡ length w - answers_size v = omega arith in
      table_same v t w back schedules back-length
      (ap (λ (n : ℕ). drop n back) behind ∙ drop_at ys (drop e w) e same ∙ ap (λ (n : ℕ). drop n w) before) h

-- Laws of `Held`.
use mathlib.Core.Path.{◌≡◌, refl, ap, ◌∙◌, subst}
use mathlib.Core.Bool.{Bool, true, cond}
use mathlib.Core.List.Memᴰ
use mathlib.Core.List.{List, [], ◌∷◌, ◌++◌}
use Prim.Native.Nat.{ℕ, ◌-◌, ◌*◌, ◌<◌}
use native.Mathlib.Omega.{arith}
use lib.Dec.{ltb}
use lib.ListN.{get_or}
use Rattle.base.proofs.Laws.Truth.{and_left, and_right}
use Rattle.base.specs.Lists.{all, filter}
use Rattle.names_width.specs.declared.Width.{Width}
use Rattle.names_width.specs.Inner.Widths.{set_words, row_words}
use Rattle.names_width.proofs.Laws.Laws.{row_words_lem}
use Rattle.order.specs.Definitions.{Definition}
use Rattle.order_rows.specs.Inner.Rows.{held_row}
use Rattle.definition_walk.specs.Inner.Appended.{Appended}
use Rattle.definition_walk.proofs.Laws.Appended.{appended_then, rows_same_words}
use Rattle.definition_state.specs.Inner.Held.{Held}

pub held_none : (v : Width) (w : List ℕ) → Held v w 0 []
held_none v w = record { each = λ j l. absurd (omega arith); all = λ d m. absurd (Memᴰ.not-nil m) }

module _ (v : Width) (w u : List ℕ) (c : ℕ) (defs : List Definition) (h : Held v w c defs) where
  -- Rows appended behind them.
  pub held-append : (n : ℕ) (new : List Definition) → Appended v w u c n new → Held v u n (defs ++ new)
  held-append n new a =
      let start : Appended v w w 0 c defs = record {
        up = omega arith;
        before = λ j l. refl;
        each = λ j low high. h.each j high;
        all = λ d m. let f = h.all d m in (f.0, omega arith, f.1, f.2);
      } in
      let both = appended_then v w w u 0 c n defs new start a in
      record { each = λ j l. both.each j (omega arith) l; all = λ d m. let f = both.all d m in (f.0, f.2, f.3) }

  -- The same words hold the same.
  pub held_same : ((j : ℕ) → j < row_words v * c → get_or u j 0 ≡ get_or w j 0) → Held v u c defs
  held_same same = record {
    each = λ j l. let f = h.each j l in (f.0, f.1, rows_same_words v u w c same j l ∙ f.2);
    all = λ d m. let f = h.all d m in (f.0, f.1, rows_same_words v u w c same f.0 f.1 ∙ f.2);
  }

-- ---- low names

filter-all : (f : ℕ → Bool) (l : List ℕ) → all f l ≡ true → filter f l ≡ l
filter-all f [] h = refl
filter-all f (x ∷ l) h =
    ap (λ (b : Bool). cond b (x ∷ filter f l) (filter f l)) (and_left (f x) (all f l) h)
    ∙ ap (λ (r : List ℕ). x ∷ r) (filter-all f l (and_right (f x) (all f l) h))

-- A row has room for a definition whose used names are low.
pub row-all : (v : Width) (d : Definition) → all (λ x. ltb x (64 * set_words v)) d.used ≡ true → held_row (row_words v) d ≡ d
unfolding held_row
row-all v d low =
    let e : set_words v ≡ row_words v - 2 = omega (arith, row_words_lem v) in
    ap (λ (u : List ℕ). record { statement = d.statement; var = d.var; used = u })
    (filter-all (λ y. ltb y (64 * (row_words v - 2))) d.used (subst (λ (n : ℕ). all (λ x. ltb x (64 * n)) d.used ≡ true) e low))

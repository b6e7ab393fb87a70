-- Laws of `Front`.
use mathlib.Core.Path.{◌≡◌, refl, sym, ap, ◌∙◌}
use mathlib.Core.Bool.{true}
use mathlib.Core.List.{List, ◌++◌}
use Prim.Native.Nat.{ℕ, ◌+◌, ◌-◌, ◌*◌, ◌/◌, ◌≤◌, ◌<◌}
use native.Mathlib.Nat.{mul-le-mul_left, div-mul-le_self}
use native.Mathlib.Omega.{arith}
use lib.ListN.{length, get_or, take, drop, length-append, length-drop, get_or-append}
use lib.Seq.{length-take-le, get_or-take, drop_at}
use Rattle.names_width.specs.declared.Width.{Width}
use Rattle.names_width.specs.Inner.Widths.{row_words}
use Rattle.answer_blocks.specs.Inner.Layout.{answers_size}
use Rattle.order.specs.Definitions.{Definition}
use Rattle.order.specs.Call.{definition_at}
use Rattle.definition.specs.States.{QuerySchedule, add_definitions}
use Rattle.definition_walk.specs.Inner.Appended.{Appended}
use Rattle.definition_walk.proofs.Laws.Appended.{rows_same_words}
use Rattle.definition_state.specs.declared.Progress.{Progress}
use Rattle.definition_state.specs.Inner.Faults.{is_sound}
use Rattle.definition_state.proofs.Laws.Held.{held-append}
use Rattle.definition_state.specs.Inner.Table.{answers_of, Table}
use Rattle.definition_state.specs.Inner.Frames.{with_count, guarded, Runs, Ready}
use Rattle.definition_state.proofs.Laws.Steps.{sound-is}
use Rattle.definition_record.proofs.Laws.Guards.{runs-sound}
use Rattle.definition_record.specs.Inner.Front.{FitsFront}

pub ready-fits : (t : List ℕ) (p : Progress) (fs w : List ℕ) (more : ℕ) → Ready t p fs w more → FitsFront p w more
ready-fits t p fs w more r = record { enough = r.room.enough; rows = omega (arith, r.room.rows, r.agrees.count) }

-- How many words stand in front of the table, and the work with others in their place.
abbrev pub end : Width → List ℕ → ℕ
end x w = length w - answers_size x

abbrev pub back_after : Width → List ℕ → List ℕ → List ℕ
back_after x w v = v ++ drop (end x w) w

pub front_length : (x : Width) (w : List ℕ) → length (take (end x w) w) ≡ end x w
front_length x w = length-take-le (end x w) w (omega arith)

module _ (x : Width) (w v : List ℕ) (enough : answers_size x ≤ length w) (same : length v ≡ end x w) where
  back-length : length (back_after x w v) ≡ length w
  back-length = omega (arith, length-append v (drop (end x w) w), length-drop (end x w) w, same)

  back-front : (j : ℕ) → j < end x w → get_or (back_after x w v) j 0 ≡ get_or v j 0
  back-front j l = get_or-append v (drop (end x w) w) 0 j (omega (arith, same))

  back-table : answers_of x (back_after x w v) ≡ answers_of x w
  back-table = ap (λ (n : ℕ). drop (n - answers_size x) (back_after x w v)) back-length ∙ drop_at v (drop (end x w) w) (end x w) same

  table_stays : (t : List ℕ) (schedules : List QuerySchedule) → Table x t w schedules → Table x t (back_after x w v) schedules
  table_stays t schedules h = record {
    enough = omega (arith, back-length);
    stored = rw back-table h.stored;
    based = rw back-table h.based;
    fits = h.fits;
    narrow = h.narrow;
    low = h.low;
  }

  -- What was appended to the words in front is appended to the whole.
  appended-back : (a b : ℕ) (ds : List Definition) → row_words x * b ≤ end x w → Appended x (take (end x w) w) v a b ds → Appended x w (back_after x w v) a b ds
  appended-back a b ds room h = record {
    up = h.up;
    before = λ j l.
        let low : j < end x w = omega (arith, mul-le-mul_left (row_words x) h.up) in
        back-front j low ∙ h.before j l ∙ get_or-take (end x w) w j 0 low;
    each = λ j low high. let f = h.each j low high in (f.0, f.1, row_back j high ∙ f.2);
    all = λ d m. let f = h.all d m in (f.0, f.1, f.2, row_back f.0 f.2 ∙ f.3);
  }
    where
      row_back : (j : ℕ) → j < b → definition_at (row_words x) (back_after x w v) j ≡ definition_at (row_words x) v j
      row_back = rows_same_words x (back_after x w v) v b (λ j l. back-front j (omega arith))

module _ (w v : List ℕ) (p : Progress) (enough : answers_size p.width ≤ length w) (same : length v ≡ end p.width w) (fine : is_sound p.fault ≡ true)
    (n : ℕ) (room : n ≤ end p.width w / row_words p.width) (ds : List Definition)
    (rows : Appended p.width (take (end p.width w) w) v p.count n ds) (few : n ≤ p.count + length ds) where
  -- The definitions are recorded.
  pub runs_append : (t fs : List ℕ) → Runs t (guarded (add_definitions ds)) p fs w (with_count p n) fs (back_after p.width w v)
  unfolding add_definitions
  runs_append t fs =
      let x = p.width in
      let all = appended-back x w v enough same p.count n ds (omega (arith, mul-le-mul_left (row_words x) room, div-mul-le_self (end x w) (row_words x))) rows in
      runs-sound t (add_definitions ds) p fine fs w (with_count p n) fs (back_after x w v)
      (record { long = back-length x w v enough same; up = all.up; wide = refl; before = all.before })
      (λ spans s e count h. record {
        fault = sound-is p.fault fine ∙ sym e;
        count = omega (arith, count, few, length-append s.definitions ds);
        whole = λ z. record {
          scope = h.scope;
          used-first = h.used-first;
          rows = held-append x w (back_after x w v) p.count s.definitions h.rows n ds all;
          table = table_stays x w v enough same t _ h.table;
        };
      })

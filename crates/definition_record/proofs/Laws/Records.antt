-- Laws of `Records`.
use mathlib.Core.Path.{◌≡◌, refl, sym, ◌∙◌}
use mathlib.Core.Bool.{Bool, true, false}
use mathlib.Core.List.{List, [], ◌∷◌, ◌++◌}
use Prim.Native.Nat.{ℕ, ◌+◌, ◌-◌, ◌*◌, ◌/◌, ◌≤◌, max}
use native.Mathlib.Nat.{div-le_self}
use native.Mathlib.Omega.{arith}
use lib.ListN.{length, take, drop, length-map}
use borrow.Author.Tests.{eq-eqb}
use Rattle.base.proofs.Laws.Truth.{not-both, or_left}
use Rattle.base.specs.Sets.{members}
use Rattle.base.specs.Lists.{elem}
use Rattle.names.specs.Inner.Sets.{is_nil, is_empty}
use Rattle.names.proofs.Laws.Laws.{elem-members}
use Rattle.names.specs.Inner.Names.{Names}
use Rattle.names_width.specs.declared.Width.{Width}
use Rattle.names_width.specs.declared.Width.TheVariants.{Two, Eight}
use Rattle.names_width.specs.Inner.Widths.{row_words}
use Rattle.names_width.proofs.Laws.Laws.{room_whole}
use Rattle.answer_blocks.specs.Inner.Layout.{answers_size}
use Rattle.definition.specs.Uses.{define}
use Rattle.definition.specs.States.{add_definitions}
use Rattle.definition.specs.Using.{record_one, record_each}
use Rattle.definition_walk.specs.Inner.Own.{Holds}
use Rattle.definition_walk.specs.Inner.Appended.{Pushed}
use Rattle.definition_state.specs.declared.Progress.{Progress}
use Rattle.definition_state.specs.Inner.Faults.{is_sound}
use Rattle.definition_state.proofs.Laws.Steps.{runs-stays}
use Rattle.definition_state.specs.Inner.Frames.{with_count, Ready}
use Rattle.definition_record.specs.Inner.Each.{less_of, Less, define_each, EachFits, EachDefined}
use Rattle.definition_record.specs.Inner.Front.{FitsFront}
use Rattle.definition_record.proofs.Laws.Front.{ready-fits, end, back_after, front_length, runs_append}
use Rattle.definition_record.specs.Inner.Records.{NamesFit, OneRecorded, NamesRecorded, EachRecorded}

-- ---- room

-- More words have room for more rows.
div_up : (v : Width) (a b : ℕ) → a ≤ b → a / row_words v ≤ b / row_words v
div_up Two a b h = omega arith
div_up Eight a b h = omega arith

module _ (p : Progress) (w : List ℕ) where
  one_room_at : FitsFront p w 1 → row_words p.width * p.count + row_words p.width ≤ length (take (end p.width w) w)
  one_room_at room = room_whole (row_words p.width) p.count _ (rw (front_length p.width w) (omega (arith, room.rows)))

  -- The code has the words of the answers as a number n.
  pub one-room : (n : ℕ) → n ≡ answers_size p.width → FitsFront p w 1 → row_words p.width * p.count + row_words p.width ≤ length (take (length w - n) w)
  one-room n is = rw is one_room_at

  pub front-is : (n : ℕ) → n ≡ answers_size p.width → length (take (length w - n) w) ≡ length w - n
  front-is n is = rw is (front_length p.width w)

  -- The rows that are there lie within the work.
  pub least_room : FitsFront p w 1 → p.count ≤ length w / row_words p.width
  least_room room =
      let x = p.width in
      omega (arith, room.rows, div_up x (length w - answers_size x) (length w) (omega arith))

  pub one-few : FitsFront p w 1 → p.count + 1 ≤ length w
  one-few room = omega (arith, room.rows, div-le_self (length w - answers_size p.width) (row_words p.width))

  module _ (names : Names) where
    each_fits_at : NamesFit 0 names p w → EachFits p.width names p.count (length (take (end p.width w) w))
    each_fits_at f = record { list = f.list; holds = f.holds; low = rw (front_length p.width w) (omega (arith, f.low.rows)) }

    pub each_name_fits : (n : ℕ) → n ≡ answers_size p.width → NamesFit 0 names p w → EachFits p.width names p.count (length (take (length w - n) w))
    each_name_fits n is = rw is each_fits_at

    pub names-fit : NamesFit 1 names p w → NamesFit 0 names p w
    names-fit f = record { list = f.list; holds = f.holds; low = record { enough = f.low.enough; rows = omega (arith, f.low.rows) } }

    pub ready-names : (t fs : List ℕ) (least : ℕ) (xs : List ℕ) → Holds names xs → Ready t p fs w (max least (length xs)) → NamesFit least names p w
    ready-names t fs least xs h r = record { list = xs; holds = h; low = ready-fits t p fs w (max least (length xs)) r }

module _ (i : ℕ) (used : Names) (p : Progress) (w : List ℕ) where
  pub one-fault : is_sound p.fault ≡ false → OneRecorded i used p w p w
  one-fault bad t us fs h = runs-stays t (record_one i 0 us) p fs w bad

  one_recorded_at : is_sound p.fault ≡ true → FitsFront p w 1 → (v : List ℕ) → length v ≡ length (take (end p.width w) w)
      → Pushed p.width i 0 used p.count (take (end p.width w) w) v
      → (r : Progress) → r ≡ with_count p (p.count + 1) → OneRecorded i used p w r (back_after p.width w v)
  unfolding record_one
  one_recorded_at fine room v same put r is t us fs h =
      rw is (runs_append w v p room.enough (same ∙ front_length p.width w) fine (p.count + 1) room.rows (define i 0 us ∷ []) (put us h)
      (omega arith) t fs)

  pub one-recorded : (n : ℕ) → n ≡ answers_size p.width → is_sound p.fault ≡ true → FitsFront p w 1 → (v : List ℕ) → length v ≡ length (take (length w - n) w)
      → Pushed p.width i 0 used p.count (take (length w - n) w) v
      → (r : Progress) → r ≡ with_count p (p.count + 1) → OneRecorded i used p w r (v ++ drop (length w - n) w)
  one-recorded n is = rw is one_recorded_at

-- ---- a definition of each name

module _ (i : ℕ) (names used : Names) (without : Bool) (p : Progress) (w : List ℕ) where
  pub names-fault : is_sound p.fault ≡ false → NamesRecorded i names used without p w p w
  names-fault bad t xs us fs h k = runs-stays t (add_definitions (define_each i without us xs)) p fs w bad

  names_recorded_at : is_sound p.fault ≡ true → NamesFit 0 names p w → (v : List ℕ) → length v ≡ length (take (end p.width w) w)
      → (n : ℕ) → EachDefined p.width i names used without (take (end p.width w) w) v p.count n
      → (r : Progress) → r ≡ with_count p n → NamesRecorded i names used without p w r (back_after p.width w v)
  names_recorded_at fine f v same n d r is t xs us fs h k =
      rw is (runs_append w v p f.low.enough (same ∙ front_length p.width w) fine n
      (omega (arith, f.low.rows, d.few f.list f.holds)) (define_each i without us xs) (d.rows xs us h k)
      (omega (arith, d.few xs h, length-map xs (λ x. define i x (less_of without us x)))) t fs)

  pub names-recorded : (k : ℕ) → k ≡ answers_size p.width → is_sound p.fault ≡ true → NamesFit 0 names p w
      → (v : List ℕ) → length v ≡ length (take (length w - k) w)
      → (n : ℕ) → EachDefined p.width i names used without (take (length w - k) w) v p.count n
      → (r : Progress) → r ≡ with_count p n → NamesRecorded i names used without p w r (v ++ drop (length w - k) w)
  names-recorded k is = rw is names_recorded_at

  module _ (none : Bool) (is : none ≡ is_empty names.words) where
    -- No name: the empty one.
    pub each-empty : none ≡ true → (from : Names) → Less used 0 without from → (r : Progress) (w' : List ℕ) → OneRecorded i from p w r w' → EachRecorded i names used without p w r w'
    unfolding record_each is_empty
    each-empty e from less r w' one t [] us fs h k = one t (less_of without us 0) fs (less us k)
    each-empty e from less r w' one t (y ∷ xs) us fs h k = absurd (nothing (members names.words) (sym is ∙ e) (elem-members names.words y ∙ sym (h.has y) ∙ or_left _ _ (eq-eqb y y refl)))
      where
        nothing : (l : List ℕ) → is_nil l ≡ true → elem y l ≡ true → ⊥
        nothing [] e m = not-both m refl
        nothing (z ∷ l) e m = not-both e refl

    pub each-some : none ≡ false → (r : Progress) (w' : List ℕ) → NamesRecorded i names used without p w r w' → EachRecorded i names used without p w r w'
    unfolding record_each is_empty
    each-some ne r w' all t [] us fs h k = absurd (something (members names.words) (sym is ∙ ne) (λ x. elem-members names.words x ∙ sym (h.has x)))
      where
        something : (l : List ℕ) → is_nil l ≡ false → ((x : ℕ) → elem x l ≡ false) → ⊥
        something [] e m = not-both refl e
        something (z ∷ l) e m = not-both (or_left _ _ (eq-eqb z z refl)) (m z)
    each-some ne r w' all t (y ∷ xs) us fs h k = all t (y ∷ xs) us fs h k

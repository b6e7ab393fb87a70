-- Laws of `Each`.
use mathlib.Core.Path.{◌≡◌, refl, sym, ap, ◌∙◌, subst}
use mathlib.Core.Bool.{Bool, true, false, not, ◌&&◌}
use mathlib.Core.List.Memᴰ
use mathlib.Core.List.{List, [], ◌∷◌, ◌++◌, map, append_assoc, Memᴰ}
use Prim.Native.Nat.{ℕ, ◌+◌, ◌*◌, ◌≤◌}
use native.Mathlib.Nat.{div-le_self}
use native.Mathlib.Omega.{arith}
use lib.Dec.{eqb}
use lib.ListN.{length}
use Rattle.base.specs.Limits as limits
use Rattle.base.specs.Lists.{elem}
use Rattle.base.proofs.Laws.Lists.{elem-filter}
use Rattle.base.proofs.Laws.Members.{elem_mem, mem_elem}
use Rattle.base.specs.Sets.{member, members}
use Rattle.names.specs.Inner.Sets.{Removed, Gap}
use Rattle.names.specs.Inner.Members.{Lowest}
use Rattle.names.proofs.Laws.Laws.{elem-members}
use Rattle.definition_walk.proofs.Laws.Visited.{left_from, left_at, left_none}
use Rattle.names.specs.Inner.Names.{Names}
use Rattle.names_width.specs.declared.Width.{Width}
use Rattle.names_width.specs.Inner.Widths.{row_words}
use Rattle.names_width.proofs.Laws.Laws.{room_whole}
use Rattle.order.specs.Definitions.{Definition}
use Rattle.definition.specs.Uses.{define}
use Rattle.definition_walk.specs.Inner.Own.{Holds}
use Rattle.definition_walk.specs.Inner.Appended.{Appended, Pushed}
use Rattle.definition_walk.proofs.Laws.Appended.{appended-none, appended_then}
use Rattle.definition_walk.proofs.Laws.Index.{map-append, append-length}
use Rattle.definition_walk.proofs.Laws.Collects.{append-nil}
use Rattle.definition_record.proofs.Laws.Counting.{held-few}
use Rattle.definition_record.specs.Inner.Each.{Less, define_each, EachFits, less_of, EachDefined}

module _ (used : Names) (x : ℕ) where
  pub less_removed : (without : Bool) → without ≡ true → (r : Names) → Removed used.words x r.words → Less used x without r
  less_removed without e r gone us h = rw e (record {
    has = λ y. elem-filter (λ y. not (eqb y x)) y us ∙ ap (λ (b : Bool). not (eqb y x) && b) (h.has y) ∙ sym (gone.has y);
  })

  pub less_whole : (without : Bool) → without ≡ false → Less used x without used
  less_whole without e us h = rw e h

-- Rows do not ask for the order of a list, nor how often something stands on it.
pub appended-same : (v : Width) (ws rs : List ℕ) (a b : ℕ) (ds es : List Definition) → ((d : Definition) → Memᴰ d ds → Memᴰ d es)
    → ((d : Definition) → Memᴰ d es → Memᴰ d ds) → Appended v ws rs a b ds → Appended v ws rs a b es
appended-same v ws rs a b ds es to back h = record {
  up = h.up;
  before = h.before;
  each = λ j low high. let f = h.each j low high in (f.0, to f.0 f.1, f.2);
  all = λ d m. h.all d (back d m);
}

-- What is made of the elements of a list is made of those of another that has them all.
map-within : (f : ℕ → Definition) (k l : List ℕ) → ((y : ℕ) → elem y k ≡ true → elem y l ≡ true)
    → (d : Definition) → Memᴰ d (map f k) → Memᴰ d (map f l)
map-within f k l h d m =
    let o = Memᴰ.of_map f k m in
    subst (λ (z : Definition). Memᴰ z (map f l)) o.2 (Memᴰ.map f (elem_mem o.0 l (h o.0 (mem_elem k o.1))))

-- ---- the loop

module _ (v : Width) (i : ℕ) (names used : Names) (without : Bool) (ws : List ℕ) (count : ℕ) where
  -- The names below `from`, which are `done`, are defined.
  pub record Defining (rs : List ℕ) (n from : ℕ) : Type 0 where
    pub done : List ℕ
    pub listed : left_from names.words limits.per_name 0 ≡ done ++ left_from names.words limits.per_name from
    pub counts : n ≡ count + length done
    pub rows : (us : List ℕ) → Holds used us → Appended v ws rs count n (define_each i without us done)

  pub defining-first : Defining ws count 0
  defining-first = record {
    done = [];
    listed = refl;
    counts = omega arith;
    rows = λ us h. appended-none v ws count;
  }

  module _ (whole : 64 * length names.words ≡ limits.per_name) (rs : List ℕ) (n from : ℕ) (d : Defining rs n from) where
    members_is : members names.words ≡ left_from names.words limits.per_name 0
    unfolding members
    members_is = ap (λ (end : ℕ). left_from names.words end 0) whole

    module _ {x : ℕ} (low : Lowest names.words limits.per_name from x) where
      -- A name is left, so there is room for it.
      left : length (members names.words) ≡ length d.done + length (x ∷ left_from names.words limits.per_name (x + 1))
      left = ap length (members_is ∙ d.listed ∙ ap (λ (l : List ℕ). d.done ++ l) (left_at low)) ∙ append-length d.done _

      pub defining-room : (size : ℕ) → EachFits v names count size → row_words v * n + row_words v ≤ size
      defining-room size f = room_whole (row_words v) n size (omega (arith, left, d.counts, held-few names f.list f.holds, f.low))

      -- And the count stays small.
      pub defining-few : (size : ℕ) → EachFits v names count size → n + 1 ≤ size
      defining-few size f = omega (arith, left, d.counts, held-few names f.list f.holds, f.low, div-le_self size (row_words v))

      pub defining-next : (less : Names) → Less used x without less → (us : List ℕ) → Pushed v i x less n rs us → Defining us (n + 1) (x + 1)
      defining-next r less us put = record {
        done = d.done ++ (x ∷ []);
        listed = d.listed ∙ ap (λ (l : List ℕ). d.done ++ l) (left_at low) ∙ sym (append_assoc d.done (x ∷ []) (left_from names.words limits.per_name (x + 1)));
        counts = omega (arith, d.counts, append-length d.done (x ∷ []));
        rows = λ l h.
            subst (Appended v ws us count (n + 1)) (sym (map-append (λ x. define i x (less_of without l x)) d.done (x ∷ [])))
            (appended_then v ws rs us count n (n + 1) _ _ (d.rows l h) (put _ (less l h)));
      }

    pub defining-all : Gap names.words from limits.per_name → EachDefined v i names used without ws rs count n
    defining-all none = record {
      rows = λ xs us h k.
          let f : ℕ → Definition = λ y. define i y (less_of without us y) in
          appended-same v ws rs count n (map f d.done) (map f xs)
          (map-within f d.done xs (λ y m. h.has y ∙ sym (same y) ∙ m)) (map-within f xs d.done (λ y m. same y ∙ sym (h.has y) ∙ m))
          (d.rows us k);
      few = λ xs h. omega (arith, d.counts, ap length all_done, held-few names xs h);
    }
      where
        all_done : d.done ≡ members names.words
        all_done = sym (members_is ∙ d.listed ∙ ap (λ (l : List ℕ). d.done ++ l) (left_none names.words limits.per_name from none) ∙ append-nil d.done)

        same : (y : ℕ) → elem y d.done ≡ member names.words y
        same y = ap (elem y) all_done ∙ elem-members names.words y

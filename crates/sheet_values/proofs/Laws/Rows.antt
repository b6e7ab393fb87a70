-- The loop of `row_at`.
use mathlib.Core.Path.{◌≡◌, refl, sym, ap, ◌∙◌}
use mathlib.Core.Bool.{true, false}
use mathlib.Core.List.{List, [], ◌∷◌, ◌++◌, append_assoc, append-nil}
use Prim.Native.Nat.{ℕ, suc, ◌+◌, ◌-◌, ◌≤◌, ◌<◌}
use native.Mathlib.Omega.{arith}
use lib.ListN.{length, drop, set, length-append, length-set, drop_of_length-le}
use lib.Seq.{sets, sets-eq}
use Rattle.base.proofs.Laws.Truth.{and_left}
use Rattle.sheet.specs.Text.{newline, space, Text, line, lines, values}
use Rattle.sheet.specs.Inner.Lines.{head_line, after}
use Rattle.sheet.proofs.Laws.LineLaws.{whole-line}
use Rattle.sheet.specs.Inner.RowLines.{line_fits}
use Rattle.sheet_values.specs.declared.Number.{Number}
use Rattle.sheet_values.specs.Inner.Fields.{NoField, FieldIs}
use Rattle.sheet_values.specs.Inner.Rows.{RowIs}

sets-snoc : (d : List ℕ) (to : ℕ) (vs : List ℕ) (v : ℕ) → set (sets d to vs) (to + length vs) v ≡ sets d to (vs ++ (v ∷ []))
sets-snoc d to [] v = let z : to + 0 ≡ to = omega arith in ap (λ (i : ℕ). set d i v) z
sets-snoc d to (w ∷ vs) v =
    let z : to + suc (length vs) ≡ suc to + length vs = omega arith in
    ap (λ (i : ℕ). set (sets (set d to w) (suc to) vs) i v) z ∙ sets-snoc (set d to w) (suc to) vs v

-- As many values as a list has entries take the place of all.
sets-all : (d vs : List ℕ) → length vs ≡ length d → sets d 0 vs ≡ vs
sets-all d vs n =
    sets-eq vs d 0 (omega arith) ∙ ap (λ (l : List ℕ). vs ++ l) (drop_of_length-le d {i = 0 + length vs} (omega arith)) ∙ append-nil vs

-- i values are read, up to place `next`, and the row e, which held d, has them.
pub record Fields (s : List ℕ) (at : ℕ) (d : List ℕ) (next i : ℕ) (e : List ℕ) : Type 0 where
  pub done : List ℕ
  pub count : length done ≡ i
  pub low : at ≤ next
  pub high : next ≤ length s
  pub below : i < length d
  pub fit : line_fits (length d) (lines (drop at s)) ≡ line_fits (length d - i) (lines (drop next s))
  pub read : values (head_line (lines (drop at s))) ≡ done ++ values (head_line (lines (drop next s)))
  pub behind : after (lines (drop at s)) ≡ after (lines (drop next s))
  pub row : e ≡ sets d 0 done
  pub size : length e ≡ length d

module _ (s : List ℕ) (at : ℕ) (d : List ℕ) where
  pub fields-first : at ≤ length s → 0 < length d → Fields s at d at 0 d
  fields-first h z =
      let q : length d ≡ length d - 0 = omega arith in
      record {
        done = [];
        count = refl;
        low = omega arith;
        high = h;
        below = z;
        fit = ap (λ (n : ℕ). line_fits n (lines (drop at s))) q;
        read = refl;
        behind = refl;
        row = refl;
        size = refl;
      }

  module _ {next i : ℕ} {e : List ℕ} (f : Fields s at d next i e) where
    -- One value more.
    stored : (v : ℕ) → set e i v ≡ sets d 0 (f.done ++ (v ∷ []))
    stored v = rw (f.row, ← f.count) (let z : 0 + length f.done ≡ length f.done = omega arith in rw z at (sets-snoc d 0 f.done v))

    counted : (v : ℕ) → length (f.done ++ (v ∷ [])) ≡ i + 1
    counted v = length-append f.done (v ∷ []) ∙ omega (arith, f.count)

    pub fields_stop : i < length d - 1 → NoField s next space → line_fits (length d) (lines (drop at s)) ≡ false
    fields_stop h g =
        let q : length d - i ≡ suc (suc (length d - i - 2)) = omega arith in
        f.fit ∙ ap (λ (m : ℕ). line_fits m (lines (drop next s))) q ∙ g.no_space refl (length d - i - 2)

    pub fields-next : i < length d - 1 → (n : Number) → FieldIs s next space n → Fields s at d n.next (i + 1) (set e i n.value)
    fields-next h n g =
        let w = g.spaced refl in
        let q : length d - i ≡ suc (length d - (i + 1)) = omega arith in
        record {
          done = f.done ++ (n.value ∷ []);
          count = counted n.value;
          low = omega (arith, f.low, g.next.0);
          high = g.next.1;
          below = omega arith;
          fit = f.fit ∙ ap (λ (m : ℕ). line_fits m (lines (drop next s))) q ∙ w.fit (length d - (i + 1));
          read = f.read ∙ ap (λ (l : List ℕ). f.done ++ l) w.vals
              ∙ sym (append_assoc f.done (n.value ∷ []) (values (head_line (lines (drop n.next s)))));
          behind = f.behind ∙ w.behind;
          row = stored n.value;
          size = length-set e _ _ ∙ f.size;
        }

    module _ (h : length d - 1 ≤ i) where
      one : length d - i ≡ 1
      one = omega (arith, f.below)

      pub fields-fault : NoField s next newline → line_fits (length d) (lines (drop at s)) ≡ false
      fields-fault g = f.fit ∙ ap (λ (m : ℕ). line_fits m (lines (drop next s))) one ∙ g.no_newline refl

      pub fields-last : (n : Number) → FieldIs s next newline n → RowIs s at (length d) n.next (set e (length d - 1) n.value)
      unfolding line_fits
      fields-last n g =
          let t = g.ended refl in
          let last : length d - 1 ≡ i = omega (arith, f.below) in
          let fit : line_fits (length d) (lines (drop at s)) ≡ true = f.fit ∙ ap (λ (c : ℕ). line_fits c (lines (drop next s))) one ∙ t.fit in
          record {
            fits = fit;
            ends = record {
              inside = (omega (arith, f.low, g.next.0), g.next.1);
              line = whole-line (lines (drop at s)) (and_left _ _ fit)
                  ∙ ap (λ (u : Text). line (head_line (lines (drop at s))) u) (f.behind ∙ t.behind);
            };
            values = rw last (stored n.value ∙ sets-all d (f.done ++ (n.value ∷ [])) (counted n.value ∙ omega (arith, f.below))
                ∙ sym (f.read ∙ ap (λ (l : List ℕ). f.done ++ l) t.vals));
          }

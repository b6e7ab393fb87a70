-- The loop of `special_names`.
use mathlib.Core.Path.{◌≡◌, refl, sym, ap, ◌∙◌}
use mathlib.Core.Bool.{true, false, cond}
use mathlib.Core.List.{List, [], ◌∷◌}
use mathlib.Core.Logic.{◌⊎◌, inl, inr}
use Prim.Native.Nat.{ℕ, suc, ◌+◌, ◌≤◌, ◌<◌}
use native.Mathlib.Numerals.{add-one}
use native.Mathlib.Omega.{arith}
use lib.Dec.{eqb}
use lib.ListN.{length, get_or, drop}
use borrow.Author.Tests.{eq-eqb, ne_eqb}
use Rattle.base.proofs.Laws.Truth.{bool_cases, eq_cases, not-both}
use Rattle.sheet.specs.Text.{newline, bytes, lines}
use Rattle.sheet.specs.Inner.Lines.{LineTo, after, is_line, line_at}
use Rattle.sheet.specs.Form.{same}
use Rattle.sheet.specs.Questions.{name_row, form_fault, row_of_name}
use Rattle.sheet_names.specs.Inner.Names.{found, SpecialRead}
use Rattle.sheet_names.proofs.Laws.FirstSection.{NameLines, names-line, names-empty, line-none, others, names-first, names-next, headed}

-- The row of the name w is found, or is that among the names ls from row n on.
pub record FoundName (s w : List ℕ) (n : ℕ) (ls : List (List ℕ)) (r : ℕ) : Type 0 where
  pub is : row_of_name s w ≡ cond (eqb r 0) (name_row n w ls) r

-- The names from a place on are still to be looked at; they start at row n.
pub record Finding (s : List ℕ) (at n a b c : ℕ) : Type 0 where
  pub names : List (List ℕ)
  pub follow : NameLines s at names
  pub few : n ≤ at
  pub some : 0 < n
  pub blank : FoundName s (bytes "_") n names a
  pub input : FoundName s (bytes "input") n names b
  pub «data» : FoundName s (bytes "data") n names c

no_bytes : (l : List ℕ) → length l ≡ 0 → l ≡ []
no_bytes [] e = refl
no_bytes (b ∷ l) e = absurd (omega arith)

module _ (s w : List ℕ) where
  found-end : {n r : ℕ} → FoundName s w n [] r → r ≡ row_of_name s w
  unfolding name_row
  found-end {n} {r} f = go (eq_cases r 0)
    where
      go : (r ≡ 0) ⊎ (r ≡ 0 → ⊥) → r ≡ row_of_name s w
      go (inl e) = e ∙ sym (rw (eq-eqb r 0 e) at f.is)
      go (inr ne) = sym (rw (ne_eqb r 0 ne) at f.is)

  -- The line at a place is looked at.
  found-next : {n r : ℕ} {ls : List (List ℕ)} (at : ℕ) → FoundName s w n (line_at s at ∷ ls) r → 0 < n
      → (r' : ℕ) → r' ≡ found r (same (line_at s at) w) n → FoundName s w (n + 1) ls r'
  unfolding name_row
  found-next {n} {r} {ls} at f some r' h = go (eq_cases r 0) (bool_cases (same (line_at s at) w))
    where
      go : (r ≡ 0) ⊎ (r ≡ 0 → ⊥) → (same (line_at s at) w ≡ true) ⊎ (same (line_at s at) w ≡ false) → FoundName s w (n + 1) ls r'
      go (inl e) (inl y) =
          let is : row_of_name s w ≡ n = rw (eq-eqb r 0 e, y) at f.is in
          let now : r' ≡ n = rw (eq-eqb r 0 e, y) at h in
          record { is = rw (now, ne_eqb n 0 (λ z. omega arith)) is }
      go (inl e) (inr x) =
          let is : row_of_name s w ≡ name_row (suc n) w ls = rw (eq-eqb r 0 e, x) at f.is in
          let now : r' ≡ 0 = rw (eq-eqb r 0 e, x) at h in
          record { is = rw (now, add-one) is }
      go (inr ne) b =
          let is : row_of_name s w ≡ r = rw (ne_eqb r 0 ne) at f.is in
          let now : r' ≡ r = rw (ne_eqb r 0 ne) at h in
          record { is = rw (now, ne_eqb r 0 ne) is }

module _ (s : List ℕ) where
  pub finding_first : form_fault s ≡ 0 → Finding s 5 1 0 0 0
  unfolding row_of_name
  finding_first z = record {
    names = _;
    follow = (headed s z).names;
    few = omega arith;
    some = omega arith;
    blank = record { is = refl };
    input = record { is = refl };
    «data» = record { is = refl };
  }

  module _ {at n a b c : ℕ} (k : Finding s at n a b c) where
    pub finding_end : length (line_at s at) ≡ 0 → SpecialRead s (record { blank = a; input = b; «data» = c })
    finding_end e =
        let none = names-empty k.follow (no_bytes (line_at s at) e) in
        record {
          blank = found-end s (bytes "_") (rw none at k.blank);
          input = found-end s (bytes "input") (rw none at k.input);
          «data» = found-end s (bytes "data") (rw none at k.«data»);
        }

    -- No line of the section is missing.
    pub finding_line : is_line (lines (drop at s)) ≡ false → ⊥
    finding_line f = not-both (names-line k.follow) f

    module _ (some : length (line_at s at) ≡ 0 → ⊥) (next : ℕ) (l : LineTo s at next) where
      ne : get_or s at 0 ≡ newline → ⊥
      ne e = some (ap length (line-none k.follow e))

      module _ (w : List ℕ) {r : ℕ} (f : FoundName s w n k.names r) (r' : ℕ) (h : r' ≡ found r (same (line_at s at) w) n) where
        next_found : FoundName s w (n + 1) (others k.follow ne) r'
        next_found = found-next s w at (rw (names-first k.follow ne) at f) k.some r' h

      pub finding_next : (a' b' c' : ℕ) → a' ≡ found a (same (line_at s at) (bytes "_")) n
          → b' ≡ found b (same (line_at s at) (bytes "input")) n → c' ≡ found c (same (line_at s at) (bytes "data")) n
          → Finding s next (n + 1) a' b' c'
      finding_next a' b' c' x y z = record {
        names = others k.follow ne;
        follow = names-next k.follow ne next (ap after l.line);
        few = omega (arith, k.few, l.inside.0);
        some = omega arith;
        blank = next_found (bytes "_") k.blank a' x;
        input = next_found (bytes "input") k.input b' y;
        «data» = next_found (bytes "data") k.«data» c' z;
      }

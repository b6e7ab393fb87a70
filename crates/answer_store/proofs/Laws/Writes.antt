-- Laws of `Written`.
use mathlib.Core.Path.{◌≡◌, sym, ap, ◌∙◌}
use mathlib.Core.List.{List, ◌++◌}
use Prim.Native.Nat.{ℕ, ◌+◌, ◌-◌, ◌≤◌}
use native.Mathlib.Omega.{arith}
use lib.ListN.{length, get_or, take, drop, length-drop, get_or-append}
use lib.Seq.{get_or-append-add, get_or-take, get_or-drop, length-take-le}
use borrow.Rule.Slice.PartMut.{post_of, put_mid, same_len_mid, mid_of}
use Rattle.answer_store.specs.Inner.Writes.{Written, words_from}

-- Words that come back into the part that was lent.
module _ (w : List ℕ) (at n : ℕ) (words : List ℕ) (room : at + n ≤ length w) (long : length words ≡ n) where
  front : length (take at w) ≡ at
  front = length-take-le at w (omega arith)

  behind : (i : ℕ) → get_or (put_mid at n w words) (at + i) 0 ≡ get_or (words ++ post_of at n w) i 0
  behind i =
      let e : at + i ≡ length (take at w) + i = omega (arith, front) in
      ap (λ (k : ℕ). get_or (put_mid at n w words) k 0) e ∙ get_or-append-add (take at w) (words ++ post_of at n w) i 0

  part : length words ≡ length (mid_of at n w)
  part = long ∙ sym (length-take-le n (drop at w) (omega (arith, length-drop at w)))

  pub written_slice : Written w (put_mid at n w words) at n (words_from words)
  written_slice = record {
    long = same_len_mid at n w words part;
    within = λ i l. behind i ∙ get_or-append words (post_of at n w) 0 i (omega (arith, long));
    below = λ i l. get_or-append (take at w) (words ++ post_of at n w) 0 i (omega (arith, front)) ∙ get_or-take at w i 0 l;
    above = λ i l. above-at (i - (at + n)) i (omega arith);
  }
    where
      above-at : (m i : ℕ) → i ≡ (at + n) + m → get_or (put_mid at n w words) i 0 ≡ get_or w i 0
      above-at m i e =
          let f : i ≡ at + (n + m) = omega (arith, e) in
          let g : n + m ≡ length words + m = omega (arith, long) in
          ap (λ (k : ℕ). get_or (put_mid at n w words) k 0) f ∙ behind (n + m)
          ∙ ap (λ (k : ℕ). get_or (words ++ post_of at n w) k 0) g ∙ get_or-append-add words (post_of at n w) m 0
          ∙ get_or-drop n (drop at w) m 0 ∙ get_or-drop at w (n + m) 0 ∙ sym (ap (λ (k : ℕ). get_or w k 0) f)

-- Laws of sets of w words, for any w.
use mathlib.Core.Path.{◌≡◌, refl, sym, ap, ap₂, ◌∙◌}
use mathlib.Core.Bool.{Bool, false, cond}
use mathlib.Core.List.{List, ◌∷◌, ◌++◌}
use mathlib.Core.Logic.{⊎_elim}
use Prim.Native.Nat.{ℕ, zero, suc, ◌+◌, ◌-◌, ◌*◌, ◌/◌, ◌%◌, ◌^◌, ◌≤◌, ◌<◌}
use native.Mathlib.Nat.{mul-le-mul_left, mul-suc, div-mul-le_self}
use native.Mathlib.Omega.{arith}
use lib.Dec.{lit≤, lit<}
use lib.ListN.{length, get_or, take, drop, length-drop, get_or-append}
use lib.Seq.{length-take-le}
use borrow.Rule.Slice.PartMut.{put_mid, same_len_mid}
use Rattle.std.proofs.lemmas.List.{get_or-take, get_or-drop, get_or-append_right}
use Rattle.base.specs.Limits.{library}
use Rattle.base.specs.Inner.Sizes.{least_work}
use Rattle.base.proofs.Laws.Truth.{lt_cases}
use Rattle.base.specs.Lists.{filter, counted}
use Rattle.base.specs.Sets.{bit, member, words_at}
use Rattle.names.specs.Inner.Sets.{Empty}
use Rattle.names.proofs.Laws.Laws.{member_out}
use Rattle.names.proofs.Laws.Bits.{bits_ext, bit_of_zero}
use Rattle.names.proofs.Laws.Words.{member-at}
use Rattle.names_width.specs.Inner.Widths.{set_words, names, work, row_words, Same, Put}
use Rattle.names_width.proofs.Laws.Widths.{Fits}
use Rattle.names_width.specs.declared.Width.{Width}
use Rattle.names_width.specs.declared.Width.TheVariants.{Two, Eight}

pub words-length : (w : ℕ) (ws : List ℕ) (at : ℕ) → length (words_at w ws at) ≡ w
words-length zero ws at = refl
words-length (suc w) ws at = ap suc (words-length w ws (suc at))

pub words_get : (w : ℕ) (ws : List ℕ) (at i : ℕ) → i < w → get_or (words_at w ws at) i 0 ≡ get_or ws (at + i) 0
words_get zero ws at i h = absurd (omega arith)
words_get (suc w) ws at zero h = let e : at ≡ at + 0 = omega arith in ap (λ (k : ℕ). get_or ws k 0) e
words_get (suc w) ws at (suc i) h =
    let e : suc at + i ≡ at + suc i = omega arith in
    words_get w ws (suc at) i (omega arith) ∙ ap (λ (k : ℕ). get_or ws k 0) e

pub words_same : (w : ℕ) (ws rs : List ℕ) (at : ℕ) → ((i : ℕ) → at ≤ i → i < at + w → get_or ws i 0 ≡ get_or rs i 0) → words_at w ws at ≡ words_at w rs at
words_same zero ws rs at h = refl
words_same (suc w) ws rs at h =
    ap₂ (λ (x : ℕ) (l : List ℕ). x ∷ l) (h at (omega arith) (omega arith)) (words_same w ws rs (suc at) (λ i a b. h i (omega arith) (omega arith)))

-- A list whose first w words are those of a set, with zeros or nothing behind them, has the set's members.
pub same-words : (w : ℕ) (a b : List ℕ) → length a ≡ w → ((i : ℕ) → i < w → get_or b i 0 ≡ get_or a i 0)
    → ((n : ℕ) → 64 * w ≤ n → member b n ≡ false) → Same a b
unfolding member
same-words w a b long set_words rest = record {
  has = λ n. ⊎_elim (λ (h : n < 64 * w). ap (λ (v : ℕ). bit v (n % 64)) (sym (set_words (n / 64) (omega arith))))
      (λ (h : 64 * w ≤ n). member_out a n (omega (arith, long)) ∙ sym (rest n h)) (lt_cases n (64 * w));
}

-- The words behind those that a set needs are zero: by value a set of two words has six of them.
pub rest-zero : (w : ℕ) (a : List ℕ) → Fits w a → (i : ℕ) → w ≤ i → get_or a i 0 < 2 ^ 64 → get_or a i 0 ≡ 0
rest-zero w a fits i h small =
    bits_ext 64 (get_or a i 0) 0 small (lit< tt)
    (λ k l. sym (member-at a i k l) ∙ fits.none (64 * i + k) (omega (arith, mul-le-mul_left 64 h)) ∙ sym (bit_of_zero k))

-- A row of v words that is there is there whole.
pub row-whole : (v k : ℕ) (ws : List ℕ) → k < length ws / v → v * k + v ≤ length ws
row-whole v k ws h = omega (arith, mul-le-mul_left v h, mul-suc v k, div-mul-le_self (length ws) v)

pub room_whole : (v k n : ℕ) → k < n / v → v * k + v ≤ n
room_whole v k n h = omega (arith, mul-le-mul_left v h, mul-suc v k, div-mul-le_self n v)

pub row_two : (w : Width) → 2 ≤ row_words w
row_two Two = lit≤ tt
row_two Eight = lit≤ tt

pub row_words_lem : (w : Width) → row_words w ≡ 2 + set_words w
row_words_lem Two = refl
row_words_lem Eight = refl

-- Room by value for every width.
pub at_most : (w : Width) → set_words w ≤ 8
at_most Two = lit≤ tt
at_most Eight = lit≤ tt

-- And a bit for every name.
pub few-names : (w : Width) → names w ≤ library.names
few-names Two = lit≤ tt
few-names Eight = lit≤ tt

-- Work for every width: question 6 needs no more.
pub enough-work : (w : Width) → least_work ≤ work w
enough-work Two = lit≤ tt
enough-work Eight = lit≤ tt

-- The words have a bit for each name, the empty one included.
pub names_are : (w : Width) → 64 * set_words w ≡ names w + 1
names_are Two = refl
names_are Eight = refl

-- ---- loading and storing

-- The words of a set of no member, after the first w of them are the memory's from `at` up.
pub loaded : (w at : ℕ) (memory none after : List ℕ) → at + w ≤ length memory → w ≤ length none → Empty none
    → after ≡ take w (drop at memory) ++ drop w none → Same (words_at w memory at) after
unfolding member
loaded w at memory none after room most empty e =
    same-words w (words_at w memory at) after (words-length w memory at)
    (λ i l.
    ap (λ (ws : List ℕ). get_or ws i 0) e ∙ get_or-append (take w (drop at memory)) (drop w none) 0 i (omega (arith, front, l))
    ∙ get_or-take w (drop at memory) i 0 l ∙ get_or-drop at memory i 0 ∙ sym (words_get w memory at i l))
    (λ n l.
    ap (λ (ws : List ℕ). bit (get_or ws (n / 64) 0) (n % 64)) e
    ∙ ap (λ (v : ℕ). bit v (n % 64))
    (get_or-append_right (take w (drop at memory)) (drop w none) w (n / 64) 0 front (omega arith) ∙ get_or-drop w none (n / 64 - w) 0)
    ∙ ap (λ (i : ℕ). bit (get_or none i 0) (n % 64)) (let i : w + (n / 64 - w) ≡ n / 64 = omega arith in i) ∙ empty.has n)
  where
    front : length (take w (drop at memory)) ≡ w
    front = length-take-le w (drop at memory) (omega (arith, length-drop at memory))

-- The first w words of a set in the place of the memory's from `at` up.
pub stored : (w at : ℕ) (before ws after : List ℕ) → at + w ≤ length before → w ≤ length ws → after ≡ put_mid at w before (take w ws) → Put w before at ws after
unfolding member
stored w at before ws after room most e = record {
  long = ap length e ∙ same_len_mid at w before (take w ws) (part ∙ sym (length-take-le w (drop at before) (omega (arith, length-drop at before))));
  held = λ n b. ap (λ (v : ℕ). bit v (n % 64)) (words_get w after at (n / 64) (omega arith) ∙ within (n / 64) (omega arith));
  below = λ i l. ap (λ (l : List ℕ). get_or l i 0) e ∙ get_or-append (take at before) _ 0 i (omega (arith, front, l)) ∙ get_or-take at before i 0 l;
  above = λ i l.
      ap (λ (l : List ℕ). get_or l i 0) e ∙ get_or-append_right (take at before) _ at i 0 front (omega arith)
      ∙ get_or-append_right (take w ws) _ w (i - at) 0 part (omega arith) ∙ get_or-drop w (drop at before) (i - at - w) 0
      ∙ get_or-drop at before (w + (i - at - w)) 0 ∙ ap (λ (k : ℕ). get_or before k 0) (let k : at + (w + (i - at - w)) ≡ i = omega arith in k);
}
  where
    part : length (take w ws) ≡ w
    part = length-take-le w ws most

    front : length (take at before) ≡ at
    front = length-take-le at before (omega arith)

    within : (i : ℕ) → i < w → get_or after (at + i) 0 ≡ get_or ws i 0
    within i l =
        ap (λ (l : List ℕ). get_or l (at + i) 0) e ∙ get_or-append_right (take at before) _ at (at + i) 0 front (omega arith)
        ∙ ap (λ (k : ℕ). get_or (take w ws ++ drop w (drop at before)) k 0) (let k : at + i - at ≡ i = omega arith in k)
        ∙ get_or-append (take w ws) _ 0 i (omega (arith, part, l)) ∙ get_or-take w ws i 0 l

-- ---- the members listed: the same whatever the number of words

-- A filter that nothing from the end of a count on passes, passes no more of a longer one.
pub filter-end : (f : ℕ → Bool) (a c n : ℕ) → c ≤ n → ((x : ℕ) → a + c ≤ x → f x ≡ false) → filter f (counted a n) ≡ filter f (counted a c)
filter-end f a zero zero h none = refl
filter-end f a (suc c) zero h none = absurd (omega arith)
filter-end f a zero (suc n) h none =
    ap (λ (b : Bool). cond b (a ∷ filter f (counted (suc a) n)) (filter f (counted (suc a) n))) (none a (omega arith))
    ∙ filter-end f (suc a) zero n (omega arith) (λ x l. none x (omega arith))
filter-end f a (suc c) (suc n) h none =
    ap (λ (l : List ℕ). cond (f a) (a ∷ l) l) (filter-end f (suc a) c n (omega arith) (λ x l. none x (omega arith)))

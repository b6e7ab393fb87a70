-- What is printed, by what the call returned and left.
use mathlib.Core.Path.{◌≡◌, sym, ap, ◌∙◌, subst}
use mathlib.Core.Bool.{true, false, cond}
use mathlib.Core.List.{List, [], ◌∷◌, ◌++◌, append_assoc, append-nil}
use mathlib.Core.Logic.{◌⊎◌, inl, inr, ⊎_elim}
use Prim.Native.Nat.{ℕ, zero, suc, ◌+◌, ◌-◌, ◌/◌, ◌%◌, ◌≤◌, ◌<◌}
use native.Mathlib.Omega.{arith}
use lib.Dec.{ltb}
use lib.ListN.{length, get_or, take, replicate, length-append, length-replicate, get_or-append, get_or-replicate}
use lib.Seq.{take_at, get_or-append-add, length-take-le}
use borrow.Author.Tests.{ltb-true}
use Rattle.base.specs.Limits.{Limits}
use Rattle.base.proofs.Laws.Truth.{bool_cases, lt_cases, and_left, and_right}
use Rattle.sheet.specs.Text.{newline, bytes}
use Rattle.answer.specs.Text.{digits, row_line, section, refusal_text}
use Rattle.answer_write.specs.Inner.Writes.{Puts}
use Rattle.answer_write.specs.declared.Text.{Text}
use Rattle.answer_write.specs.Inner.Texts.{Extends}
use Rattle.answer_write.proofs.Laws.Texts.{extends_then}
use Rattle.answer_write.proofs.Laws.Writes.{starts, fits_whole}
use Rattle.io.specs.Counts.{IsPrefixLen}
use Rattle.answer.specs.Call.{Result, refused, answered, result_of, Left, left_by, left, printed}
use Rattle.call.specs.declared.replies.Reply.{Reply}
use Rattle.call.specs.Inner.Replies.{as_left}
use Rattle.print.specs.Inner.Ends.{Ends}
use Rattle.print.proofs.Laws.NoZeros.{no_zeros, Told, result_told}

-- The first r bytes of b, as those of a text.
abbrev Shows : List ℕ → ℕ → List ℕ → Type 0
Shows b r text = IsPrefixLen r b × (take r b ≡ text)

shows_text : (b text more : List ℕ) (r : ℕ) → b ≡ text ++ more → r ≡ length text → Shows b r text
shows_text b text more r is long =
    let fits : r ≤ length b = omega (arith, ap length is, length-append text more) in
    let front : take r b ≡ text = ap (take r) is ∙ take_at text more r (sym long) in
    ((fits, sym (length-take-le r b fits)), front)

-- ---- the text of an answer

no_zero_at : (l : List ℕ) → no_zeros l ≡ true → (i : ℕ) → i < length l → 1 ≤ get_or l i 0
no_zero_at [] h i low = absurd (omega arith)
no_zero_at (x ∷ l) h zero low = ltb-true 0 x (and_left (ltb 0 x) _ h)
no_zero_at (x ∷ l) h (suc i) low = no_zero_at l (and_right (ltb 0 x) _ h) i (omega arith)

module _ (text : List ℕ) (n : ℕ) (none : no_zeros text ≡ true) (r : ℕ) (e : Ends (text ++ replicate n 0) r) where
  long : length (text ++ replicate n 0) ≡ length text + n
  long = length-append text (replicate n 0) ∙ ap (λ (k : ℕ). length text + k) (length-replicate {A = ℕ} n 0)

  not-below : r < length text → ⊥
  not-below h =
      let some = no_zero_at text none r h in
      let is = get_or-append text (replicate n 0) 0 r h in
      let z = e.after (omega (arith, long)) in
      omega arith

  not-above : length text < r → ⊥
  not-above h =
      let low = e.low in
      let m : 0 < n = omega (arith, long) in
      let start : length text + 0 ≡ length text = omega arith in
      e.before (length text) h
      (ap (λ (k : ℕ). get_or (text ++ replicate n 0) k 0) (sym start) ∙ get_or-append-add text (replicate n 0) 0 0 ∙ get_or-replicate n 0 0 0 m)

  ends-text : r ≡ length text
  ends-text = go (lt_cases r (length text)) (lt_cases (length text) r)
    where
      go : (r < length text) ⊎ (length text ≤ r) → (length text < r) ⊎ (r ≤ length text) → r ≡ length text
      go (inl h) k = absurd (not-below h)
      go (inr h) (inl k) = absurd (not-above k)
      go (inr h) (inr k) = omega arith

-- ---- the text of a refusal

digits-length : (most n : ℕ) → length (digits most n) ≤ most
unfolding digits
digits-length zero n = omega arith
digits-length (suc most) n = go (bool_cases (ltb n 10)) (digits-length most (n / 10))
  where
    go : (ltb n 10 ≡ true) ⊎ (ltb n 10 ≡ false) → length (digits most (n / 10)) ≤ most
        → length (cond (ltb n 10) ((48 + n) ∷ []) (digits most (n / 10) ++ ((48 + n % 10) ∷ []))) ≤ suc most
    go (inl p) h = rw p (omega arith)
    go (inr p) h = rw p (omega (arith, length-append (digits most (n / 10)) ((48 + n % 10) ∷ [])))

row-length : (a b c : ℕ) → length (row_line (a ∷ b ∷ c ∷ [])) ≤ 18
row-length a b c =
    let k = row_line (c ∷ []) in
    let m = row_line (b ∷ c ∷ []) in
    omega (arith, digits-length 5 a, digits-length 5 b, digits-length 5 c, length-append (digits 5 a) (32 ∷ m), length-append (digits 5 b) (32 ∷ k), length-append (digits 5 c) (10 ∷ []))

refusal-length : (n l c : ℕ) → length (refusal_text n l c) ≤ 64
unfolding refusal_text section bytes
refusal-length n l c =
    let row = row_line (n ∷ l ∷ c ∷ []) in
    omega (arith, row-length n l c, length-append (row ++ []) (10 ∷ []), length-append row [])

-- The heading, the row and an empty line, in a text that is empty yet.
pub put_refusal : (b : List ℕ) (n l k : ℕ) (t u v w : Text) → t.bytes.now ≡ b → t.end ≡ 0 → Extends t (bytes "refusal line col" ++ (newline ∷ [])) u
    → Extends u (row_line (n ∷ l ∷ k ∷ [])) v → Extends v (newline ∷ []) w → Puts b 0 (refusal_text n l k) w.bytes.now w.end
unfolding refusal_text section
put_refusal b n l k t u v w is start heading row last =
    let h = bytes "refusal line col" in
    let m = row_line (n ∷ l ∷ k ∷ []) in
    let all = extends_then t (h ++ (newline ∷ [])) u (m ++ (newline ∷ [])) w heading (extends_then u m v (newline ∷ []) w row last) in
    subst (λ (x : List ℕ). Puts x 0 (refusal_text n l k) w.bytes.now w.end) is
    (subst (λ (i : ℕ). Puts t.bytes.now i (refusal_text n l k) w.bytes.now w.end) start
    (subst (λ (x : List ℕ). Puts t.bytes.now t.end x w.bytes.now w.end)
    (append_assoc h (newline ∷ []) (m ++ (newline ∷ [])) ∙ ap (λ (x : List ℕ). h ++ (newline ∷ (x ++ (newline ∷ [])))) (sym (append-nil m)))
    all.puts))

shows_refusal : (room n l c : ℕ) → 64 ≤ room → (b : List ℕ) (r : ℕ) → Puts (replicate room 0) 0 (refusal_text n l c) b r
    → Shows b r (refusal_text n l c)
shows_refusal room n l c enough b r put =
    let w = put.1 [] (starts room) in
    let few = refusal-length n l c in
    let size : length b ≡ room = put.0 ∙ length-replicate {A = ℕ} room 0 in
    let at : (r ≡ length (refusal_text n l c)) × (r ≤ length b) = ⊎_elim (λ p. p) (λ p. absurd (omega (arith, p.1))) w.placed in
    shows_text b (refusal_text n l c) _ r (fits_whole b (refusal_text n l c) r w at.1).1 at.0

-- ---- of any sheet

module _ (lim : Limits) (s : List ℕ) (tables work room : ℕ) (p : Reply) (t w a : List ℕ) (is : as_left p t w a ≡ left lim s tables work room) where
  abbrev Prints : List ℕ → ℕ → Type 0
  Prints b r = Shows b r (printed (result_of lim s tables work room))

  left_by_lem : as_left p t w a ≡ left_by tables work room (result_of lim s tables work room)
  unfolding left
  left_by_lem = is

  pub prints_refusal : (p.number ≡ 0 → ⊥) → 64 ≤ room → (b : List ℕ) (r : ℕ)
      → Puts a 0 (refusal_text p.number p.line p.col) b r → Prints b r
  prints_refusal some enough b r put = go (result_of lim s tables work room) left_by_lem
    where
      go : (x : Result) → as_left p t w a ≡ left_by tables work room x → Shows b r (printed x)
      go (refused n l c) e =
          let zeros : a ≡ replicate room 0 = ap (λ (k : Left). k.answer) e in
          let same : refusal_text p.number p.line p.col ≡ refusal_text n l c = ap (λ (k : Left). refusal_text k.number k.line k.col) e in
          shows_refusal room n l c enough b r
          (subst (λ (m : List ℕ). Puts m 0 (refusal_text n l c) b r) zeros (subst (λ (m : List ℕ). Puts a 0 m b r) same put))
      go (answered text) e = absurd (some (ap (λ (k : Left). k.number) e))

  pub prints_answer : p.number ≡ 0 → (r : ℕ) → Ends a r → Prints a r
  prints_answer none r ends = go (result_of lim s tables work room) (result_told lim s tables work room) left_by_lem
    where
      go : (x : Result) → Told x → as_left p t w a ≡ left_by tables work room x → Shows a r (printed x)
      go (refused n l c) h e = absurd (let z : p.number ≡ n = ap (λ (k : Left). k.number) e in omega arith)
      go (answered text) h e =
          let whole : a ≡ text ++ replicate (room - length text) 0 = ap (λ (k : Left). k.answer) e in
          shows_text a text (replicate (room - length text) 0) r whole (ends-text text (room - length text) h r (subst (λ (m : List ℕ). Ends m r) whole ends))

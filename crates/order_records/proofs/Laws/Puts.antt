-- Laws of `Puts`.
use mathlib.Core.Path.{◌≡◌, refl, sym, ap, ap₂, ◌∙◌}
use mathlib.Core.List.{List, [], ◌∷◌, ◌++◌, append_assoc, append-nil}
use Prim.Native.Nat.{ℕ, zero, suc, ◌+◌, ◌*◌, ◌<◌}
use native.Mathlib.Numerals.{add-one}
use native.Mathlib.Omega.{arith}
use lib.ListN.{length, get_or, set, take, drop, length-set, length-drop}
use lib.Seq.{take-suc-set, take-suc, length-take-le}
use borrow.Rule.Slice.PartMut.{put_mid, same_len_mid}
use Rattle.std.proofs.lemmas.Slice.{take-put_mid}
use Rattle.base.specs.Inner.Sizes as sizes
use Rattle.base.specs.Limits as limits
use Rattle.base.specs.Sets.{words_at}
use Rattle.order_records.specs.declared.Definition.{Definition}
use Rattle.order_records.specs.Records.{used_words, row_of_record, rows_of_records}
use Rattle.order_records.proofs.Laws.RowLaws.{no_record, rows_append}
use Rattle.order_records.specs.Inner.Puts.{RowPut}

-- One word more, stored right after the first p.
take_next : (ws : List ℕ) (p q x : ℕ) (front : List ℕ) → q ≡ suc p → p < length ws → take p ws ≡ front → take q (set ws p x) ≡ front ++ (x ∷ [])
take_next ws p q x front s h e =
    ap (λ (k : ℕ). take k (set ws p x)) s ∙ take-suc-set ws p x h ∙ ap (λ (l : List ℕ). l ++ (x ∷ [])) e

-- All words of a list.
words_tail : (n x : ℕ) (l : List ℕ) (k : ℕ) → words_at n (x ∷ l) (suc k) ≡ words_at n l k
words_tail zero x l k = refl
words_tail (suc n) x l k = ap (λ (t : List ℕ). get_or l k 0 ∷ t) (words_tail n x l (suc k))

words-all : (l : List ℕ) → words_at (length l) l 0 ≡ l
words-all [] = refl
words-all (x ∷ l) = ap (λ (t : List ℕ). x ∷ t) (words_tail (length l) x l 0 ∙ words-all l)

-- A statement, a name, and behind them the eight words: the row is put.
pub row_put : (ws : List ℕ) (i : ℕ) (d : Definition) (now : List ℕ) → length ws ≡ sizes.definition_words → i < limits.most_definitions → length d.used ≡ 8
    → now ≡ put_mid (10 * i + 2) 8 (set (set ws (10 * i) d.statement) (10 * i + 1) d.name) d.used → RowPut ws i d now
row_put ws i d now long low eight e =
    let one = set ws (10 * i) d.statement in
    let two = set one (10 * i + 1) d.name in
    let l₁ : length one ≡ length ws = length-set ws (10 * i) d.statement in
    let l₂ : length two ≡ length ws = length-set one (10 * i + 1) d.name ∙ l₁ in
    let used : d.used ≡ used_words d = sym (ap (λ (n : ℕ). words_at n d.used 0) (sym eight) ∙ words-all d.used) in
    record {
      long = ap length e ∙ same_len_mid (10 * i + 2) 8 two d.used (eight ∙ sym (length-take-le 8 (drop (10 * i + 2) two) (omega (arith, l₂, length-drop (10 * i + 2) two)))) ∙ l₂;
      rows =
          ap (take (10 * i + 10)) e ∙ take-put_mid (10 * i + 2) 8 two d.used (10 * i + 10) (omega (arith, eight)) (omega (arith, l₂))
          ∙ ap₂ (λ (f l : List ℕ). f ++ l)
          (take_next one (10 * i + 1) (10 * i + 2) d.name _ (omega arith) (omega (arith, l₁))
          (take_next ws (10 * i) (10 * i + 1) d.statement _ (omega arith) (omega arith) refl)
          ∙ append_assoc (take (10 * i) ws) (d.statement ∷ []) (d.name ∷ []))
          used
          ∙ append_assoc (take (10 * i) ws) (d.statement ∷ d.name ∷ []) (used_words d);
    }

-- The rows of one record more.
pub rows_next : (all : List Definition) (ws after : List ℕ) (i : ℕ) → i < length all → RowPut ws i (get_or all i no_record) after
    → take (10 * i) ws ≡ rows_of_records (take i all) → take (10 * (i + 1)) after ≡ rows_of_records (take (i + 1) all)
rows_next all ws after i h put e =
    let d = get_or all i no_record in
    let k : 10 * (i + 1) ≡ 10 * i + 10 = omega arith in
    ap (λ (n : ℕ). take n after) k ∙ put.rows ∙ ap (λ (l : List ℕ). l ++ row_of_record d) e
    ∙ ap (λ (l : List ℕ). rows_of_records (take i all) ++ l) (sym (append-nil (row_of_record d))) ∙ sym (rows_append (take i all) (d ∷ []))
    ∙ ap rows_of_records (sym (take-suc all i no_record h))
    ∙ ap (λ (n : ℕ). rows_of_records (take n all)) (sym (add-one i))

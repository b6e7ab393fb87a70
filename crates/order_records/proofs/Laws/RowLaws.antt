-- The rows of records stand for the records: they are whole, as many, and define the same.
use mathlib.Core.Path.{◌≡◌, refl, sym, ap, ap₂, ◌∙◌}
use mathlib.Core.List.{List, [], ◌∷◌, ◌++◌, map}
use Prim.Native.Nat.{ℕ, zero, suc, ◌+◌, ◌-◌, ◌*◌, ◌%◌, ◌≤◌, ◌<◌}
use native.Mathlib.Omega.{arith}
use lib.ListN.{length, get_or, take, drop}
use lib.Seq.{take_all, drop-cons, get_or-append-add}
use Rattle.base.specs.Lists.{counted, range}
use Rattle.order.specs.Definitions as Turns
use Rattle.base.specs.Sets.{words_at}
use Rattle.order.specs.Call.{row_count, definition_at, definitions}
use Rattle.order_records.specs.declared.Definition.{Definition}
use Rattle.order_records.specs.Records.{row_of_record, rows_of_records, definition_of}

-- What a proof reads past the end of a list of records.
abbrev pub no_record : Definition
no_record = record { statement = 0; name = 0; used = [] }

pub records_rows_length : (ds : List Definition) → length (rows_of_records ds) ≡ 10 * length ds
records_rows_length [] = refl
records_rows_length (d ∷ ds) = let l = records_rows_length ds in omega (arith, l)

pub rows_whole : (ds : List Definition) → length (rows_of_records ds) % 10 ≡ 0
rows_whole ds = omega (arith, records_rows_length ds)

pub rows-count : (ds : List Definition) → row_count 10 (rows_of_records ds) ≡ length ds
rows-count ds = omega (arith, records_rows_length ds)

pub rows_append : (xs ys : List Definition) → rows_of_records (xs ++ ys) ≡ rows_of_records xs ++ rows_of_records ys
rows_append [] ys = refl
rows_append (d ∷ xs) ys = ap (λ (t : List ℕ). row_of_record d ++ t) (rows_append xs ys)

-- ---- what they define

-- A row more in front moves every row by one.
row_on : (front ws : List ℕ) → length front ≡ 10 → (k : ℕ) → definition_at 10 (front ++ ws) (suc k) ≡ definition_at 10 ws k
row_on front ws long k =
    rw (
      at (10 * suc k) (10 * k) (omega arith),
      at (10 * suc k + 1) (10 * k + 1) (omega arith),
      words 8 (10 * suc k + 2) (10 * k + 2) (omega arith),
    )
  where
    at : (p q : ℕ) → p ≡ 10 + q → get_or (front ++ ws) p 0 ≡ get_or ws q 0
    at p q e = ap (λ (x : ℕ). get_or (front ++ ws) x 0) (e ∙ ap (λ (n : ℕ). n + q) (sym long)) ∙ get_or-append-add front ws q 0

    words : (n p q : ℕ) → p ≡ 10 + q → words_at n (front ++ ws) p ≡ words_at n ws q
    words zero p q e = refl
    words (suc n) p q e = ap₂ (λ (x : ℕ) (l : List ℕ). x ∷ l) (at p q e) (words n (suc p) (suc q) (omega arith))

-- Row k is record k.
row-at : (ds : List Definition) (k : ℕ) → k < length ds → definition_at 10 (rows_of_records ds) k ≡ definition_of (get_or ds k no_record)
row-at [] k h = absurd (omega arith)
row-at (d ∷ ds) zero h = refl
row-at (d ∷ ds) (suc k) h = row_on (row_of_record d) (rows_of_records ds) refl k ∙ row-at ds k (omega arith)

rows-from : (ds : List Definition) (k c : ℕ) → k + c ≤ length ds
    → map (definition_at 10 (rows_of_records ds)) (counted k c) ≡ map definition_of (take c (drop k ds))
rows-from ds k zero h = refl
rows-from ds k (suc c) h =
    ap₂ (λ (d : Turns.Definition) (t : List Turns.Definition). d ∷ t) (row-at ds k (omega arith)) (rows-from ds (suc k) c (omega arith))
    ∙ ap (λ (x : List Definition). map definition_of (take (suc c) x)) (sym (drop-cons ds k no_record (omega arith)))

pub rows-define : (ds : List Definition) → definitions 10 (rows_of_records ds) ≡ map definition_of ds
unfolding definitions range
rows-define ds =
    let n : row_count 10 (rows_of_records ds) - 0 ≡ length ds = omega (arith, records_rows_length ds) in
    ap (λ (c : ℕ). map (definition_at 10 (rows_of_records ds)) (counted 0 c)) n ∙ rows-from ds 0 (length ds) (omega arith)
    ∙ ap (map definition_of) (take_all (length ds) ds (omega arith))

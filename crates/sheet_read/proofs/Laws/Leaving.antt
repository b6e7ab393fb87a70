-- What the questions and the reader leave, by each way out.
use mathlib.Core.Path.{◌≡◌, refl, sym, ap, ◌∙◌}
use mathlib.Core.Bool.{true, false, ◌&&◌}
use mathlib.Core.List.{List, ◌++◌}
use Prim.Native.Nat.{ℕ, ◌+◌, ◌-◌, ◌≤◌}
use native.Mathlib.Omega.{arith}
use lib.Dec.{leb}
use lib.ListN.{take, drop, replicate, length-replicate, replicate-append-replicate}
use lib.Seq.{take_at, drop_at}
use Rattle.base.specs.Limits as limits
use Rattle.base.specs.Limits.{Limits}
use Rattle.base.proofs.Laws.Truth.{not-both}
use Rattle.std.specs.Prelude.{Ok, Err, is_ok}
use Rattle.sheet.specs.declared.Refusal.TheVariants.{NoRoom}
use Rattle.sheet.specs.Verdict.{Outcome, empty_tables, verdict, read_tables, left_tables}
use Rattle.sheet_read.specs.Inner.Verdict.{SheetLeft}
use Rattle.sheet_read.specs.Inner.Asked.{Asked, SheetTaken}

-- ---- zeros, the first n of which are lent

abbrev zeros : ℕ → List ℕ
zeros n = replicate n 0

module _ (n m : ℕ) (h : n ≤ m) where
  zeros_split : zeros m ≡ zeros n ++ zeros (m - n)
  zeros_split = let e : m ≡ n + (m - n) = omega arith in ap zeros e ∙ sym (replicate-append-replicate {A = ℕ} n (m - n) 0)

  zeros-front : take n (zeros m) ≡ zeros n
  zeros-front = ap (take n) zeros_split ∙ take_at (zeros n) (zeros (m - n)) n (length-replicate {A = ℕ} n 0)

  zeros-rest : drop n (zeros m) ≡ zeros (m - n)
  zeros-rest = ap (drop n) zeros_split ∙ drop_at (zeros n) (zeros (m - n)) n (length-replicate {A = ℕ} n 0)

module _ (t : List ℕ) (room : ℕ) (zeroed : t ≡ replicate room 0) (enough : limits.table_entries ≤ room) where
  pub lent-blank : take limits.table_entries t ≡ empty_tables
  unfolding empty_tables
  lent-blank = ap (take limits.table_entries) zeroed ∙ zeros-front limits.table_entries room enough

  pub rest-zeros : drop limits.table_entries t ≡ replicate (room - limits.table_entries) 0
  rest-zeros = ap (drop limits.table_entries) zeroed ∙ zeros-rest limits.table_entries room enough

-- ---- what the tables hold

rows_left_lem : (s : List ℕ) (room : ℕ) (r : Outcome) → is_ok r ≡ true → read_tables s ++ replicate (room - limits.table_entries) 0 ≡ left_tables s room r
rows_left_lem s room (Ok x) p = refl
rows_left_lem s room (Err r) p = absurd (not-both p refl)

zeros-left : (s : List ℕ) (room : ℕ) (r : Outcome) → is_ok r ≡ false → replicate room 0 ≡ left_tables s room r
zeros-left s room (Ok x) p = absurd (not-both refl p)
zeros-left s room (Err r) p = refl

-- ---- the ways out

-- Of the questions.
module _ (lim : Limits) (s : List ℕ) (room long : ℕ) (t : List ℕ) where
  pub no_room_lem : (leb limits.table_entries room && leb lim.work long) ≡ false → SheetTaken lim s room long (Err NoRoom) t
  unfolding verdict
  no_room_lem few = record { came-to = sym (rw few); tabled = λ p. absurd (not-both p refl) }

  pub room-taken : (leb limits.table_entries room && leb lim.work long) ≡ true → (r : Outcome) (e : List ℕ) → Asked lim s r e → t ≡ e ++ replicate (room - limits.table_entries) 0
      → SheetTaken lim s room long r t
  unfolding verdict
  room-taken enough r e k is = record {
    came-to = k.came-to ∙ sym (rw enough);
    tabled = λ p. is ∙ ap (λ (l : List ℕ). l ++ replicate (room - limits.table_entries) 0) (k.tabled p) ∙ rows_left_lem s room r p;
  }

-- Of the reader.
module _ (lim : Limits) (s : List ℕ) (room long : ℕ) (r : Outcome) (t : List ℕ) (k : SheetTaken lim s room long r t) (w : List ℕ) (worked : w ≡ replicate long 0) where
  pub read_leaves_rows : is_ok r ≡ true → SheetLeft lim s room long r t w
  read_leaves_rows p = record { came-to = k.came-to; tabled = k.tabled p; worked = worked }

  pub leaves-zeros : is_ok r ≡ false → (u : List ℕ) → u ≡ replicate room 0 → SheetLeft lim s room long r u w
  leaves-zeros p u is = record { came-to = k.came-to; tabled = is ∙ zeros-left s room r p; worked = worked }

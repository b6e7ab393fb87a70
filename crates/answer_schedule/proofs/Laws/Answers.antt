-- The words of all answers, the last of the lent ones: lent on, and back again.
use mathlib.Core.Path.{◌≡◌, ap, ◌∙◌}
use mathlib.Core.List.{List, [], ◌++◌, append-nil}
use Prim.Native.Nat.{ℕ, ◌+◌, ◌-◌, ◌≤◌, ◌<◌}
use native.Mathlib.Omega.{arith}
use lib.ListN.{length, get_or, take, drop, length-drop, get_or-append}
use lib.Seq.{take_all, drop_at, drop-length, get_or-take, length-take-le}
use borrow.Rule.Slice.PartMut.{mid_of, post_of, put_mid, same_len_mid}
use Rattle.base.specs.Limits as limits
use Rattle.names_width.specs.declared.Width.{Width}
use Rattle.answer_blocks.specs.Inner.Layout.{answers_size, word_at}
use Rattle.definition_state.specs.Inner.Table.{answers_of, count_at, Based}
use Rattle.scope_walk.specs.Inner.Sheets.{query_count}
use Rattle.answer_schedule.proofs.Laws.Bases.{Roomy}

-- They are the last m.
module _ (v : Width) (w : List ℕ) (m : ℕ) (m-is : m ≡ answers_size v) (enough : answers_size v ≤ length w) where
  -- The part that is lent.
  pub lent_is : mid_of (length w - m) (length w - (length w - m)) w ≡ answers_of v w
  lent_is =
      take_all (length w - (length w - m)) (drop (length w - m) w) (omega (arith, length-drop (length w - m) w))
      ∙ ap (λ (n : ℕ). drop (length w - n) w) m-is

  pub lent-long : answers_size v ≤ length (mid_of (length w - m) (length w - (length w - m)) w)
  lent-long = omega (arith, ap length lent_is, length-drop (length w - answers_size v) w)

  -- It has room for the places of a query.
  pub lent-room : (t : List ℕ) → Based v t (answers_of v w) → Roomy t → (q : ℕ) → 1 ≤ q → q ≤ query_count t → (n : ℕ) → n ≡ count_at t q
      → word_at v (mid_of (length w - m) (length w - (length w - m)) w) q 3 + n ≤ limits.most_statements
  lent-room t based roomy q low high n is =
      omega (arith, ap (λ (l : List ℕ). word_at v l q 3) lent_is, based q low high, roomy q low high, is)

  -- When it is back as p, those are the answers, and the words in front of them are as they were.
  module _ (p : List ℕ) (long : length p ≡ length (mid_of (length w - m) (length w - (length w - m)) w)) where
    abbrev pub answers_back : List ℕ
    answers_back = put_mid (length w - m) (length w - (length w - m)) w p

    pub answers_back-length : length answers_back ≡ length w
    answers_back-length = same_len_mid (length w - m) (length w - (length w - m)) w p long

    front_long : length (take (length w - m) w) ≡ length w - m
    front_long = length-take-le (length w - m) w (omega arith)

    none_after : post_of (length w - m) (length w - (length w - m)) w ≡ []
    none_after =
        let d = drop (length w - m) w in
        let e : length w - (length w - m) ≡ length d = omega (arith, length-drop (length w - m) w) in
        ap (λ (k : ℕ). drop k d) e ∙ drop-length d

    pub back-answers : answers_of v answers_back ≡ p
    back-answers =
        let first : length answers_back - answers_size v ≡ length w - m = omega (arith, answers_back-length, m-is) in
        ap (λ (k : ℕ). drop k answers_back) first
        ∙ drop_at (take (length w - m) w) (p ++ post_of (length w - m) (length w - (length w - m)) w) (length w - m) front_long
        ∙ ap (λ (l : List ℕ). p ++ l) none_after ∙ append-nil p

    pub back-front : (j : ℕ) → j < length w - answers_size v → get_or answers_back j 0 ≡ get_or w j 0
    back-front j l =
        get_or-append (take (length w - m) w) (p ++ post_of (length w - m) (length w - (length w - m)) w) 0 j (omega (arith, front_long, m-is))
        ∙ get_or-take (length w - m) w j 0 (omega (arith, l, m-is))

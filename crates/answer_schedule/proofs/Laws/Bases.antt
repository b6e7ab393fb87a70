-- Laws of `Bases`.
use mathlib.Core.Path.{◌≡◌, refl, sym, ap, ◌∙◌}
use mathlib.Core.List.Memᴰ
use mathlib.Core.List.{List, []}
use mathlib.Core.Logic.{◌⊎◌, inl, inr}
use Prim.Native.Nat.{ℕ, zero, suc, ◌+◌, ◌-◌, ◌*◌, ◌≤◌, ◌<◌}
use native.Mathlib.Omega.{arith}
use lib.ListN.{length, get_or, set, length-set}
use lib.Seq.{get_or-drop, get_or-set_same, get_or-set_other}
use Rattle.base.specs.Limits as limits
use Rattle.base.proofs.Laws.Truth.{eq_cases}
use Rattle.names_width.specs.declared.Width.{Width}
use Rattle.names_width.specs.declared.Width.TheVariants.{Two, Eight}
use Rattle.names_width.specs.Inner.Widths.{set_words, names}
use Rattle.names_width.proofs.Laws.Laws.{names_are}
use Rattle.answer_blocks.specs.Inner.Layout.{block_size, answers_size, word_at}
use Rattle.definition_room.specs.Inner.Sums.{sum_to}
use Rattle.definition_room.proofs.Laws.LowNames.{names-under}
use Rattle.definition_room.proofs.Laws.Bases.{base, base-fits}
use Rattle.scope_walk.specs.Inner.Sheets.{counts_at, special_at, sheet_at, Accepted, name_count, query_count}
use Rattle.definition_state.specs.Inner.Table.{answers_of, count_at, base_at, Table}
use Rattle.answer_schedule.proofs.Laws.Counts.{count-few}
use Rattle.answer_schedule.specs.Inner.Bases.{FreshTo}

-- ---- sums

module _ (g : ℕ → ℕ) where
  pub sum_none : 0 ≡ sum_to g 0
  unfolding sum_to
  sum_none = refl

  pub sum_next : (n : ℕ) → sum_to g (n + 1) ≡ sum_to g n + g (n + 1)
  unfolding sum_to
  sum_next n = let e : n + 1 ≡ suc n = omega arith in rw e

  sum_few : (m : ℕ) → ((q : ℕ) → g q ≤ m) → (n : ℕ) → sum_to g n ≤ m * n
  unfolding sum_to
  sum_few m low zero = omega arith
  sum_few m low (suc n) = let e : m * suc n ≡ m * n + m = omega arith in omega (arith, e, sum_few m low n, low (suc n))

  sum_on : (n k : ℕ) → sum_to g n ≤ sum_to g (n + k)
  unfolding sum_to
  sum_on n zero = let e : n + 0 ≡ n = omega arith in omega (arith, ap (sum_to g) e)
  sum_on n (suc k) = let e : n + suc k ≡ suc (n + k) = omega arith in omega (arith, ap (sum_to g) e, sum_on n k)

-- ---- words written among the answers

-- At k of them, which is at p of all words.
module _ (v : Width) (w : List ℕ) (enough : answers_size v ≤ length w) (p k : ℕ) (is : p ≡ length w - answers_size v + k) (x : ℕ) where
  put_at : (i : ℕ) → get_or (answers_of v (set w p x)) i 0 ≡ get_or (set w p x) (length w - answers_size v + i) 0
  put_at i =
      let u = set w p x in
      get_or-drop (length u - answers_size v) u i 0 ∙ ap (λ (n : ℕ). get_or u (n - answers_size v + i) 0) (length-set w p x)

  put_same : k < answers_size v → get_or (answers_of v (set w p x)) k 0 ≡ x
  put_same l =
      put_at k ∙ ap (λ (i : ℕ). get_or (set w p x) i 0) (sym is) ∙ get_or-set_same w p x 0 (omega (arith, is))

  put_other : (i : ℕ) → (i ≡ k → ⊥) → get_or (answers_of v (set w p x)) i 0 ≡ get_or (answers_of v w) i 0
  put_other i ne =
      put_at i ∙ get_or-set_other w p (length w - answers_size v + i) x 0 (λ e. ne (omega (arith, e)))
      ∙ sym (get_or-drop (length w - answers_size v) w i 0)

-- A word of the block of query n + 1 lies among the answers, and apart from the words of other blocks.
pub block_inside : (v : Width) (n i : ℕ) → n < limits.most_queries → i < 4 → block_size v * n + i < answers_size v
block_inside Two n i few low = omega arith
block_inside Eight n i few low = omega arith

blocks_apart : (v : Width) (q n i j : ℕ) → 1 ≤ q → i < 4 → j < 4 → block_size v * (q - 1) + i ≡ block_size v * n + j → (q ≡ n + 1) × (i ≡ j)
blocks_apart Two q n i j l a b e = (omega arith, omega arith)
blocks_apart Eight q n i j l a b e = (omega arith, omega arith)

-- Word i of the block of query n + 1 is set to x.
module _ (v : Width) (w : List ℕ) (enough : answers_size v ≤ length w) (n i : ℕ) (few : n < limits.most_queries) (low : i < 4) (p : ℕ)
    (is : p ≡ length w - answers_size v + (block_size v * n + i)) (x : ℕ) where
  word_set : (q : ℕ) → q ≡ n + 1 → word_at v (answers_of v (set w p x)) q i ≡ x
  word_set q e =
      let f : q - 1 ≡ n = omega arith in
      ap (λ (m : ℕ). get_or (answers_of v (set w p x)) (block_size v * m + i) 0) f
      ∙ put_same v w enough p (block_size v * n + i) is x (block_inside v n i few low)

  word-other : (q j : ℕ) → 1 ≤ q → j < 4 → ((q ≡ n + 1) → (j ≡ i) → ⊥) → word_at v (answers_of v (set w p x)) q j ≡ word_at v (answers_of v w) q j
  word-other q j l b ne =
      put_other v w enough p (block_size v * n + i) is x (block_size v * (q - 1) + j)
      (λ e. let s = blocks_apart v q n j i l b low e in ne s.0 s.1)

-- ---- bases

module _ (t : List ℕ) where
  -- Later queries begin behind earlier ones.
  pub base_apart : (p q : ℕ) → 1 ≤ p → p < q → base_at t p + count_at t p ≤ base_at t q
  base_apart p q low l =
      let e : (p - 1) + 1 ≡ p = omega arith in
      let f : p + (q - 1 - p) ≡ q - 1 = omega arith in
      omega (arith, sum_next (count_at t) (p - 1), ap (sum_to (count_at t)) e, ap (count_at t) e, sum_on (count_at t) p (q - 1 - p), ap (sum_to (count_at t)) f)

  -- There is room for the places of each query: in every sheet that passes the questions 1 to 6.
  abbrev pub Roomy : Type 0
  Roomy = (q : ℕ) → 1 ≤ q → q ≤ query_count t → base_at t q + count_at t q ≤ limits.most_statements

  pub roomy : Accepted t → Roomy
  unfolding sheet_at base
  roomy ok q low high = base-fits (counts_at t) (special_at t) t ok.within ok.fine q low high

  pub bases_few : Accepted t → (n : ℕ) → sum_to (count_at t) n ≤ limits.most_statements * n
  bases_few ok = sum_few (count_at t) limits.most_statements (count-few t ok)

  -- ---- how they are written

  module _ (v : Width) where
    -- The bases of the first n queries are written, and no query is analysed.
    pub record BasedTo (w : List ℕ) (n : ℕ) : Type 0 where
      pub fresh : FreshTo v w limits.most_queries
      pub based : (q : ℕ) → 1 ≤ q → q ≤ n → word_at v (answers_of v w) q 3 ≡ base_at t q

    pub based-none : (w : List ℕ) → FreshTo v w limits.most_queries → BasedTo w 0
    based-none w fresh = record { fresh = fresh; based = λ q l h. absurd (omega arith) }

    module _ (w : List ℕ) (n : ℕ) (h : BasedTo w n) (enough : answers_size v ≤ length w) where
      pub based-next : n < limits.most_queries → (p : ℕ) → p ≡ length w - answers_size v + (block_size v * n + 3) → (x : ℕ) → x ≡ sum_to (count_at t) n
          → BasedTo (set w p x) (n + 1)
      based-next few p is x sum = record {
        fresh = λ q l u. other q 0 l (omega arith) (λ e f. omega (arith, f)) ∙ h.fresh q l u;
        based = λ q l u. go q l u (eq_cases q (n + 1));
      }
        where
          other : (q j : ℕ) → 1 ≤ q → j < 4 → ((q ≡ n + 1) → (j ≡ 3) → ⊥) → word_at v (answers_of v (set w p x)) q j ≡ word_at v (answers_of v w) q j
          other = word-other v w enough n 3 few (omega arith) p is x

          go : (q : ℕ) → 1 ≤ q → q ≤ n + 1 → (q ≡ n + 1) ⊎ (q ≡ n + 1 → ⊥) → word_at v (answers_of v (set w p x)) q 3 ≡ base_at t q
          go q l u (inl e) =
              let m : n ≡ q - 1 = omega (arith, e) in
              word_set v w enough n 3 few (omega arith) p is x q e ∙ sum ∙ ap (sum_to (count_at t)) m
          go q l u (inr ne) = other q 3 l (omega arith) (λ e f. ne e) ∙ h.based q l (omega (arith, u, ne))

      -- The table of no schedule, where the sheet has no more names than the width has room for.
      pub no_schedule : Accepted t → name_count t ≤ names v → query_count t ≤ n → Table v t w []
      unfolding sheet_at
      no_schedule ok low all = record {
        enough = enough;
        stored = h.fresh;
        based = λ q l u. h.based q l (omega arith);
        fits = λ a m. absurd (Memᴰ.not-nil m);
        narrow = names-under (64 * set_words v) (counts_at t) (special_at t) t ok.within ok.facts (omega (arith, low, names_are v));
        low = λ a m. absurd (Memᴰ.not-nil m);
      }

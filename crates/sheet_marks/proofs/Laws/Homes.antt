-- Laws of `Homes`.
use mathlib.Core.Path.{◌≡◌, refl, sym, ap, ◌∙◌, subst}
use mathlib.Core.Bool.{Bool, true, false, cond}
use mathlib.Core.List.{List, [], ◌∷◌}
use mathlib.Core.Logic.{◌⊎◌, inl, inr, ⊎_elim}
use Prim.Native.Nat.{ℕ, zero, suc, ◌+◌, ◌/◌, ◌%◌, ◌≤◌, ◌<◌}
use native.Mathlib.Omega.{arith}
use lib.Dec.{eqb}
use lib.ListN.{length, get_or, set, length-set, get_or-eq_default}
use lib.Seq.{get_or-set_same, get_or-set_other}
use borrow.Author.Tests.{eqb-true, eqb-false, le-leb, lt-leb, le-ltb, lt-ltb}
use Rattle.base.specs.Inner.Sizes as sizes
use Rattle.base.specs.Limits as limits
use Rattle.base.proofs.Laws.Truth.{bool_cases, lt_cases}
use Rattle.sheet.specs.Naming.{Naming, namers, upwards, in_chain}
use Rattle.sheet.specs.Nesting.{grown, lying, enclosing_of}
use Rattle.sheet.proofs.Laws.GrownLaws.{grown-length, grown-at, grown-before}
use Rattle.sheet_marks.specs.Inner.Codes.{once_of, code_of}
use Rattle.sheet_marks.proofs.Laws.Codes.{once_so}
use Rattle.sheet_marks.specs.Inner.Marks.{Marks}
use Rattle.sheet_marks.specs.Inner.Homes.{SettledHomes, settled, home_of, settle_next}

pub settled-start : (ns : List Naming) (w : List ℕ) → Marks ns w → SettledHomes ns limits.most_queries w
settled-start ns w m = record {
  room = m.room;
  low = λ j h. ap (λ (v : ℕ). v % 8) (m.code j h);
  queries = λ j h. m.code j (omega arith);
  later = λ j h l. m.code j h;
  homes = λ j h l. absurd (omega arith);
}

-- ---- what a mark becomes

once_home : (up chain : Bool) (p h : ℕ) → settled (once_of up chain p) h / 8 ≡ cond up h 0
unfolding settled
once_home true true p h = rw (once_so true true p) (omega arith)
once_home true false p h = rw (once_so true false p) (omega arith)
once_home false chain p h = refl

pub once-place : (up chain : Bool) (p : ℕ) → once_of up chain p / 8 ≡ cond up p 0
once-place true true p = omega arith
once-place true false p = omega arith
once-place false chain p = refl

many_home : (b : Bool) (h : ℕ) → ◌≡◌ {A = ℕ} (settled (cond b 6 2) h / 8) 0
unfolding settled
many_home true h = refl
many_home false h = refl

settled-low : (v h : ℕ) → settled v h % 8 ≡ v % 8
unfolding settled
settled-low v h = go (bool_cases (eqb (v % 4) 1))
  where
    go : (eqb (v % 4) 1 ≡ true) ⊎ (eqb (v % 4) 1 ≡ false) → settled v h % 8 ≡ v % 8
    go (inl p) = rw p (omega arith)
    go (inr p) = rw p

-- The query of a row with these namings, by the queries l of the rows before.
pub settled_home : (l : List ℕ) (k : ℕ) (xs : List Naming) (home : ℕ → ℕ) → ((p : ℕ) → home p ≡ get_or l p 0)
    → settled (code_of k xs) (home (code_of k xs / 8)) / 8 ≡ lying l k xs
unfolding settled
settled_home l k [] home e = refl
settled_home l k (x ∷ []) home e =
    once_home (upwards x.by k) x.chain x.place (home (once_of (upwards x.by k) x.chain x.place / 8))
    ∙ ap (λ (p : ℕ). cond (upwards x.by k) (home p) 0) (once-place (upwards x.by k) x.chain x.place)
    ∙ go (upwards x.by k)
  where
    go : (b : Bool) → cond b (home (cond b x.place 0)) 0 ≡ cond b (get_or l x.place 0) 0
    go true = e x.place
    go false = refl
settled_home l k (x ∷ y ∷ xs) home e = many_home (in_chain k (x ∷ y ∷ xs)) (home (code_of k (x ∷ y ∷ xs) / 8))

-- ---- the query of an earlier row

module _ (ns : List Naming) (n : ℕ) (w : List ℕ) (s : SettledHomes ns n w) (big : limits.most_queries ≤ n) where
  query_home : (p : ℕ) → p ≤ limits.most_queries → p ≡ get_or (grown (enclosing_of ns) n) p 0
  unfolding grown
  query_home zero h = grown-zero n
    where
      grown-zero : (n : ℕ) → 0 ≡ get_or (grown (enclosing_of ns) n) 0 0
      grown-zero n = grown-before (enclosing_of ns) n 0 0 (omega arith) (omega arith)
  query_home (suc p) h =
      sym (grown-at (enclosing_of ns) n p (omega arith)
      ∙ ap (λ (b : Bool). cond b (suc p) (lying (grown (enclosing_of ns) p) (suc p) (namers (suc p) ns))) (le-leb (suc p) limits.most_queries h))

  pub home_is : (p : ℕ) → home_of n p w ≡ get_or (grown (enclosing_of ns) n) p 0
  unfolding home_of
  home_is p = go (lt_cases n p) (lt_cases limits.most_queries p)
    where
      go : (n < p) ⊎ (p ≤ n) → (limits.most_queries < p) ⊎ (p ≤ limits.most_queries) → home_of n p w ≡ get_or (grown (enclosing_of ns) n) p 0
      go (inl l) q =
          rw (lt-ltb n p l) (sym (get_or-eq_default (grown (enclosing_of ns) n) 0 {n = p} (omega (arith, grown-length (enclosing_of ns) n))))
      go (inr l) (inl q) = rw (le-ltb n p l, lt-leb p limits.most_queries q) (s.homes p q l)
      go (inr l) (inr q) = rw (le-ltb n p l, le-leb p limits.most_queries q) (query_home p q)

  next_home : (k : ℕ) → k ≡ suc n → k < sizes.per_row
      → settled (get_or w k 0) (home_of n (get_or w k 0 / 8) w) / 8 ≡ get_or (grown (enclosing_of ns) (suc n)) k 0
  next_home k e h =
      ap (λ (v : ℕ). settled v (home_of n (v / 8) w) / 8) (s.later k h (omega arith))
      ∙ settled_home (grown (enclosing_of ns) n) k (namers k ns) (λ p. home_of n p w) home_is
      ∙ sym (ap (λ (j : ℕ). get_or (grown (enclosing_of ns) (suc n)) j 0) e ∙ grown-at (enclosing_of ns) (suc n) n (omega arith)
      ∙ ap (λ (b : Bool). cond b (suc n) (lying (grown (enclosing_of ns) n) (suc n) (namers (suc n) ns))) (lt-leb (suc n) limits.most_queries (omega arith))
      ∙ ap (λ (j : ℕ). lying (grown (enclosing_of ns) n) j (namers j ns)) (sym e))

  -- One row more.
  pub settled-next : n + 1 < sizes.per_row → SettledHomes ns (n + 1) (settle_next n w)
  unfolding settle_next
  settled-next h =
      let r = s.room in
      let k = n + 1 in
      let v = settled (get_or w (n + 1) 0) (home_of n (get_or w (n + 1) 0 / 8) w) in
      let here : get_or (set w (n + 1) v) (n + 1) 0 ≡ v = get_or-set_same w (n + 1) v 0 (omega arith) in
      record {
        room = omega (arith, length-set w (n + 1) v);
        low = λ j l. ⊎_elim
            (λ (q : eqb (n + 1) j ≡ true).
            subst (λ (i : ℕ). get_or (set w (n + 1) v) i 0 % 8 ≡ code_of i (namers i ns) % 8) (eqb-true (n + 1) j q)
            (ap (λ (u : ℕ). u % 8) here ∙ settled-low (get_or w (n + 1) 0) (home_of n (get_or w (n + 1) 0 / 8) w) ∙ s.low (n + 1) h))
            (λ (q : eqb (n + 1) j ≡ false).
            ap (λ (u : ℕ). u % 8) (get_or-set_other w (n + 1) j v 0 (λ z. eqb-false (n + 1) j q (sym z))) ∙ s.low j l)
            (bool_cases (eqb (n + 1) j));
        queries = λ j l. get_or-set_other w (n + 1) j v 0 (λ z. omega arith) ∙ s.queries j l;
        later = λ j l q. get_or-set_other w (n + 1) j v 0 (λ z. omega arith) ∙ s.later j l (omega arith);
        homes = λ j l q. ⊎_elim
            (λ (z : eqb (n + 1) j ≡ true).
            subst (λ (i : ℕ). get_or (set w (n + 1) v) i 0 / 8 ≡ get_or (grown (enclosing_of ns) (n + 1)) i 0) (eqb-true (n + 1) j z)
            (ap (λ (u : ℕ). u / 8) here ∙ next_home (n + 1) (omega arith) h
            ∙ ap (λ (i : ℕ). get_or (grown (enclosing_of ns) i) (n + 1) 0) (omega arith)))
            (λ (z : eqb (n + 1) j ≡ false).
            let ne = eqb-false (n + 1) j z in
            ap (λ (u : ℕ). u / 8) (get_or-set_other w (n + 1) j v 0 (λ y. ne (sym y))) ∙ s.homes j l (omega arith)
            ∙ grown-before (enclosing_of ns) (n + 1) n j (omega arith) (omega arith))
            (bool_cases (eqb (n + 1) j));
      }

-- The marks tell the level that the definition has, and a walk upwards finds it.
use mathlib.Core.Path.{◌≡◌, refl, sym, ap, ◌∙◌, subst}
use mathlib.Core.Bool.{Bool, true, false, cond}
use mathlib.Core.List.{List, [], ◌∷◌}
use mathlib.Core.Logic.{◌⊎◌, inl, inr}
use Prim.Native.Nat.{ℕ, zero, suc, ◌+◌, ◌-◌, ◌/◌, ◌%◌, ◌≤◌, ◌<◌}
use native.Mathlib.Omega.{arith}
use lib.Dec.{eqb}
use lib.ListN.{get_or, get_or-eq_default}
use borrow.Author.Tests.{eq-eqb, ne_eqb, le-leb, lt-leb}
use Rattle.base.specs.Limits as limits
use Rattle.base.proofs.Laws.Truth.{lt_cases}
use Rattle.sheet.specs.declared.Counts.{Counts}
use Rattle.sheet.specs.Naming.{expr_row, Naming, namers, upwards, in_chain, namings}
use Rattle.sheet.specs.Nesting.{grown, lying, enclosing_of, enclosing, parent, deeper, level_in, level}
use Rattle.sheet.proofs.Laws.GrownLaws.{grown-length, grown-at, grown-before}
use Rattle.sheet_marks.specs.Inner.Codes.{once_of, code_of}
use Rattle.sheet_marks.proofs.Laws.Codes.{once_so}
use Rattle.sheet_marks.specs.Inner.Homes.{home_of, SettledHomes}
use Rattle.sheet_marks.proofs.Laws.Homes.{home_is, once-place}
use Rattle.sheet_levels.specs.Inner.Levels.{parent_by, level_by}
use Rattle.sheet_levels.proofs.Laws.Levels.{level_after}
use Rattle.sheet.specs.Inner.Rows.{in_tables}

-- ---- every row lies in one of 32 queries, or in none

lying_small : (l : List ℕ) (k : ℕ) (xs : List Naming) → ((p : ℕ) → get_or l p 0 ≤ limits.most_queries) → lying l k xs ≤ limits.most_queries
lying_small l k [] h = omega arith
lying_small l k (x ∷ []) h = go (upwards x.by k)
  where
    go : (b : Bool) → cond b (get_or l x.place 0) 0 ≤ limits.most_queries
    go true = h x.place
    go false = omega arith
lying_small l k (x ∷ y ∷ xs) h = omega arith

module _ (ns : List Naming) where
  step_small : (l : List ℕ) (k : ℕ) → ((p : ℕ) → get_or l p 0 ≤ limits.most_queries) → enclosing_of ns l k ≤ limits.most_queries
  step_small l k h = go (lt_cases limits.most_queries k)
    where
      go : (limits.most_queries < k) ⊎ (k ≤ limits.most_queries) → enclosing_of ns l k ≤ limits.most_queries
      go (inl q) = rw (lt-leb k limits.most_queries q) (lying_small l k (namers k ns) h)
      go (inr q) = rw (le-leb k limits.most_queries q) q

  pub grown_small : (n p : ℕ) → get_or (grown (enclosing_of ns) n) p 0 ≤ limits.most_queries
  unfolding grown
  grown_small zero zero = omega arith
  grown_small zero (suc p) = omega arith
  grown_small (suc n) p = go (grown_small n) (lt_cases p (suc n)) (lt_cases (suc n) p)
    where
      go : ((j : ℕ) → get_or (grown (enclosing_of ns) n) j 0 ≤ limits.most_queries) → (p < suc n) ⊎ (suc n ≤ p) → (suc n < p) ⊎ (p ≤ suc n) → get_or (grown (enclosing_of ns) (suc n)) p 0 ≤ limits.most_queries
      go ih (inl l) q =
          subst (λ (v : ℕ). v ≤ limits.most_queries) (grown-before (enclosing_of ns) (suc n) n p (omega arith) (omega arith)) (ih p)
      go ih (inr l) (inl q) =
          subst (λ (v : ℕ). v ≤ limits.most_queries)
          (sym (get_or-eq_default (grown (enclosing_of ns) (suc n)) 0 {n = p} (omega (arith, grown-length (enclosing_of ns) (suc n))))) (omega arith)
      go ih (inr l) (inr q) =
          let e : suc n ≡ p = omega arith in
          subst (λ (k : ℕ). get_or (grown (enclosing_of ns) (suc n)) k 0 ≤ limits.most_queries) e
          (subst (λ (v : ℕ). v ≤ limits.most_queries) (sym (grown-at (enclosing_of ns) (suc n) n (omega arith)))
          (step_small (grown (enclosing_of ns) n) (suc n) ih))

-- ---- the query above

many : (b : Bool) (h : ℕ) → cond (eqb (cond b 6 2 % 4) 1) h 0 ≡ 0
many true h = refl
many false h = refl

code-above : (l : List ℕ) (k : ℕ) (xs : List Naming) (home : ℕ → ℕ) → ((p : ℕ) → home p ≡ get_or l p 0)
    → cond (eqb (code_of k xs % 4) 1) (home (code_of k xs / 8)) 0 ≡ lying l k xs
code-above l k [] home e = refl
code-above l k (x ∷ []) home e =
    ap (λ (b : Bool). cond b (home (once_of (upwards x.by k) x.chain x.place / 8)) 0) (once_so (upwards x.by k) x.chain x.place)
    ∙ ap (λ (p : ℕ). cond (upwards x.by k) (home p) 0) (once-place (upwards x.by k) x.chain x.place)
    ∙ go (upwards x.by k)
  where
    go : (b : Bool) → cond b (home (cond b x.place 0)) 0 ≡ cond b (get_or l x.place 0) 0
    go true = e x.place
    go false = refl
code-above l k (x ∷ y ∷ xs) home e = many (in_chain k (x ∷ y ∷ xs)) (home (code_of k (x ∷ y ∷ xs) / 8))

module _ (c : Counts) (t w : List ℕ) (s : SettledHomes (namings c (in_tables t)) (expr_row c.exprs) w) where
  parent_is : (q : ℕ) → q ≤ limits.most_queries → parent_by (expr_row c.exprs) w q ≡ parent c (in_tables t) q
  unfolding parent_by parent enclosing
  parent_is q h =
      rw (le-leb q limits.most_queries h, s.queries q h)
      (code-above (grown (enclosing_of (namings c (in_tables t))) (expr_row c.exprs)) q (namers q (namings c (in_tables t))) (λ p. home_of (expr_row c.exprs) p w)
      (home_is (namings c (in_tables t)) (expr_row c.exprs) w s (omega arith)))

  parent_small : (q : ℕ) → parent c (in_tables t) q ≤ limits.most_queries
  unfolding parent enclosing
  parent_small q =
      lying_small (grown (enclosing_of (namings c (in_tables t))) (expr_row c.exprs)) q (namers q (namings c (in_tables t)))
      (grown_small (namings c (in_tables t)) (expr_row c.exprs))

  level_in_lem : (n q : ℕ) → q ≤ limits.most_queries → level_by (expr_row c.exprs) w n q ≡ level_in c (in_tables t) n q
  unfolding level_by level_in
  level_in_lem zero q h = refl
  level_in_lem (suc n) q h =
      ap (λ (p : ℕ). cond (eqb q 1) 1 (deeper (level_by (expr_row c.exprs) w n p))) (parent_is q h)
      ∙ ap (λ (l : ℕ). cond (eqb q 1) 1 (deeper l)) (level_in_lem n (parent c (in_tables t) q) (parent_small q))

  -- The level by the marks is the level.
  pub level-is : (q : ℕ) → q ≤ limits.most_queries → level_by (expr_row c.exprs) w c.queries q ≡ level c (in_tables t) q
  unfolding level
  level-is q h = level_in_lem c.queries q h

-- ---- a walk upwards

after-deeper : (s l : ℕ) → level_after s (deeper l) ≡ level_after (s + 1) l
after-deeper s zero = refl
after-deeper s (suc l) = omega arith

module _ (last : ℕ) (w : List ℕ) (n s q : ℕ) where
  pub walk-found : s < n → q ≡ 1 → s + 1 ≡ level_after s (level_by last w (n - s) q)
  unfolding level_by
  walk-found h e =
      let m : n - s ≡ suc (n - (s + 1)) = omega arith in
      sym (ap (λ (k : ℕ). level_after s (level_by last w k q)) m ∙ rw (eq-eqb q 1 e))

  pub walk_on : s < n → (q ≡ 1 → ⊥) → level_after (s + 1) (level_by last w (n - (s + 1)) (parent_by last w q)) ≡ level_after s (level_by last w (n - s) q)
  unfolding level_by
  walk_on h e =
      let m : n - s ≡ suc (n - (s + 1)) = omega arith in
      sym (ap (λ (k : ℕ). level_after s (level_by last w k q)) m
      ∙ rw (ne_eqb q 1 e) (after-deeper s (level_by last w (n - (s + 1)) (parent_by last w q))))

  pub walk-done : n ≤ s → 0 ≡ level_after s (level_by last w (n - s) q)
  unfolding level_by
  walk-done h = let m : n - s ≡ 0 = omega arith in sym (ap (λ (k : ℕ). level_after s (level_by last w k q)) m)
